-- The result of the changes of a text.
use Rattle.std.specs.Prelude.{◌≡◌, true, ◌≤◌, ◌&&◌, ◌++◌, List, [], ◌∷◌, Option, None, Some, is_some, codes, drop, length, nat_eq, if◌then◌else◌, ℕ}
use Rattle.std.specs.List.{starts_with}
use Rattle.std.specs.Option.{option_or}
use Rattle.sipl_names.specs.Labels.{Octets}
use Rattle.sipl_lines.specs.CommandLines.{after_command, after_reply, first_line, is_change}
use Rattle.sipl_archive.specs.Commands.{checkpoint_in}
use Rattle.sipl_archive.specs.declared.state.Made.{Made}

-- what is left of a text of changes, and of the replies to them, and the last checkpoint before that
pub record Remaining : Type 0 where
  pub text : Octets
  pub replies : Octets
  pub checkpoint : Option ℕ

-- what is left of the replies after that to the command of a line, if it was made: a checkpoint has none, and
-- a change that was made has one that begins with `ok`
abbrev pub after_made : Octets → Octets → Option Octets
after_made line replies =
    if is_some (checkpoint_in line) then Some replies
    else (if is_change line && starts_with nat_eq replies (codes "ok ") then after_reply replies else None)

-- the command is the first one of what is left, and was made
pub record MakesFirst (command : Octets) (before after : Remaining) : Type 0 where
  pub text_is : before.text ≡ command ++ after.text
  pub whole : after_command before.text ≡ Some after.text
  pub replied : after_made (first_line before.text) before.replies ≡ Some after.replies
  pub checkpoint : after.checkpoint ≡ option_or (checkpoint_in (first_line before.text)) before.checkpoint

-- the commands are the first ones of what is left, and were made
abbrev pub MakesAll : List Octets → Remaining → Remaining → Type 0
MakesAll [] before after = after ≡ before
MakesAll (command ∷ others) before after =
    (between : Remaining) × MakesFirst command before between × MakesAll others between after

-- The first commands of a text were made, by the replies, and with the last checkpoint. The next one was
-- refused, or none is whole.
pub record IsMade (text replies : Octets) (made : Made) : Type 0 where
  pub within : made.octets ≤ length text
  pub commands : List Octets
  pub left : Octets
  pub makes : MakesAll commands (record { text = text; replies = replies; checkpoint = None })
      (record { text = drop made.octets text; replies = left; checkpoint = made.checkpoint })
  pub refused : made.is_refused ≡ is_some (after_command (drop made.octets text))
  pub next : made.is_refused ≡ true → after_made (first_line (drop made.octets text)) left ≡ None
