-- The events of an archived page, carried out again one after another.
use Rattle.std.specs.Prelude.{◌≡◌, ℕ, Bool, ◌&&◌, not, List, [], ◌∷◌, ◌++◌, length, codes, flat_map, nat_eq, Ok, IsTrue, if◌then◌else◌, ◌==◌}
use Rattle.std.specs.List.{starts_with}
use lib.Pointwise.{pointwise}
use Rattle.sipl_names.specs.Labels.{Octets}
use Rattle.sipl_lines.specs.Settings.{settings_of}
use Rattle.sipl_lines.specs.declared.settings.Settings.{Settings}
use Rattle.sipl_lines.specs.CommandLines.{IsCommand, first_line, is_change, is_find}
use Rattle.sipl_archive.specs.Plain.{PlainState, new_plain, plain_rules}
use Rattle.sipl_archive.specs.Replies.{AreReplies}

-- an event: its lines, the reply after them in the page, which only a question has, and the reply to the
-- lines when they are carried out again
pub record Exchange : Type 0 where
  pub command : Octets
  pub reply : Octets
  pub told : Octets

-- an event's text in the page
abbrev pub exchange_text : Exchange → Octets
exchange_text exchange = exchange.command ++ exchange.reply

-- by the command's line: a change, which has no reply in the page, is accepted; a question's reply is the
-- same, to the octet, and is no refusal
abbrev pub is_expected : Octets → Octets → Octets → Bool
is_expected line reply told =
    if is_change line then length reply == 0 && starts_with nat_eq told (codes "ok ")
    else is_find line && pointwise nat_eq reply told && not (starts_with nat_eq told (codes "err"))

-- the plain machine replies to an event's lines, which are one command, as is expected
pub record Repeats (exchange : Exchange) (before after : PlainState) : Type 0 where
  pub one : IsCommand exchange.command
  pub replies : AreReplies plain_rules exchange.command before after exchange.told
  pub expected : IsTrue (is_expected (first_line exchange.command) exchange.reply exchange.told)

-- it does so for one event after another
abbrev pub RepeatsAll : List Exchange → PlainState → PlainState → Type 0
RepeatsAll [] before after = after ≡ before
RepeatsAll (exchange ∷ others) before after =
    (between : PlainState) × Repeats exchange before between × RepeatsAll others between after

-- a text has an event first, which is carried out again as is expected, and then the rest
pub record RepeatsFirst (text rest : Octets) (before after : PlainState) : Type 0 where
  pub exchange : Exchange
  pub text_is : text ≡ exchange_text exchange ++ rest
  pub repeats : Repeats exchange before after

-- so many events are first in a text, which are carried out again as is expected, and then there is the rest
pub record RepeatsSome (text rest : Octets) (count : ℕ) (before after : PlainState) : Type 0 where
  pub exchanges : List Exchange
  pub len : length exchanges ≡ count
  pub text_is : text ≡ flat_map exchange_text exchanges ++ rest
  pub repeats : RepeatsAll exchanges before after

-- a machine without zones and holds, at time 0, for the client and the policy of these settings
pub record IsFresh (text : Octets) (plain : PlainState) : Type 0 where
  pub settings : Settings
  pub read : settings_of text ≡ Ok settings
  pub new : plain ≡ new_plain settings.abilities settings.held
