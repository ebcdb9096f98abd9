-- The commands of a text: those of events, and those up to a checkpoint.
use Rattle.std.specs.Prelude.{◌≡◌, ◌≢◌, ◌≤◌, ◌+◌, ◌++◌, ℕ, Some, ◌^◌, ◌-◌, List, [], ◌∷◌, length, drop, codes, nat_eq, Option, None, if◌then◌else◌}
use Rattle.std.specs.List.{All, starts_with}
use Rattle.sipl_names.specs.Labels.{Octets}
use Rattle.sipl_records.specs.Numbers.{number_of}
use Rattle.sipl_lines.specs.CommandLines.{after_command, after_reply, first_line, is_change, is_find}

-- what is after the reply that a page has to the command of a line: a change has none there, and a question
-- has one
abbrev pub after_kept_reply : Octets → Octets → Option Octets
after_kept_reply line text =
    if is_change line then Some text else (if is_find line then after_reply text else None)

-- a text begins with an event: its command has so many octets, and its reply so many
pub record HasEvent (text : Octets) (len reply_len : ℕ) : Type 0 where
  pub within : len + reply_len ≤ length text
  pub command : after_command text ≡ Some (drop len text)
  pub reply : after_kept_reply (first_line text) (drop len text) ≡ Some (drop reply_len (drop len text))

-- a text begins with no event
abbrev pub HasNoEvent : Octets → Type 0
HasNoEvent text =
    (rest : Octets) → after_command text ≡ Some rest → after_kept_reply (first_line text) rest ≡ None

-- the number of a checkpoint, by its line: `# page NUMBER`
abbrev pub checkpoint_in : Octets → Option ℕ
checkpoint_in line =
    if starts_with nat_eq line (codes "# page ") then number_of (drop 7 line) (2 ^ 64 - 1) else None

-- a text begins with whole commands, and then there is the rest
abbrev pub Begins : List Octets → Octets → Octets → Type 0
Begins [] text rest = rest ≡ text
Begins (command ∷ others) text rest =
    (after : Octets) × (after_command text ≡ Some after) × (text ≡ command ++ after) × Begins others after rest

-- so many octets of a text are whole commands, and no whole one follows
pub record IsWhole (text : Octets) (len : ℕ) : Type 0 where
  pub commands : List Octets
  pub begins : Begins commands text (drop len text)
  pub last : after_command (drop len text) ≡ None

-- none of these commands is a checkpoint of this number
abbrev pub HasNone : ℕ → List Octets → Type 0
HasNone checkpoint commands = All (λ command. checkpoint_in (first_line command) ≢ Some checkpoint) commands

-- the first checkpoint of this number in a text is after whole commands, and then there is the rest
pub record HasCheckpoint (checkpoint : ℕ) (text rest : Octets) : Type 0 where
  pub commands : List Octets
  pub found : Octets
  pub begins : Begins commands text found
  pub others : HasNone checkpoint commands
  pub number : checkpoint_in (first_line found) ≡ Some checkpoint
  pub after : after_command found ≡ Some rest

-- no whole command of a text is a checkpoint of this number
pub record LacksCheckpoint (checkpoint : ℕ) (text : Octets) : Type 0 where
  pub commands : List Octets
  pub rest : Octets
  pub begins : Begins commands text rest
  pub others : HasNone checkpoint commands
  pub last : after_command rest ≡ None
