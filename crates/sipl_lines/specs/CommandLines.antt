-- The lines of a text: which of them are one command or one reply, and which commands are changes.
use Rattle.std.specs.Prelude.{◌≡◌, ℕ, zero, suc, Bool, false, ◌||◌, Some, option_and_then, ◌==◌, List, [], ◌∷◌, length, codes, nat_eq, nat_lt, Option, None, unwrap_or, if◌then◌else◌}
use lib.Pointwise.{pointwise}
use Rattle.sipl_names.specs.Labels.{Octets}
use Rattle.sipl_records.specs.Fields.{fields_of}
use Rattle.sipl_records.specs.Numbers.{number_of}
use Rattle.sipl_lines.specs.Requests.{is_word}
use Rattle.sipl_lines.specs.declared.command.CommandWord.TheVariants.{Zone, Drop, Add, Del, Find, Hold, Release, Clock}
use Rattle.sipl_lines.specs.Lines.{without_cr}

-- the first line of a text, without its LF
abbrev pub first_line : Octets → Octets
first_line [] = []
first_line (c ∷ text) = if c == 10 then [] else c ∷ first_line text

-- what is after the first LF of a text, if it has one
abbrev pub after_line : Octets → Option Octets
after_line [] = None
after_line (c ∷ text) = if c == 10 then Some text else after_line text

-- what is after so many LFs
abbrev pub after_lines : ℕ → Octets → Option Octets
after_lines zero text = Some text
after_lines (suc n) text = option_and_then (after_lines n) (after_line text)

-- the count of `APEX COUNT`
abbrev pub zone_count : List Octets → Option ℕ
zone_count (apex ∷ count ∷ []) = number_of count 1048576
zone_count _ = None

-- how many lines a line with these fields takes after it: those of a zone's text, and else none
abbrev pub taken_by_fields : List Octets → ℕ
taken_by_fields [] = 0
taken_by_fields (word ∷ others) =
    if is_word Zone word then unwrap_or (zone_count others) 0 else 0

-- the same of a line without its LF: one of more than 65,536 octets is no command
abbrev pub taken_by : Octets → ℕ
taken_by line =
    if nat_lt 65536 (length (without_cr line)) then 0
    else taken_by_fields (fields_of (without_cr line))

-- what is after the first command of a text: its line, and those that it takes
abbrev pub after_command : Octets → Option Octets
after_command text = after_lines (suc (taken_by (first_line text))) text

-- a text is one command, whole
abbrev pub IsCommand : Octets → Type 0
IsCommand text = after_command text ≡ Some []

-- whether the first field of a line passes a test
abbrev pub first_passes : (Octets → Bool) → List Octets → Bool
first_passes test [] = false
first_passes test (word ∷ others) = test word

-- whether a word is that of an edit
abbrev pub edits : Octets → Bool
edits word = is_word Zone word || is_word Drop word || is_word Add word || is_word Del word

-- whether a word is that of a hold, a release, or a move of the clock
abbrev pub moves : Octets → Bool
moves word = is_word Hold word || is_word Release word || is_word Clock word

-- whether a word begins the line that ends a reply
abbrev pub ends : Octets → Bool
ends word =
    pointwise nat_eq word (codes "ok") || pointwise nat_eq word (codes "none")
    || pointwise nat_eq word (codes "err")

-- whether a line is that of a change
abbrev pub is_change : Octets → Bool
is_change line = first_passes (λ word. edits word || moves word) (fields_of line)

-- whether a line is that of a question
abbrev pub is_find : Octets → Bool
is_find line = first_passes (λ word. is_word Find word) (fields_of line)

-- whether a line is the last one of a reply
abbrev pub is_end : Octets → Bool
is_end line = first_passes ends (fields_of line)

-- what is after the first reply of a text, which ends within so many lines
abbrev pub after_reply_within : ℕ → Octets → Option Octets
after_reply_within zero text = None
after_reply_within (suc n) text =
    option_and_then (λ rest. if is_end (first_line text) then Some rest else after_reply_within n rest)
    (after_line text)

-- what is after the first reply of a text: its lines up to the one that ends it
abbrev pub after_reply : Octets → Option Octets
after_reply text = after_reply_within (length text) text
