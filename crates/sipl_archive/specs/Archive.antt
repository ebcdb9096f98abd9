-- The first and the last lines of an archived page.
use Rattle.std.specs.Prelude.{◌≡◌, ℕ, ◌^◌, ◌-◌, ◌&&◌, false, decimal, fold, max, List, [], ◌∷◌, ◌++◌, length, get_or, take, drop, Option, None, Some, codes, flat_map, if◌then◌else◌, ◌==◌}
use Rattle.std.specs.Fmt.{format_spec, padded_integral}
use Rattle.std.specs.Io.KnownBytes.{Appends}
use Rattle.sha2.specs.Hashers.{Holds256}
use Rattle.sha2.specs.Sha256.{sha256}
use Rattle.sha2.specs.declared.Sha256.{Sha256}
use Rattle.hex.specs.Hex.{encode_lower}
use Rattle.sipl_names.specs.Labels.{Octets}
use Rattle.sipl_records.specs.Fields.{fields_of}
use Rattle.sipl_records.specs.Numbers.{number_of}
use Rattle.sipl_choice.specs.Abilities.{Client}
use Rattle.sipl_choice.specs.Transports.{transport_text}
use Rattle.sipl_choice.specs.declared.families.Families.{Families}
use Rattle.sipl_choice.specs.declared.families.Families.TheVariants.{V4, V6, V4ThenV6, V6ThenV4}
use Rattle.sipl_choice.specs.declared.transport.Transport.{Transport}
use Rattle.sipl_outages.specs.declared.held.Held.{Held}
use Rattle.sipl_outages.specs.declared.held.Held.TheVariants.{Out, Last}
use Rattle.sipl_book.specs.Pages.{PageState}
use Rattle.sipl_book.specs.declared.event.Event.{Event}
use Rattle.sipl_lines.specs.ReplyText.{number_field}
use Rattle.sipl_lines.specs.CommandText.{event_lines}

-- a name in quotes
abbrev pub quoted : Octets → Octets
quoted name = 34 ∷ name ++ 34 ∷ []

-- the names of transports in quotes, with a comma and a space between them
abbrev pub transports_text : List Transport → Octets
transports_text [] = []
transports_text (transport ∷ others) =
    quoted (transport_text transport)
    ++ flat_map (λ other. codes ", " ++ quoted (transport_text other)) others

-- the families of addresses, in the order of look-ups
abbrev pub families_text : Families → Octets
families_text V4 = codes "v4"
families_text V6 = codes "v6"
families_text V4ThenV6 = codes "v4v6"
families_text V6ThenV4 = codes "v6v4"

-- the policy on held endpoints
abbrev pub held_text : Held → Octets
held_text Out = codes "out"
held_text Last = codes "last"

-- `transports = [NAMES]`
abbrev pub transports_line : List Transport → Octets
transports_line transports = codes "transports = [" ++ transports_text transports ++ 93 ∷ 10 ∷ []

-- `KEY = NAME`
abbrev pub setting_line : Octets → Octets → Octets
setting_line key name = key ++ codes " = " ++ quoted name ++ 10 ∷ []

-- the client and the policy, as settings of a line each
abbrev pub client_text : Client → Held → Octets
client_text client held =
    transports_line client.preference ++ setting_line (codes "families") (families_text client.families)
    ++ setting_line (codes "held") (held_text held)

-- `siplocd page FIRST COUNT`, the client and the policy as settings, and an empty line
abbrev pub page_head : ℕ → ℕ → Octets → Octets
page_head first count client =
    codes "siplocd page" ++ number_field first ++ number_field count ++ 10 ∷ client ++ 10 ∷ []

-- `sha256 DIGEST`
abbrev pub digest_line : List ℕ → Octets
digest_line digest = codes "sha256 " ++ encode_lower digest ++ 10 ∷ []

-- the text of a page that begins with these lines, without the digest: the lines of its events
abbrev pub body_text : Octets → List Event → Octets
body_text head events = head ++ flat_map event_lines events

-- the text of a page that begins with these lines: the last one is the digest of all before it
abbrev pub page_text : Octets → List Event → Octets
page_text head events = body_text head events ++ digest_line (sha256 (body_text head events))

-- a piece of a text is written, and digested; nothing of it is left
pub record WritesPiece (old new : Option Octets) (before after : Sha256) (piece left : Octets)
    : Type 0 where
  pub written : Appends old new piece
  pub digested : (text : Octets) → Holds256 before text → Holds256 after (text ++ piece)
  pub empty : left ≡ []

-- two numbers, if both are numbers
abbrev pub both : Option ℕ → Option ℕ → Option (ℕ × ℕ)
both (Some first) (Some count) = Some (first, count)
both _ _ = None

-- the number of a page's first event and of its events, by the fields of its first line after the first two
abbrev pub extent_in : List Octets → Option (ℕ × ℕ)
extent_in (first ∷ count ∷ []) =
    both (number_of first (2 ^ 64 - 1)) (number_of count (2 ^ 64 - 1))
extent_in _ = None

-- the run and the number of the first event in the name of a page: six digits, a dash and sixteen digits
abbrev pub page_named : Octets → Option (ℕ × ℕ)
page_named name =
    if length name == 23 && get_or name 6 0 == 45
    then both (number_of (take 6 name) (2 ^ 64 - 1)) (number_of (drop 7 name) (2 ^ 64 - 1)) else None

-- a number with zeros before it, of so many digits at least
abbrev pub padded : ℕ → ℕ → Octets
padded width n = padded_integral (format_spec 32 0 4 width (2 ^ 64 - 1)) false [] (decimal n)

-- the name of a page of a run, by the number of its first event
abbrev pub page_name : ℕ → ℕ → Octets
page_name run first = padded 6 run ++ 45 ∷ padded 16 first

-- the run in the name of a file; 0 where it is not that of a page
abbrev pub run_named : Octets → ℕ
run_named name = elim (page_named name) [ Some named ↦ named.0 | None ↦ 0 ]

-- the greatest run in names of files; 0 where none is that of a page
abbrev pub greatest_run : List Octets → ℕ
greatest_run names = fold (λ last name. max (run_named name) last) 0 names

-- the file of a page of a client
abbrev pub file_text : Octets → PageState → Octets
file_text client page =
    page_text (page_head page.first (length page.events) client) page.events

-- a text begins with the head of a page: its first line, its client's settings up to an empty line; then
-- there are its events
pub record IsHead (text : Octets) (first count : ℕ) (client events : Octets) : Type 0 where
  pub fields : Octets
  pub extent : extent_in (fields_of fields) ≡ Some (first, count)
  pub text_is : text ≡ codes "siplocd page " ++ fields ++ 10 ∷ client ++ 10 ∷ events
