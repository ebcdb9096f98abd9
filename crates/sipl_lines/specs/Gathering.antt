-- The lines of a zone's text, which follow its `zone` line and are taken one by one, and their zone.
use Rattle.std.specs.Prelude.{◌≡◌, ◌⊎◌, ℕ, ◌-◌, Bool, true, false, [], ◌∷◌, ◌++◌, length, Option, None, Some, option_map, Result, Ok, Err, IsTrue, nat_lt, if◌then◌else◌, codes, ◌==◌}
use Rattle.std.specs.Bool.{OnTrue, OnFalse}
use Rattle.sipl_names.specs.Labels.{Octets, Labels}
use Rattle.sipl_names.specs.NameText.{name_of}
use Rattle.sipl_names.specs.InvalidName.{code_of as name_code}
use Rattle.sipl_names.specs.declared.fault.InvalidName.{InvalidName}
use Rattle.sipl_masterfile.specs.Zones.{Zone, zone_of}
use Rattle.sipl_masterfile.specs.ZoneFault.{code_of as zone_code}
use Rattle.sipl_masterfile.specs.declared.fault.ZoneFault.{ZoneFault}
use Rattle.sipl_lines.specs.Commands.{Keeps}
use Rattle.sipl_lines.specs.ReplyText.{refusal_line, text_fault_line}
use Rattle.sipl_lines.specs.Requests.{fault_words}
use Rattle.sipl_lines.specs.declared.command.CommandWord.TheVariants as command
use Rattle.sipl_lines.specs.declared.gather.Gathered.{Gathered}
use Rattle.sipl_lines.specs.declared.gather.Gathered.TheVariants.{Lines, BadApex, LongLine, Lost}
use Rattle.sipl_lines.specs.declared.gather.Gathering.{Gathering}
use Rattle.sipl_lines.specs.declared.gather.LoadFault.{LoadFault}
use Rattle.sipl_lines.specs.declared.gather.LoadFault.TheVariants.{InApex, LineTooLong, InText, Memory}
use Rattle.sipl_lines.specs.ZoneLines.{ZoneLines}

-- the zone of an apex, of which no line was taken, and how many octets its lines may have, where there
-- is a limit
abbrev pub no_lines : Result Labels InvalidName → Option ℕ → Gathered
no_lines (Ok apex) octets_left = Lines (record { apex = apex; text = [] }) octets_left
no_lines (Err fault) octets_left = BadApex fault octets_left

-- a line after the others: the text is each line followed by LF
abbrev pub with_line : Octets → ZoneLines → ZoneLines
with_line line zone = record { apex = zone.apex; text = zone.text ++ line ++ 10 ∷ [] }

-- whether a line has more octets than are left
abbrev pub exceeds : Option ℕ → Octets → Bool
exceeds None line = false
exceeds (Some octets) line = nat_lt octets (length line)

-- what is left after a line
abbrev pub octets_after : Octets → Option ℕ → Option ℕ
octets_after line octets_left = option_map (λ octets. octets - length line) octets_left

-- a line of more than 65,536 octets is reported whatever else is wrong
abbrev pub after_long_line : Gathered → Gathered
after_long_line (Lines zone octets_left) = LongLine
after_long_line (BadApex fault octets_left) = LongLine
after_long_line LongLine = LongLine
after_long_line Lost = Lost

-- a line is taken as it is, whatever it says; one with more octets than are left is as one that is too
-- long
abbrev pub after_short_line : Octets → Gathered → Gathered
after_short_line line (Lines zone octets_left) =
    if exceeds octets_left line then LongLine
    else Lines (with_line line zone) (octets_after line octets_left)
after_short_line line (BadApex fault octets_left) =
    if exceeds octets_left line then LongLine
    else BadApex fault (octets_after line octets_left)
after_short_line line LongLine = LongLine
after_short_line line Lost = Lost

-- what is gathered after a line
abbrev pub gathered_after : Octets → Gathered → Gathered
gathered_after line gathered =
    if nat_lt 65536 (length line) then after_long_line gathered
    else after_short_line line gathered

-- a zone whose lines follow: their number, the maximum of their octets, where there is one, and its apex,
-- which is relative to the root
abbrev pub gathering_of : Octets → ℕ → Option ℕ → Gathering
gathering_of apex lines zone_octets =
    record { left = lines; gathered = no_lines (name_of apex []) zone_octets }

-- one more line is taken
abbrev pub after_line : Octets → Gathering → Gathering
after_line line gathering =
    record { left = gathering.left - 1; gathered = gathered_after line gathering.gathered }

-- the input ends: no more lines follow
abbrev pub at_end : Gathering → Gathering
at_end gathering = record { left = 0; gathered = gathering.gathered }

-- an allocation failed: the lines that are left are taken and not kept
abbrev pub lost : ℕ → Gathering
lost left = record { left = left; gathered = Lost }

-- whether there are lines that are kept, which allocates
abbrev pub keeps_lines : Gathered → Bool
keeps_lines (Lines zone octets_left) = true
keeps_lines (BadApex fault octets_left) = false
keeps_lines LongLine = false
keeps_lines Lost = false

-- a gathering is as expected, or lost where an allocation may fail
abbrev pub IsOrLost : Bool → Gathering → Gathering → Type 0
IsOrLost allocates expected gathering =
    (gathering ≡ expected) ⊎ (IsTrue allocates × (gathering ≡ lost expected.left))

-- ---- the zone of the lines

-- the zone of a text, or its fault
abbrev pub text_read : Result Zone ZoneFault → Result Zone LoadFault
text_read (Ok loaded) = Ok loaded
text_read (Err fault) = Err (InText fault)

-- the zone of the lines that were taken, or why there is none: the first of these that applies
abbrev pub zone_gathered : Gathered → Result Zone LoadFault
zone_gathered Lost = Err Memory
zone_gathered LongLine = Err LineTooLong
zone_gathered (BadApex fault octets_left) = Err (InApex fault)
zone_gathered (Lines lines octets_left) = text_read (zone_of lines.text lines.apex)

-- this was read of the lines; where there are lines that are kept an allocation may fail
abbrev pub Reads : Gathered → Result Zone LoadFault → Type 0
Reads gathered read =
    (read ≡ zone_gathered gathered) ⊎ (IsTrue (keeps_lines gathered) × (read ≡ Err Memory))

-- the reply where there is no zone; a fault in its text is reported with its line
abbrev pub load_fault_text : LoadFault → Octets
load_fault_text (InApex fault) = refusal_line (name_code fault)
load_fault_text LineTooLong = refusal_line (codes "K2")
load_fault_text (InText fault) =
    text_fault_line (fault_words command.Zone) fault.line (zone_code fault)
load_fault_text Memory = refusal_line (codes "Memory")

-- ---- what loads the zone

-- a state in which zones are loaded: how it keeps a gathering, or none, and what is done with a zone
pub record Loader (S : Type 0) : Type 1 where
  pub keep : Option Gathering → S → S
  pub Loads : Zone → S → Octets → S → Type 0

-- a zone is loaded, or the reply says why there is none
abbrev pub LoadsOrRefuses : {S : Type 0} → Loader S → Result Zone LoadFault → S → Octets → S → Type 0
LoadsOrRefuses loader (Ok loaded) before text after = loader.Loads loaded before text after
LoadsOrRefuses loader (Err fault) before text after = Keeps (load_fault_text fault) before text after

-- while lines are left to be taken there is no reply; it comes with the last of them
abbrev pub Gathers : {S : Type 0} → Loader S → Gathering → S → Octets → S → Type 0
Gathers loader gathering before text after =
    OnTrue (gathering.left == 0)
    (LoadsOrRefuses loader (zone_gathered gathering.gathered) (loader.keep None before) text after)
    × OnFalse (gathering.left == 0) (Keeps [] (loader.keep (Some gathering) before) text after)

-- lines are taken; where an allocation fails they are lost
abbrev pub GathersOrLoses : {S : Type 0} → Loader S → Gathering → S → Octets → S → Type 0
GathersOrLoses loader gathering before text after =
    Gathers loader gathering before text after
    ⊎ (IsTrue (keeps_lines gathering.gathered) × Gathers loader (lost gathering.left) before text after)
