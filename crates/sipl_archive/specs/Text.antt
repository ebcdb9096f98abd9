-- The text of a state.
use Rattle.std.specs.Prelude.{ℕ, ◌-◌, List, [], ◌∷◌, ◌++◌, codes, flat_map, nat_lt, if◌then◌else◌}
use Rattle.sipl_names.specs.Labels.{Octets, Labels}
use Rattle.sipl_records.specs.declared.record.Record.{Record}
use Rattle.sipl_choice.specs.declared.endpoint.Endpoint.{Endpoint}
use Rattle.sipl_book.specs.Machine.{State}
use Rattle.sipl_lines.specs.CommandText.{clock_line, hold_line, zone_lines}
use Rattle.sipl_lines.specs.ReplyText.{number_field}
use Rattle.sipl_archive.specs.Sorting.{listed, zones_of}

-- the lines that load zones
abbrev pub zones_lines : List (Labels × List Record) → Octets
zones_lines zones = flat_map (λ zone. zone_lines zone.0 zone.1) zones

-- a line for each hold, with what is left of it at a time
abbrev pub hold_lines : ℕ → List (Endpoint × ℕ) → Octets
hold_lines now holds = flat_map (λ hold. hold_line hold.0 (hold.1 - now)) holds

-- a checkpoint: where the changes after a state begin
abbrev pub checkpoint_line : ℕ → Octets
checkpoint_line checkpoint = codes "# page" ++ number_field checkpoint ++ 10 ∷ []

-- the first lines of a state: its checkpoint, and the time, unless that is 0
abbrev pub state_head : ℕ → ℕ → Octets
state_head checkpoint now = checkpoint_line checkpoint ++ (if nat_lt 0 now then clock_line now else [])

-- the text of a state after a checkpoint: its first lines, those that load its zones, each with the records
-- within it, and those of its holds
abbrev pub state_text : ℕ → State → Octets
state_text checkpoint state =
    state_head checkpoint state.holds.now
    ++ zones_lines (zones_of (listed state.zones.apexes) state.zones.records)
    ++ hold_lines state.holds.now state.holds.ends
