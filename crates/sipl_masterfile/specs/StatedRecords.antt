-- The records that the entries of a master file state (RFC 1035, 5.1), wherever their owners are.
use Rattle.std.specs.Prelude.{List, [], ◌∷◌, Option, None, Some, Result, Ok, Err}
use Rattle.sipl_names.specs.Labels.{Octets, Labels}
use Rattle.sipl_records.specs.declared.record.Record.{Record}
use Rattle.sipl_masterfile.specs.Entries.{Entry, entries_of}
use Rattle.sipl_masterfile.specs.Readers.{◌>>=◌}
use Rattle.sipl_masterfile.specs.Statements.{statement_of}
use Rattle.sipl_masterfile.specs.declared.fault.ZoneCause.{ZoneCause}
use Rattle.sipl_masterfile.specs.declared.statement.Statement.{Statement}
use Rattle.sipl_masterfile.specs.declared.statement.Statement.TheVariants as statement

-- what an entry states, with the origin and the last owner before it
abbrev pub stated_in : Entry → Labels → Option Labels → Result Statement ZoneCause
stated_in entry origin owner =
    entry.content >>= (λ fields. statement_of entry.is_indented fields origin owner)

-- the records that entries state, in their order, with the origin and the last owner before them;
-- none after an entry with a cause
abbrev pub records_stated : Labels → Option Labels → List Entry → List Record
records_stated origin owner [] = []
records_stated origin owner (entry ∷ entries) = elim (stated_in entry origin owner) [
  | Ok stated ↦ elim stated [
    | statement.Record r ↦ r ∷ records_stated origin (Some r.owner) entries
    | statement.Origin name ↦ records_stated name owner entries
    | statement.Ttl ↦ records_stated origin owner entries
  ]
  | Err cause ↦ []
]

-- the records that a text states, whose origin is at first the apex
abbrev pub records_in : Octets → Labels → List Record
records_in text apex = records_stated apex None (entries_of text)
