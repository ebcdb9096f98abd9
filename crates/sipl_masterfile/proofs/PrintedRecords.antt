-- A printed record reads back.
use Rattle.std.proofs.Common.{◌≡◌, false, List, None, Result, Ok, Err, ap, ◌∙◌, if◌then◌else◌}
use Rattle.sipl_names.specs.Labels.{Octets, Labels}
use Rattle.sipl_records.specs.declared.record.Record.{Record}
use Rattle.sipl_masterfile.specs.RecordPrint.{IsRecord, record_fields, record_text}
use Rattle.sipl_masterfile.specs.RecordText.{state_directive, directive_cause, stated_record, only_record, record_of}
use Rattle.sipl_masterfile.specs.declared.fault.ZoneCause.{ZoneCause}
use Rattle.sipl_masterfile.specs.declared.fault.ZoneCause.TheVariants.{MissingField}
use Rattle.sipl_masterfile.specs.declared.fault.ZoneFault.{ZoneFault}
use Rattle.sipl_masterfile.specs.declared.statement.Statement.{Statement}
use Rattle.sipl_masterfile.specs.declared.statement.Statement.TheVariants as statement
use Rattle.sipl_masterfile.proofs.PrintedEntries.{entries_of-record_text}
use Rattle.sipl_masterfile.proofs.PrintedFields.{statement_of-record_fields}

-- the record of what the fields of an entry that is not indented state
abbrev of_statement : List Octets → Result Statement ZoneCause → Result Record ZoneCause
of_statement fields (Ok (statement.Record r)) = Ok r
of_statement fields (Ok (statement.Origin name)) = Err MissingField
of_statement fields (Ok statement.Ttl) = Err MissingField
of_statement fields (Err cause) = Err (if state_directive false fields then directive_cause cause else cause)

stated_record-record_fields : (r : Record) (origin : Labels) → IsRecord r → stated_record false (record_fields r) origin ≡ Ok r
stated_record-record_fields r origin is =
    ap (of_statement (record_fields r)) (statement_of-record_fields r origin None is)

-- the record of a line's only entry
abbrev of_stated : Result Record ZoneCause → Result Record ZoneFault
of_stated (Ok r) = Ok r
of_stated (Err cause) = Err (record { line = 1; cause = cause })

pub record_of-record_text : (r : Record) (origin : Labels) → IsRecord r → record_of (record_text r) origin ≡ Ok r
record_of-record_text r origin is =
    ap (λ entries. only_record entries origin) (entries_of-record_text r is) ∙ ap of_stated (stated_record-record_fields r origin is)
