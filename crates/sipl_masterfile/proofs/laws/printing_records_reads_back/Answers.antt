use Rattle.sipl_masterfile.proofs.PrintedFields.{statement_of-record_fields}
use Rattle.sipl_masterfile.proofs.PrintedEntries.{entries_of-record_text}
use Rattle.sipl_masterfile.proofs.PrintedRecords.{record_of-record_text}
use Rattle.sipl_masterfile.proofs.laws.printing_records_reads_back.Goals as goal

pub returns-clause-text : goal.returns-clause-text
returns-clause-text c = record_of-record_text

pub returns-clause-entry : goal.returns-clause-entry
returns-clause-entry c = entries_of-record_text

pub returns-clause-fields : goal.returns-clause-fields
returns-clause-fields c = statement_of-record_fields
