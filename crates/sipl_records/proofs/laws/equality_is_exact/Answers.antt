use Rattle.sipl_records.proofs.Same.{same_data_is, same_record_is, same_key_decides, same_address_decides}
use Rattle.sipl_records.proofs.SameData.{same_data-Decides, same_record-Decides}
use Rattle.sipl_records.proofs.laws.equality_is_exact.Goals as goal

pub returns : goal.returns
returns c = record {
  data_eq = same_data_is;
  record_eq = same_record_is;
  same_data = same_data-Decides;
  same_record = same_record-Decides;
  key_eq = same_key_decides;
  address_eq = same_address_decides;
}
