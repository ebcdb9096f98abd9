use Rattle.sipl_records.proofs.AddressLemmas.{address_of-text}
use Rattle.sipl_records.proofs.laws.printing_addresses_reads_back.Goals as goal

pub returns : goal.returns
returns c = address_of-text
