use Rattle.sipl_records.proofs.AddressLemmas.{length-text_of_address}
use Rattle.sipl_records.proofs.laws.address_text_has_at_most_39_octets.Goals as goal

pub returns-clause-short : goal.returns-clause-short
returns-clause-short c = length-text_of_address
