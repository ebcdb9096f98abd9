use Rattle.sipl_masterfile.proofs.Stated.{zone_of-stated}
use Rattle.sipl_masterfile.proofs.laws.zones_have_the_records_stated.Goals as goal

pub returns-clause-records : goal.returns-clause-records
returns-clause-records c = λ text apex zone is. (zone_of-stated text apex zone is).records

pub returns-clause-outside : goal.returns-clause-outside
returns-clause-outside c = λ text apex zone is. (zone_of-stated text apex zone is).outside

pub returns-clause-repeated : goal.returns-clause-repeated
returns-clause-repeated c = λ text apex zone is. (zone_of-stated text apex zone is).repeated
