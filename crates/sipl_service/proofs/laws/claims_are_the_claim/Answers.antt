use Rattle.std.proofs.Common.{[]}
use Rattle.sipl_service.specs.Ledgers.{added_of, pages_of, since_claim, until_claim}
use Rattle.sipl_service.proofs.Runs.{all_added, audited, is_claim}
use Rattle.sipl_service.proofs.laws.claims_are_the_claim.Goals as goal

pub returns : goal.returns
returns c = λ calls ledger run empty. is_claim (pages_of calls) ledger (added_of calls) (until_claim [] [] calls) (since_claim [] calls) (audited calls ledger run) (all_added calls) empty
