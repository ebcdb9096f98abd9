use Rattle.std.proofs.Common.{[]}
use Rattle.sipl_service.specs.Ledgers.{added_of, pages_of, since_claim, until_claim}
use Rattle.sipl_service.proofs.Runs.{all_added, are_claimed, audited, in_time}
use Rattle.sipl_service.proofs.laws.claimed_events_are_receipts.Goals as goal

pub returns-clause-receipts : goal.returns-clause-receipts
returns-clause-receipts c = λ calls ledger run. are_claimed (pages_of calls) ledger (until_claim [] [] calls) (since_claim [] calls) (audited calls ledger run)

pub returns-clause-in_time : goal.returns-clause-in_time
returns-clause-in_time c = λ calls ledger run new. in_time (pages_of calls) ledger (added_of calls) (until_claim [] [] calls) (since_claim [] calls) (audited calls ledger run) (all_added calls) new
