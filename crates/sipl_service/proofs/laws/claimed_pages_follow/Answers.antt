use Rattle.sipl_service.specs.Ledgers.{pages_of}
use Rattle.sipl_service.proofs.Joined.{joined-legal}
use Rattle.sipl_service.proofs.Runs.{audited}
use Rattle.sipl_service.proofs.laws.claimed_pages_follow.Goals as goal

pub returns : goal.returns
returns c = λ calls ledger run.
    let h = audited calls ledger run in
    record { follow = h.follow; legal = joined-legal (pages_of calls) h.replayed h.follow }
