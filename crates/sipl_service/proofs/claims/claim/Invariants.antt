use Rattle.std.proofs.Common.{◌++◌, take}
use Rattle.sipl_service.specs.Passes.{receipts_of}
use Rattle.sipl_service.proofs.Claimed.{AreClaimed}
use Rattle.sipl_service.proofs.claims.claim.Given as goal

abbrev pub invariant-loop-pass : goal.invariant-loop-pass
invariant-loop-pass l = AreClaimed l.pages (receipts_of (take l.pass-index l.passes)) l.claimed.items

abbrev pub invariant-loop-receipt : goal.invariant-loop-receipt
invariant-loop-receipt l = AreClaimed l.pages (receipts_of (take l.pass-index l.passes) ++ take l.receipt-index l.receipts) l.claimed.items
