use Rattle.std.proofs.Common.{◌++◌, take}
use Rattle.sipl_service.specs.Receipts.{all_receipts, due}
use Rattle.sipl_service.proofs.Claimed.{AreClaimed}
use Rattle.sipl_service.proofs.due.check.Given as goal

abbrev pub invariant-loop-handed : goal.invariant-loop-handed
invariant-loop-handed l = AreClaimed l.pages (due l.end (all_receipts (take l.handed-index l.waiting))) l.claimed.items

abbrev pub invariant-loop-place : goal.invariant-loop-place
invariant-loop-place l = AreClaimed l.pages (due l.end (all_receipts (take l.handed-index l.waiting)) ++ take l.place (due l.end l.handed)) l.claimed.items
