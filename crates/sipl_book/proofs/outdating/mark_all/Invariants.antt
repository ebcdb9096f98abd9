use Rattle.std.specs.Prelude.{◌≡◌, drop}
use Rattle.sipl_book.specs.Cache.{AreMarkable}
use Rattle.sipl_book.specs.Repairs.{after_marks}
use Rattle.sipl_book.proofs.outdating.mark_all.Given as goal

-- the ids before this one are marked
abbrev pub invariant-loop-id : goal.invariant-loop-id
invariant-loop-id l =
    AreMarkable l.queue (drop l.id-index l.fn.ids) × (after_marks l.queue (drop l.id-index l.fn.ids) ≡ after_marks l.initial.queue l.fn.ids)
