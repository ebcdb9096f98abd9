use Rattle.std.specs.Prelude.{◌≡◌, vec_capacity}
use Rattle.sipl_book.proofs.Becoming.{AreTouched}
use Rattle.sipl_book.proofs.outdating.outdate_candidates.Given as goal

-- the candidates before this one are looked at
abbrev pub invariant-loop-id : goal.invariant-loop-id
invariant-loop-id l =
    AreTouched l.fn.candidates l.fn.key l.initial.entries.entries l.initial.ids.items l.id-index l.entries.entries l.ids.items
    × (l.entries.room ≡ l.initial.entries.room) × (vec_capacity l.ids ≡ vec_capacity l.initial.ids)
