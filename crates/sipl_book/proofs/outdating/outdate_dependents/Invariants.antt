use Rattle.std.specs.Prelude.{◌≡◌, vec_capacity}
use Rattle.sipl_book.proofs.Becoming.{AreChanged}
use Rattle.sipl_book.proofs.outdating.outdate_dependents.Given as goal

-- the keys before this one are looked at
abbrev pub invariant-loop-key : goal.invariant-loop-key
invariant-loop-key l =
    AreChanged l.fn.keys l.initial.entries.entries l.initial.ids.items l.key-index l.entries.entries l.ids.items
    × (l.entries.room ≡ l.initial.entries.room) × (vec_capacity l.candidates ≡ vec_capacity l.initial.candidates) × (vec_capacity l.ids ≡ vec_capacity l.initial.ids)
