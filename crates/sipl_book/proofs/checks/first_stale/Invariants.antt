use Rattle.std.proofs.Common.{◌≡◌, false, take}
use Rattle.std.specs.List.{All}
use Rattle.sipl_book.specs.Calls.{after_looks, is_stale}
use Rattle.sipl_book.proofs.checks.first_stale.Given as goal

abbrev pub invariant-loop-place : goal.invariant-loop-place
invariant-loop-place l = record {
  looks : l.store ≡ after_looks l.place l.initial.store;
  fresh : All (λ item. is_stale l.initial.store item ≡ false) (take l.place l.items);
}
