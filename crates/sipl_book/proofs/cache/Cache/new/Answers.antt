use Rattle.std.proofs.Common.{List, length, sym, ap, subst, arith}
use Rattle.std.specs.FinSet as set
use Rattle.std.specs.Ordering.{nat_cmp}
use Rattle.sipl_repair.specs.QueueState.{QueueState}
use Rattle.sipl_book.specs.Cache.{IsCache}
use Rattle.sipl_book.specs.Entries.{EntryState}
use Rattle.sipl_book.specs.Indexed.{IndexedState}
use Rattle.sipl_book.proofs.Caches.{IsCache-new}
use Rattle.sipl_book.proofs.Leases.{leased_count}
use Rattle.sipl_book.proofs.cache.Cache.new.Goals as goal

pub invariant_of-result : goal.invariant_of-result
invariant_of-result c =
    let none = ap (λ (i : IndexedState). length i.entries) c.new.ensures in
    let leased = ap leased_count c.new-2.ensures in
    record {
      cache = subst (λ (p : List EntryState × QueueState). IsCache p.0 p.1) (λ i. (sym (ap (λ (x : IndexedState). x.entries) c.new.ensures) i, sym c.new-2.ensures i)) IsCache-new;
      leases = omega (arith, leased, set.len-empty nat_cmp);
      candidates = omega (arith, none);
      ids = omega (arith, none);
    }
