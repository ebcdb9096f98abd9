use Rattle.std.proofs.Common.{◌≡◌, List, length, map, sym, ap, subst, ◌∙◌, arith}
use Rattle.std.proofs.Math.ListN.{length-map}
use Rattle.std.proofs.lemmas.List.Sorted.{IsNonDecreasingBy-from_sort}
use Rattle.sipl_repair.specs.QueueState.{QueueState}
use Rattle.sipl_book.specs.Cache.{AreMarkable, CacheState, InOrder, IsCache}
use Rattle.sipl_book.specs.Entries.{EntryState, after_change}
use Rattle.sipl_book.specs.Indexed.{IndexedState}
use Rattle.sipl_book.specs.Repairs.{after_marks, dependents}
use Rattle.sipl_book.proofs.Ascending.{dependents-markable, sorted_dependents}
use Rattle.sipl_book.proofs.Caches.{IsCache-after_change}
use Rattle.sipl_book.proofs.Leases.{leased-marks, leased_count}
use Rattle.sipl_book.proofs.Queues.{marks-space, marks-dependents}
use Rattle.sipl_book.proofs.cache.Cache.outdate.Goals as goal

pub outdate_dependents-requires-clause-order : goal.outdate_dependents-requires-clause-order
outdate_dependents-requires-clause-order c = subst (λ (cache : CacheState). InOrder cache.entries) (sym c.self.view_is) c.requires.order

pub mark_all-requires : goal.mark_all-requires
mark_all-requires c =
    let es = c.self.inside.entries.entries in
    let keys = c.args.changed.now in
    let order = subst (λ (cache : CacheState). InOrder cache.entries) (sym c.self.view_is) c.requires.order in
    let marked = c.as_slice.ensures.value ∙ sorted_dependents keys es c.outdate_dependents.new.entries.entries c.clear.new.self.items c.outdate_dependents.new.ids.items c.sort_unstable.new.self.items
    order c.clear.ensures.items (ap (λ (i : IndexedState). i.entries) c.outdate_dependents.ensures.after) c.outdate_dependents.ensures.added c.sort_unstable.ensures.permutation
    (IsNonDecreasingBy-from_sort (λ x. x) c.sort_unstable.new.self.items c.sort_unstable.ensures.sorted) in
    subst (AreMarkable c.self.inside.queue) (sym marked)
    (dependents-markable keys es c.self.inside.queue order c.self.invariant.cache.waits.among c.self.invariant.cache.space)

module _ (c : goal.After-mark_all) where
  abbrev es : List EntryState
  es = c.self.inside.entries.entries

  order : InOrder es
  order = subst (λ (cache : CacheState). InOrder cache.entries) (sym c.self.view_is) c.requires.order

  changed : c.outdate_dependents.new.entries.entries ≡ map (after_change c.args.changed.now) es
  changed = ap (λ (i : IndexedState). i.entries) c.outdate_dependents.ensures.after

  -- the sorted ids are those of the dependents
  marked : c.as_slice.result.now ≡ dependents c.args.changed.now es
  marked =
      c.as_slice.ensures.value
      ∙ sorted_dependents c.args.changed.now es c.outdate_dependents.new.entries.entries c.clear.new.self.items c.outdate_dependents.new.ids.items c.sort_unstable.new.self.items
      order c.clear.ensures.items changed c.outdate_dependents.ensures.added c.sort_unstable.ensures.permutation
      (IsNonDecreasingBy-from_sort (λ x. x) c.sort_unstable.new.self.items c.sort_unstable.ensures.sorted)

pub invariant_of-self : goal.invariant_of-self
invariant_of-self c =
    let q = c.self.inside.queue in
    let keys = c.args.changed.now in
    let queue : c.mark_all.new.queue ≡ after_marks q (dependents keys (es c)) = c.mark_all.ensures ∙ ap (after_marks q) (marked c) in
    let kept = ap (λ (xs : List EntryState). length xs) (changed c) in
    let leased = ap leased_count queue in
    let room = ap (λ (i : IndexedState). i.room) c.outdate_dependents.ensures.after in
    record {
      cache = subst (λ (p : List EntryState × QueueState). IsCache p.0 p.1)
          (λ i. (sym (changed c) i, sym (queue ∙ sym (marks-dependents keys (es c) q c.self.invariant.cache.waits.waiting)) i))
          (IsCache-after_change keys (es c) q (order c) c.self.invariant.cache);
      leases = omega (arith, leased, leased-marks q (dependents keys (es c)), room, c.self.invariant.leases);
      candidates = omega (arith, kept, length-map (es c) (after_change keys), c.outdate_dependents.ensures.candidates, c.self.invariant.candidates);
      ids = omega (arith, kept, length-map (es c) (after_change keys), c.outdate_dependents.ensures.capacity, c.clear.ensures.capacity, c.sort_unstable.ensures.capacity, c.self.invariant.ids);
    }

pub returns : goal.returns
returns c =
    let inside = c.self.inside in
    let keys = c.args.changed.now in
    let shown : record c.mark_all.new.queue { capacity = inside.max_entries } ≡ after_marks (record inside.queue { capacity = inside.max_entries }) (dependents keys (es c)) =
    ap (λ (q : QueueState). record q { capacity = inside.max_entries }) (c.mark_all.ensures ∙ ap (after_marks inside.queue) (marked c)) ∙ marks-space inside.max_entries inside.queue (dependents keys (es c)) in
    (λ i. record { entries = changed c i; queue = shown i; max_entries = inside.max_entries })
    ∙ ap (λ (cache : CacheState). record cache {
      entries = map (after_change keys) cache.entries;
      queue = after_marks cache.queue (dependents keys cache.entries);
    }) c.self.view_is
