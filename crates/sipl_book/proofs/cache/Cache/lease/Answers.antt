use Rattle.std.proofs.Common.{◌≡◌, List, true, None, is_some, option_copied, length, sym, ap, subst, ◌∙◌, arith, true≢false}
use Rattle.sipl_repair.specs.QueueState.{QueueState, after_give_back}
use Rattle.sipl_book.specs.Cache.{CacheState, InOrder, IsCache}
use Rattle.sipl_book.specs.Entries.{EntryState}
use Rattle.sipl_book.specs.Repairs.{entry_with, is_outdated}
use Rattle.sipl_book.proofs.Caches.{IsCache-lease}
use Rattle.sipl_book.proofs.Ids.{is_id, entry_with-is_id}
use Rattle.sipl_book.proofs.Leases.{leased-lease, leased_count}
use Rattle.sipl_book.proofs.Queues.{first-held, first-queued, give_back-lease}
use Rattle.sipl_book.proofs.cache.Cache.lease.Goals as goal

pub unreachable-requires : goal.unreachable-requires
unreachable-requires c =
    let es = c.self.inside.entries.entries in
    let q = c.self.inside.queue in
    let id = c.in_ok-lease.lease in
    let held : is_id es id ≡ true = c.self.invariant.cache.waits.among.of_entries id (first-held q id (sym c.lease.ensures.first ∙ c.in_ok-lease.was)) in
    let now : c.entries.result.now ≡ es = c.entries.ensures ∙ c.reserve.ensures.entries in
    let none : entry_with es id ≡ None = (λ i. entry_with (sym now i) (sym c.id.ensures i)) ∙ sym c.get_by_id.ensures ∙ ap option_copied c.in-None.is in
    true≢false (sym held ∙ sym (entry_with-is_id es id) ∙ ap is_some none)

pub invariant_of-self-in-Ok : goal.invariant_of-self-in-Ok
invariant_of-self-in-Ok c =
    let es = c.self.inside.entries.entries in
    let order = subst (λ (cache : CacheState). InOrder cache.entries) (sym c.self.view_is) c.requires.order in
    let kept = ap (λ (xs : List EntryState). length xs) c.reserve.ensures.entries in
    let now = ap leased_count c.lease.ensures.after in
    record {
      cache = subst (λ (p : List EntryState × QueueState). IsCache p.0 p.1) (λ i. (sym c.reserve.ensures.entries i, sym c.lease.ensures.after i))
          (IsCache-lease es c.self.inside.queue order c.self.invariant.cache);
      leases = omega (arith, now, leased-lease c.self.inside.queue, c.leased_len.ensures.len, c.in_ok-reserve.ensures.ok);
      candidates = omega (arith, kept, c.self.invariant.candidates);
      ids = omega (arith, kept, c.self.invariant.ids);
    }

module _ (c : goal.After-give_back) where
  -- the queue is as before
  as_before : c.give_back.new.self ≡ c.self.inside.queue
  as_before =
      c.give_back.ensures
      ∙ ap (λ (q : QueueState). after_give_back q c.in_ok-lease.lease) c.lease.ensures.after
      ∙ give_back-lease c.self.inside.entries.entries c.self.inside.queue c.in_ok-lease.lease c.self.invariant.cache.waits.among (sym c.lease.ensures.first ∙ c.in_ok-lease.was)

pub invariant_of-self-in-Err : goal.invariant_of-self-in-Err
invariant_of-self-in-Err c =
    let kept = ap (λ (xs : List EntryState). length xs) c.reserve.ensures.entries in
    let now = ap leased_count (as_before c) in
    record {
      cache = subst (λ (p : List EntryState × QueueState). IsCache p.0 p.1) (λ i. (sym c.reserve.ensures.entries i, sym (as_before c) i)) c.self.invariant.cache;
      leases = omega (arith, now, c.reserve.ensures.room, c.self.invariant.leases);
      candidates = omega (arith, kept, c.self.invariant.candidates);
      ids = omega (arith, kept, c.self.invariant.ids);
    }

pub returns-in-Err-clause-err : goal.returns-in-Err-clause-err
returns-in-Err-clause-err c =
    let inside = c.self.inside in
    (λ i. record { entries = c.reserve.ensures.entries i; queue = record (as_before c i) { capacity = inside.max_entries }; max_entries = inside.max_entries }) ∙ c.self.view_is

pub returns-in-Ok-clause-outdated : goal.returns-in-Ok-clause-outdated
returns-in-Ok-clause-outdated c =
    let q = c.self.inside.queue in
    let id = c.in_ok-lease.lease in
    subst (λ (cache : CacheState). is_outdated cache.entries id ≡ true) c.self.view_is
    (c.self.invariant.cache.waits.outdated id (first-queued q.queued id (sym c.lease.ensures.first ∙ c.in_ok-lease.was)))
