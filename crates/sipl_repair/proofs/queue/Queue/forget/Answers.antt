use Rattle.std.proofs.Common.{not, eqb, filter, length, refl, sym, ap, ◌∙◌, arith}
use Rattle.std.specs.FinSet as set
use Rattle.sipl_repair.specs.StalePlaces.{stale_count}
use Rattle.sipl_repair.specs.Queue.{state_of}
use Rattle.sipl_repair.specs.QueueState.{after_forget}
use Rattle.sipl_repair.proofs.Members.{from_list-without, remove_absent, len-remove_le}
use Rattle.sipl_repair.proofs.Live.{live-forget, AreCounted-forget, none_stale-forget}
use Rattle.sipl_repair.proofs.Consistency.{queue_of, sound, contains-queued, len-queued, len-forget, length_of_queued, still_leased, filter-absent, length-filter_le, IsConsistent-without, IsConsistent-remove}
use Rattle.sipl_repair.proofs.queue.Queue.forget.Goals as goal

pub add_one-requires-clause-spare : goal.add_one-requires-clause-spare
add_one-requires-clause-spare c =
    let h = c.self.invariant in
    let there = sym (contains-queued c.self.inside h c.args.id) ∙ sym c.if-remove.ensures.removed in
    h.stale_fits (omega (arith, h.consistent.within, length_of_queued (state_of c.self.inside).queued c.args.id there))

pub overflow_sub-not_queued : goal.overflow_sub-not_queued
overflow_sub-not_queued c =
    let q = c.self.inside in
    let h = c.self.invariant in
    let left = ap (λ s. set.len s.members) c.remove-2.ensures.after in
    omega (arith, c.len.ensures, left, len-remove_le q.queued.members c.args.id, len-queued q h, h.consistent.within)

pub compact_if_full-requires-clause-fits : goal.compact_if_full-requires-clause-fits
compact_if_full-requires-clause-fits c =
    let q = c.self.inside in
    let h = c.self.invariant in
    let id = c.args.id in
    let there = sym (contains-queued q h id) ∙ sym c.if-remove.ensures.removed in
    let left = live-forget q.places.items (stale_count q.stale) (stale_count c.add_one.new.stale) id c.add_one.ensures.counts h.consistent.distinct there in
    let len = len-forget q h id _ (ap (λ s. s.members) c.remove-2.ensures.after) in
    let fewer = length-filter_le (λ k. not (eqb k id)) (state_of q).queued in
    omega (arith, ap length left, c.len.ensures, len, fewer, h.consistent.within, h.places_capacity)

pub compact_if_full-requires-clause-counted : goal.compact_if_full-requires-clause-counted
compact_if_full-requires-clause-counted c =
    let q = c.self.inside in
    let h = c.self.invariant in
    let there = sym (contains-queued q h c.args.id) ∙ sym c.if-remove.ensures.removed in
    AreCounted-forget q.places.items (stale_count q.stale) (stale_count c.add_one.new.stale) c.args.id c.add_one.ensures.counts there h.counted

pub invariant_of-self : goal.invariant_of-self
invariant_of-self c =
    let q = c.self.inside in
    let h = c.self.invariant in
    let id = c.args.id in
    let there = sym (contains-queued q h id) ∙ sym c.if-remove.ensures.removed in
    let ks = filter (λ k. not (eqb k id)) (state_of q).queued in
    let left = live-forget q.places.items (stale_count q.stale) (stale_count c.add_one.new.stale) id c.add_one.ensures.counts h.consistent.distinct there in
    let len = len-forget q h id _ (ap (λ s. s.members) c.remove-2.ensures.after) in
    let fewer = length-filter_le (λ k. not (eqb k id)) (state_of q).queued in
    let kept = c.compact_if_full.ensures in
    sound _ ks _ (kept.live ∙ left) (ap (λ s. s.members) c.remove.ensures.after)
    (IsConsistent-without (state_of q).queued q.leased.members q.capacity id h.consistent)
    (ap (λ s. s.members) c.remove-2.ensures.after ∙ ap (λ m. set.remove m id) h.same_ids ∙ sym (from_list-without _ id))
    kept.drops.counted
    (none_stale-forget q.leased.members (stale_count q.stale) (stale_count c.add_one.new.stale) (stale_count c.compact_if_full.new.stale) id h.leased_fresh c.add_one.ensures.counts kept.drops.fewer)
    (omega (arith, kept.fits, c.len.ensures, len, fewer, h.consistent.within))
    (omega (arith, kept.drops.places_capacity, h.places_capacity))
    (λ some. kept.spare (omega (arith, some, c.add_one.ensures.capacity, h.stale_capacity)))
    (omega (arith, kept.drops.stale_capacity, c.add_one.ensures.capacity, h.stale_capacity))
    (omega (arith, h.queued_capacity, ap (λ s. s.capacity) c.remove-2.ensures.after)) (omega (arith, h.leased_capacity, ap (λ s. s.capacity) c.remove.ensures.after))

pub invariant_of-self-else-remove : goal.invariant_of-self-else-remove
invariant_of-self-else-remove c =
    let q = c.self.inside in
    let h = c.self.invariant in
    sound _ _ _ refl (ap (λ s. s.members) c.remove.ensures.after)
    (IsConsistent-remove _ q.leased.members q.capacity c.args.id h.consistent)
    (ap (λ s. s.members) c.remove-2.ensures.after ∙ remove_absent _ c.args.id (sym c.if-remove.ensures.removed) ∙ h.same_ids)
    h.counted (λ k there. h.leased_fresh k (still_leased q.leased.members _ k there))
    h.places_fit h.places_capacity h.stale_fits h.stale_capacity
    (omega (arith, h.queued_capacity, ap (λ s. s.capacity) c.remove-2.ensures.after)) (omega (arith, h.leased_capacity, ap (λ s. s.capacity) c.remove.ensures.after))

pub returns-then-remove : goal.returns-then-remove
returns-then-remove c =
    let q = c.self.inside in
    let h = c.self.invariant in
    let id = c.args.id in
    let there = sym (contains-queued q h id) ∙ sym c.if-remove.ensures.removed in
    let left = live-forget q.places.items (stale_count q.stale) (stale_count c.add_one.new.stale) id c.add_one.ensures.counts h.consistent.distinct there in
    ap (λ ks. queue_of ks c.remove.new.self.members q.capacity) (c.compact_if_full.ensures.live ∙ left)
    ∙ ap (λ s. queue_of (filter (λ k. not (eqb k id)) (state_of q).queued) s.members q.capacity) c.remove.ensures.after
    ∙ ap (λ w. after_forget w id) c.self.view_is

pub returns-else-remove : goal.returns-else-remove
returns-else-remove c =
    let q = c.self.inside in
    let absent = sym (contains-queued q c.self.invariant c.args.id) ∙ sym c.if-remove.ensures.removed in
    ap (λ s. queue_of (state_of q).queued s.members q.capacity) c.remove.ensures.after
    ∙ ap (λ ks. queue_of ks (set.remove q.leased.members c.args.id) q.capacity) (sym (filter-absent (state_of q).queued c.args.id absent))
    ∙ ap (λ w. after_forget w c.args.id) c.self.view_is
