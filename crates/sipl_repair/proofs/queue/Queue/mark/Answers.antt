use Rattle.std.proofs.Common.{length, refl, sym, ap, subst, ◌∙◌, arith}
use Rattle.std.specs.FinSet as set
use Rattle.std.proofs.lemmas.Bool.{not-true, not-false}
use Rattle.std.proofs.lemmas.List.{length_push}
use Rattle.sipl_repair.specs.StalePlaces.{stale_count, live, AreCounted}
use Rattle.sipl_repair.specs.Queue.{state_of}
use Rattle.sipl_repair.specs.QueueState.{after_mark, is_leased}
use Rattle.sipl_repair.proofs.Members.{from_list-push, insert_present}
use Rattle.sipl_repair.proofs.Live.{live-push, AreCounted-push}
use Rattle.sipl_repair.proofs.Consistency.{queue_of, sound, contains-queued, may_mark, mark_fits, IsConsistent-push, after_mark-idle, after_mark-queued}
use Rattle.sipl_repair.proofs.queue.Queue.mark.Goals as goal

pub insert-requires : goal.insert-requires
insert-requires c =
    may_mark c.self.inside _ c.args.id c.self.invariant c.self.view_is c.requires (ap (λ w. is_leased w c.args.id) c.self.view_is ∙ sym c.if-is_leased.ensures.leased)

pub push_back_reserved-requires : goal.push_back_reserved-requires
push_back_reserved-requires c =
    let h = c.self.invariant in
    let absent = sym (contains-queued c.self.inside h c.args.id) ∙ not-true _ (sym c.if-insert.ensures.added) in
    let fits = mark_fits c.self.inside _ c.args.id h c.self.view_is c.requires (ap (λ w. is_leased w c.args.id) c.self.view_is ∙ sym c.if-is_leased.ensures.leased) absent in
    omega (arith, h.places_fit)

pub invariant_of-self : goal.invariant_of-self
invariant_of-self c =
    let q = c.self.inside in
    let h = c.self.invariant in
    let ks = (state_of q).queued in
    let idle = ap (λ w. is_leased w c.args.id) c.self.view_is ∙ sym c.if-is_leased.ensures.leased in
    let absent = sym (contains-queued q h c.args.id) ∙ not-true _ (sym c.if-insert.ensures.added) in
    let fits = mark_fits q _ c.args.id h c.self.view_is c.requires idle absent in
    let added = c.push_back_reserved.ensures in
    sound _ _ _ (ap (λ ys. live ys (stale_count q.stale)) added.items ∙ live-push q.places.items (stale_count q.stale) c.args.id (h.counted c.args.id)) refl
    (IsConsistent-push ks q.leased.members q.capacity c.args.id h.consistent absent idle fits)
    (ap (λ s. s.members) c.insert.ensures.after ∙ ap (λ m. set.insert m c.args.id) h.same_ids ∙ sym (from_list-push _ c.args.id))
    (subst (λ ys. AreCounted ys (stale_count q.stale)) (sym added.items) (AreCounted-push q.places.items (stale_count q.stale) c.args.id h.counted))
    h.leased_fresh
    (omega (arith, h.places_fit, added.capacity, ap length added.items, length_push q.places.items c.args.id, length_push ks c.args.id))
    (omega (arith, h.places_capacity, added.capacity)) h.stale_fits h.stale_capacity
    (omega (arith, h.queued_capacity, ap (λ s. s.capacity) c.insert.ensures.after)) h.leased_capacity

pub invariant_of-self-else-insert : goal.invariant_of-self-else-insert
invariant_of-self-else-insert c =
    let h = c.self.invariant in
    sound _ _ _ refl refl h.consistent
    (ap (λ s. s.members) c.insert.ensures.after ∙ insert_present _ c.args.id (not-false _ (sym c.if-insert.ensures.added)) ∙ h.same_ids)
    h.counted h.leased_fresh h.places_fit h.places_capacity h.stale_fits h.stale_capacity
    (omega (arith, h.queued_capacity, ap (λ s. s.capacity) c.insert.ensures.after)) h.leased_capacity

pub returns-then-insert : goal.returns-then-insert
returns-then-insert c =
    let q = c.self.inside in
    let h = c.self.invariant in
    let absent = sym (contains-queued q h c.args.id) ∙ not-true _ (sym c.if-insert.ensures.added) in
    ap (λ ys. queue_of (live ys (stale_count q.stale)) q.leased.members q.capacity) c.push_back_reserved.ensures.items
    ∙ ap (λ ks. queue_of ks q.leased.members q.capacity) (live-push q.places.items (stale_count q.stale) c.args.id (h.counted c.args.id))
    ∙ sym (after_mark-idle (state_of q) c.args.id absent (ap (λ w. is_leased w c.args.id) c.self.view_is ∙ sym c.if-is_leased.ensures.leased))
    ∙ ap (λ w. after_mark w c.args.id) c.self.view_is

pub returns-else-insert : goal.returns-else-insert
returns-else-insert c =
    let q = c.self.inside in
    let there = sym (contains-queued q c.self.invariant c.args.id) ∙ not-false _ (sym c.if-insert.ensures.added) in
    sym (after_mark-queued (state_of q) c.args.id there) ∙ ap (λ w. after_mark w c.args.id) c.self.view_is
