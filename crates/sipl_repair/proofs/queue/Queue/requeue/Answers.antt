use Rattle.std.proofs.Common.{[], ◌∷◌, ◌++◌, length, refl, sym, ap, subst, ◌∙◌, arith}
use Rattle.std.specs.FinSet as set
use Rattle.std.proofs.lemmas.Bool.{cond-true, cond-false}
use Rattle.std.proofs.lemmas.List.{length_push}
use Rattle.sipl_repair.specs.StalePlaces.{stale_count, live, AreCounted}
use Rattle.sipl_repair.specs.Queue.{state_of}
use Rattle.sipl_repair.specs.QueueState.{after_requeue}
use Rattle.sipl_repair.proofs.Members.{from_list-push, remove_absent}
use Rattle.sipl_repair.proofs.Live.{live-push, AreCounted-push}
use Rattle.sipl_repair.proofs.Consistency.{queue_of, sound, still_leased, may_queue, returned_fits, IsConsistent-requeue, IsConsistent-remove}
use Rattle.sipl_repair.proofs.queue.Queue.requeue.Goals as goal

pub insert-requires : goal.insert-requires
insert-requires c =
    let fits = returned_fits c.self.inside c.self.invariant c.into_id-last.result (sym c.if-remove.ensures.removed) in
    may_queue c.self.inside c.self.invariant c.into_id-last.result fits

pub push_back_reserved-requires : goal.push_back_reserved-requires
push_back_reserved-requires c =
    let fits = returned_fits c.self.inside c.self.invariant c.into_id-last.result (sym c.if-remove.ensures.removed) in
    omega (arith, c.self.invariant.places_fit)

pub invariant_of-self : goal.invariant_of-self
invariant_of-self c =
    let q = c.self.inside in
    let h = c.self.invariant in
    let id = c.into_id-last.result in
    let ks = (state_of q).queued in
    let leased = sym c.if-remove.ensures.removed in
    let fits = returned_fits q h id leased in
    let added = c.push_back_reserved.ensures in
    sound _ _ _ (ap (λ ys. live ys (stale_count q.stale)) added.items ∙ live-push q.places.items (stale_count q.stale) id (h.counted id)) (ap (λ s. s.members) c.remove.ensures.after)
    (IsConsistent-requeue ks q.leased.members q.capacity id h.consistent leased)
    (ap (λ s. s.members) c.insert.ensures.after ∙ ap (λ m. set.insert m id) h.same_ids ∙ sym (from_list-push _ id))
    (subst (λ ys. AreCounted ys (stale_count q.stale)) (sym added.items) (AreCounted-push q.places.items (stale_count q.stale) id h.counted))
    (λ k there. h.leased_fresh k (still_leased q.leased.members id k there))
    (omega (arith, h.places_fit, added.capacity, ap length added.items, length_push q.places.items id, length_push ks id))
    (omega (arith, h.places_capacity, added.capacity)) h.stale_fits h.stale_capacity
    (omega (arith, h.queued_capacity, ap (λ s. s.capacity) c.insert.ensures.after)) (omega (arith, h.leased_capacity, ap (λ s. s.capacity) c.remove.ensures.after))

pub invariant_of-self-else-remove : goal.invariant_of-self-else-remove
invariant_of-self-else-remove c =
    let q = c.self.inside in
    let h = c.self.invariant in
    sound _ _ _ refl (ap (λ s. s.members) c.remove.ensures.after)
    (IsConsistent-remove _ q.leased.members q.capacity _ h.consistent)
    h.same_ids h.counted (λ k there. h.leased_fresh k (still_leased q.leased.members _ k there))
    h.places_fit h.places_capacity h.stale_fits h.stale_capacity h.queued_capacity (omega (arith, ap (λ s. s.capacity) c.remove.ensures.after))

pub returns-then-remove : goal.returns-then-remove
returns-then-remove c =
    let q = c.self.inside in
    let id = c.into_id-last.result in
    ap (λ ys. queue_of (live ys (stale_count q.stale)) c.remove.new.self.members q.capacity) c.push_back_reserved.ensures.items
    ∙ ap (λ ks. queue_of ks c.remove.new.self.members q.capacity) (live-push q.places.items (stale_count q.stale) id (c.self.invariant.counted id))
    ∙ ap (λ s. queue_of ((state_of q).queued ++ id ∷ []) s.members q.capacity) c.remove.ensures.after
    ∙ sym (cond-true _ _ _ (sym c.if-remove.ensures.removed))
    ∙ ap (λ w. after_requeue w id) c.self.view_is
    ∙ ap (λ k. after_requeue c.args.self.now k) c.into_id-last.ensures

pub returns-else-remove : goal.returns-else-remove
returns-else-remove c =
    let q = c.self.inside in
    let none = sym c.if-remove.ensures.removed in
    ap (λ s. queue_of (state_of q).queued s.members q.capacity) c.remove.ensures.after
    ∙ ap (λ s. queue_of (state_of q).queued s q.capacity) (remove_absent q.leased.members c.into_id-last.result none)
    ∙ sym (cond-false _ _ _ none)
    ∙ ap (λ w. after_requeue w c.into_id-last.result) c.self.view_is
    ∙ ap (λ id. after_requeue c.args.self.now id) c.into_id-last.ensures
