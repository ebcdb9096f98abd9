use Rattle.std.proofs.Common.{◌∷◌, length, refl, sym, ap, subst, ◌∙◌, arith}
use Rattle.std.specs.FinSet as set
use Rattle.std.proofs.lemmas.Bool.{cond-false}
use Rattle.sipl_repair.specs.StalePlaces.{stale_count, live, AreCounted}
use Rattle.sipl_repair.specs.Queue.{state_of}
use Rattle.sipl_repair.specs.QueueState.{after_give_back}
use Rattle.sipl_repair.proofs.Members.{remove_absent}
use Rattle.sipl_repair.proofs.Live.{live-cons, AreCounted-cons}
use Rattle.sipl_repair.proofs.Consistency.{queue_of, sound, still_leased, may_queue, returned_fits, IsConsistent-give_back, IsConsistent-remove}
use Rattle.sipl_repair.proofs.queue.Queue.give_back.Goals as goal

pub insert-requires : goal.insert-requires
insert-requires c =
    let fits = returned_fits c.self.inside c.self.invariant c.into_id-next.result (sym c.if-remove.ensures.removed) in
    may_queue c.self.inside c.self.invariant c.into_id-next.result fits

pub push_front_reserved-requires : goal.push_front_reserved-requires
push_front_reserved-requires c =
    let fits = returned_fits c.self.inside c.self.invariant c.into_id-next.result (sym c.if-remove.ensures.removed) in
    omega (arith, c.self.invariant.places_fit)

pub invariant_of-self : goal.invariant_of-self
invariant_of-self c =
    let q = c.self.inside in
    let h = c.self.invariant in
    let id = c.into_id-next.result in
    let ks = (state_of q).queued in
    let leased = sym c.if-remove.ensures.removed in
    let fits = returned_fits q h id leased in
    let added = c.push_front_reserved.ensures in
    sound _ (id ∷ ks) _ (ap (λ ys. live ys (stale_count q.stale)) added.items ∙ live-cons q.places.items (stale_count q.stale) id (h.leased_fresh id leased)) (ap (λ s. s.members) c.remove.ensures.after)
    (IsConsistent-give_back ks q.leased.members q.capacity id h.consistent leased)
    (ap (λ s. s.members) c.insert.ensures.after ∙ ap (λ m. set.insert m id) h.same_ids)
    (subst (λ ys. AreCounted ys (stale_count q.stale)) (sym added.items) (AreCounted-cons q.places.items (stale_count q.stale) id h.counted))
    (λ k there. h.leased_fresh k (still_leased q.leased.members id k there))
    (omega (arith, h.places_fit, added.capacity, ap length added.items))
    (omega (arith, h.places_capacity, added.capacity)) h.stale_fits h.stale_capacity
    (omega (arith, h.queued_capacity, ap (λ s. s.capacity) c.insert.ensures.after)) (omega (arith, h.leased_capacity, ap (λ s. s.capacity) c.remove.ensures.after))

pub invariant_of-self-else-remove : goal.invariant_of-self-else-remove
invariant_of-self-else-remove c =
    let q = c.self.inside in
    let h = c.self.invariant in
    sound _ _ _ refl (ap (λ s. s.members) c.remove.ensures.after)
    (IsConsistent-remove _ q.leased.members q.capacity _ h.consistent)
    h.same_ids h.counted (λ k there. h.leased_fresh k (still_leased q.leased.members _ k there))
    h.places_fit h.places_capacity h.stale_fits h.stale_capacity h.queued_capacity (omega (arith, ap (λ s. s.capacity) c.remove.ensures.after))

pub returns-else-remove : goal.returns-else-remove
returns-else-remove c =
    let q = c.self.inside in
    let none = sym c.if-remove.ensures.removed in
    ap (λ s. queue_of (state_of q).queued s.members q.capacity) c.remove.ensures.after
    ∙ ap (λ s. queue_of (state_of q).queued s q.capacity) (remove_absent q.leased.members c.into_id-next.result none)
    ∙ sym (cond-false _ _ _ none)
    ∙ ap (λ w. after_give_back w c.into_id-next.result) c.self.view_is
    ∙ ap (λ id. after_give_back c.args.self.now id) c.into_id-next.ensures
