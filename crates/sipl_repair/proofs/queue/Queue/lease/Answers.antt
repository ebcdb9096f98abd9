use Rattle.std.proofs.Common.{◌∷◌, length, refl, sym, ap, subst, ◌∙◌, arith}
use Rattle.std.specs.FinSet as set
use Rattle.sipl_repair.specs.StalePlaces.{stale_count, live}
use Rattle.sipl_repair.specs.Queue.{state_of}
use Rattle.sipl_repair.specs.QueueState.{IsConsistent, first_of, after_lease, with_first_leased}
use Rattle.sipl_repair.proofs.Members.{remove-insert, contains-from_list, head_is_new}
use Rattle.sipl_repair.proofs.Live.{none_stale-lease}
use Rattle.sipl_repair.proofs.Consistency.{queue_of, sound, IsConsistent-lease}
use Rattle.sipl_repair.proofs.queue.Queue.lease.Goals as goal

pub returns-in_default-clause-first : goal.returns-in_default-clause-first
returns-in_default-clause-first c =
    sym (ap first_of (c.in_default.ensures.live ∙ c.in_default.ensures.empty)) ∙ ap (λ w. first_of w.queued) c.self.view_is

pub returns-in_default-clause-after : goal.returns-in_default-clause-after
returns-in_default-clause-after c =
    let q = c.self.inside in
    ap (λ ks. queue_of ks q.leased.members q.capacity) (sym c.in_default.ensures.live)
    ∙ sym (ap (with_first_leased (state_of q)) (c.in_default.ensures.live ∙ c.in_default.ensures.empty))
    ∙ ap after_lease c.self.view_is

pub invariant_of-self-2 : goal.invariant_of-self-2
invariant_of-self-2 c =
    let q = c.self.inside in
    let h = c.self.invariant in
    let id = c.in-Some.id in
    let stale = c.pop_live.new.stale in
    let rest = live c.pop_live.new.places.items (stale_count stale) in
    let before : IsConsistent (queue_of (id ∷ rest) q.leased.members q.capacity) = subst (λ ks. IsConsistent (queue_of ks q.leased.members q.capacity)) c.in-Some.ensures.live h.consistent in
    sound _ _ _ refl (ap (λ s. s.members) c.insert.ensures.after)
    (IsConsistent-lease rest q.leased.members q.capacity id before)
    (ap (λ s. s.members) c.remove.ensures.after
    ∙ ap (λ m. set.remove m id) (h.same_ids ∙ ap set.from_list c.in-Some.ensures.live)
    ∙ remove-insert _ id (contains-from_list rest id ∙ head_is_new id rest before.distinct))
    c.in-Some.ensures.drops.counted
    (none_stale-lease q.leased.members (stale_count q.stale) (stale_count stale) id h.leased_fresh c.in-Some.ensures.drops.fewer c.in-Some.ensures.none_stale)
    (omega (arith, h.places_fit, c.in-Some.ensures.len, c.in-Some.ensures.drops.places_capacity, ap length c.in-Some.ensures.live))
    (omega (arith, h.places_capacity, c.in-Some.ensures.drops.places_capacity))
    (λ some. omega (arith, h.stale_fits some, c.in-Some.ensures.spare))
    (omega (arith, h.stale_capacity, c.in-Some.ensures.drops.stale_capacity))
    (omega (arith, h.queued_capacity, ap (λ s. s.capacity) c.remove.ensures.after)) (omega (arith, h.leased_capacity, ap (λ s. s.capacity) c.insert.ensures.after))
