use Rattle.std.proofs.Common.{refl, ap, arith}
use Rattle.sipl_repair.proofs.Consistency.{sound, still_leased, IsConsistent-remove}
use Rattle.sipl_repair.proofs.queue.Queue.settle.Goals as goal

pub invariant_of-self : goal.invariant_of-self
invariant_of-self c =
    let q = c.self.inside in
    let h = c.self.invariant in
    sound _ _ _ refl (ap (λ s. s.members) c.remove.ensures.after)
    (IsConsistent-remove _ q.leased.members q.capacity _ h.consistent)
    h.same_ids h.counted (λ k there. h.leased_fresh k (still_leased q.leased.members _ k there))
    h.places_fit h.places_capacity h.stale_fits h.stale_capacity h.queued_capacity (omega (arith, ap (λ s. s.capacity) c.remove.ensures.after))
