use Rattle.std.proofs.Common.{◌≡◌, ℕ, eqb, ap, arith}
use Rattle.std.specs.Map.{lookup}
use Rattle.std.specs.Option.{unwrap_or}
use Rattle.sipl_repair.specs.StalePlaces.{stale_count, live}
use Rattle.sipl_repair.proofs.Consistency.{sound, IsConsistent-empty}
use Rattle.sipl_repair.proofs.queue.Queue.new.Goals as goal

pub invariant_of-result : goal.invariant_of-result
invariant_of-result c =
    let none : (id : ℕ) → stale_count c.new-2.result id ≡ 0 = λ id. ap (λ es. unwrap_or (lookup (eqb id) es) 0) c.new-2.ensures.empty in
    sound _ _ _ (ap (λ ys. live ys (stale_count c.new-2.result)) c.new.ensures.items) (ap (λ s. s.members) c.new-4.ensures) IsConsistent-empty (ap (λ s. s.members) c.new-3.ensures)
    (λ id. omega (arith, none id)) (λ id _. none id) (omega arith) (omega arith) (omega arith) (omega arith) (omega arith) (omega arith)
