-- The codes of proofs: how a state, and a set of ids, is one tuple of numbers and lists.
use Rattle.std.specs.Prelude.{ℕ, List, refl}
use Rattle.std.specs.Coded.{Coded, code_by, coded×, coded_ℕ, coded_list}
use Rattle.std.specs.FinSet as set
use Rattle.std.specs.Ordering.{nat_cmp}
use Rattle.sipl_repair.specs.Ids.{Ids}
use Rattle.sipl_repair.specs.QueueState.{QueueState}

-- a set of ids as a pair
abbrev pub ids_code : Coded Ids
ids_code =
    code_by (set.FinSet nat_cmp × ℕ) (coded× (set.code coded_ℕ) coded_ℕ)
    (λ s. (s.members, s.capacity))
    (λ p. record { members = p.0; capacity = p.1 })
    (λ _. refl)

-- a state as a triple
abbrev pub queue_state_code : Coded QueueState
queue_state_code =
    code_by (List ℕ × (set.FinSet nat_cmp × ℕ))
    (coded× (coded_list coded_ℕ) (coded× (set.code coded_ℕ) coded_ℕ))
    (λ q. (q.queued, (q.leased, q.capacity)))
    (λ p. record { queued = p.0; leased = p.1.0; capacity = p.1.1 })
    (λ _. refl)
