-- The state of a repair queue, and the state after each call.
use Rattle.std.specs.Prelude.{◌≡◌, ℕ, ◌+◌, ◌≤◌, Bool, true, false, not, ◌||◌, ◌==◌, nat_eq, nat_lt, max, if◌then◌else◌, List, [], ◌∷◌, ◌++◌, length, filter, Result, Ok, Err}
use Rattle.std.specs.FinSet as set
use Rattle.std.specs.List.{list_any, IsDistinct}
use Rattle.std.specs.Ordering.{nat_cmp}
use Rattle.sipl_repair.specs.declared.fault.QueueFault.{QueueFault}
use Rattle.sipl_repair.specs.declared.fault.QueueFault.TheVariants.{Empty}

-- the queued ids, the next one first; the leased ids; and how many ids there is space for in all
pub record QueueState : Type 0 where
  pub queued : List ℕ
  pub leased : set.FinSet nat_cmp
  pub capacity : ℕ

-- whether an id is queued
abbrev pub is_queued : QueueState → ℕ → Bool
is_queued q id = list_any (nat_eq id) q.queued

-- whether an id is leased
abbrev pub is_leased : QueueState → ℕ → Bool
is_leased q id = set.contains q.leased id

-- whether an id is held: queued or leased
abbrev pub is_held : QueueState → ℕ → Bool
is_held q id = is_queued q id || is_leased q id

-- how many ids are held
abbrev pub held_count : QueueState → ℕ
held_count q = length q.queued + set.len q.leased

-- whether an id is held already, or there is space for one more
abbrev pub has_capacity_for : QueueState → ℕ → Bool
has_capacity_for q id = is_held q id || nat_lt (held_count q) q.capacity

-- no id is queued twice, none is both queued and leased, and the held ids are within the capacity
pub record IsConsistent (q : QueueState) : Type 0 where
  pub distinct : IsDistinct nat_eq q.queued
  pub apart : (id : ℕ) → is_leased q id ≡ true → is_queued q id ≡ false
  pub within : held_count q ≤ q.capacity

-- a new queue: every id is idle, and there is no capacity
abbrev pub empty_queue : QueueState
empty_queue = record { queued = []; leased = set.empty; capacity = 0 }

-- capacity for at least n ids
abbrev pub after_reserve : QueueState → ℕ → QueueState
after_reserve q n = record q { capacity = max q.capacity n }

-- an idle id is appended, and a held one stays as it is
abbrev pub after_mark : QueueState → ℕ → QueueState
after_mark q id = if is_held q id then q else record q { queued = q.queued ++ id ∷ [] }

-- the first of the queued ids, or the fault where there is none
abbrev pub first_of : List ℕ → Result ℕ QueueFault
first_of [] = Err Empty
first_of (id ∷ rest) = Ok id

-- the first of these ids is leased, and the rest are queued
abbrev pub with_first_leased : QueueState → List ℕ → QueueState
with_first_leased q [] = q
with_first_leased q (id ∷ rest) = record q { queued = rest; leased = set.insert q.leased id }

-- the first queued id is leased
abbrev pub after_lease : QueueState → QueueState
after_lease q = with_first_leased q q.queued

-- a leased id is idle, and any other stays as it is
abbrev pub after_settle : QueueState → ℕ → QueueState
after_settle q id = record q { leased = set.remove q.leased id }

-- a leased id is appended to the queued ones, and any other stays as it is
abbrev pub after_requeue : QueueState → ℕ → QueueState
after_requeue q id =
    if is_leased q id
    then record q { queued = q.queued ++ id ∷ []; leased = set.remove q.leased id }
    else q

-- a leased id is prepended to the queued ones, and any other stays as it is
abbrev pub after_give_back : QueueState → ℕ → QueueState
after_give_back q id =
    if is_leased q id
    then record q { queued = id ∷ q.queued; leased = set.remove q.leased id }
    else q

-- an id is idle, whether it was queued or leased
abbrev pub after_forget : QueueState → ℕ → QueueState
after_forget q id =
    record q {
      queued = filter (λ k. not (k == id)) q.queued;
      leased = set.remove q.leased id;
    }
