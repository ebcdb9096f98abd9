-- The calls of a queue, and the state after a list of them.
use Rattle.std.specs.Prelude.{ℕ, List, [], ◌∷◌, IsTrue}
use Rattle.sipl_repair.specs.QueueState.{QueueState, has_capacity_for, after_reserve, after_mark, after_lease, after_settle, after_requeue, after_give_back, after_forget}

-- a call of a queue, with its arguments
pub data Call : Type 0 where
  Reserve : ℕ → Call
  Mark : ℕ → Call
  Lease : Call
  Settle : ℕ → Call
  Requeue : ℕ → Call
  GiveBack : ℕ → Call
  Forget : ℕ → Call

-- the state after a call
abbrev pub after_call : QueueState → Call → QueueState
after_call q (Reserve n) = after_reserve q n
after_call q (Mark id) = after_mark q id
after_call q Lease = after_lease q
after_call q (Settle id) = after_settle q id
after_call q (Requeue id) = after_requeue q id
after_call q (GiveBack id) = after_give_back q id
after_call q (Forget id) = after_forget q id

-- the state after a list of calls
abbrev pub after_calls : QueueState → List Call → QueueState
after_calls q [] = q
after_calls q (call ∷ calls) = after_calls (after_call q call) calls

-- a mark needs capacity for its id, and every other call is always allowed
abbrev pub IsAllowed : QueueState → Call → Type 0
IsAllowed q (Reserve n) = Unit {0}
IsAllowed q (Mark id) = IsTrue (has_capacity_for q id)
IsAllowed q Lease = Unit {0}
IsAllowed q (Settle id) = Unit {0}
IsAllowed q (Requeue id) = Unit {0}
IsAllowed q (GiveBack id) = Unit {0}
IsAllowed q (Forget id) = Unit {0}

-- each of the calls is allowed in the state that the earlier ones leave
abbrev pub AreAllowed : QueueState → List Call → Type 0
AreAllowed q [] = Unit {0}
AreAllowed q (call ∷ calls) = IsAllowed q call × AreAllowed (after_call q call) calls
