-- After any calls the state is consistent.
use Rattle.std.proofs.Common.{◌≡◌, ℕ, true, List, [], ◌∷◌, ◌++◌, refl, subst, arith}
use Rattle.std.specs.FinSet as set
use Rattle.std.proofs.lemmas.Bool.{or_parts, cond_both, ltb-true}
use Rattle.sipl_repair.specs.Calls.{Call, after_call, after_calls, IsAllowed, AreAllowed}
use Rattle.sipl_repair.specs.Calls.Call.{Reserve, Mark, Lease, Settle, Requeue, GiveBack, Forget}
use Rattle.sipl_repair.specs.QueueState.{QueueState, is_held, is_leased, has_capacity_for, IsConsistent, empty_queue, after_reserve, after_mark, after_lease, with_first_leased, after_settle, after_requeue, after_give_back, after_forget}
use Rattle.sipl_repair.proofs.Members.{passes_second}
use Rattle.sipl_repair.proofs.Consistency.{queue_of, IsConsistent-empty, IsConsistent-push, IsConsistent-lease, IsConsistent-remove, IsConsistent-requeue, IsConsistent-give_back, IsConsistent-without}

-- each call keeps the state consistent
pub IsConsistent-after_reserve : (w : QueueState) (n : ℕ) → IsConsistent w → IsConsistent (after_reserve w n)
IsConsistent-after_reserve w n h = record { distinct = h.distinct; apart = h.apart; within = omega (arith, h.within) }

pub IsConsistent-after_mark : (w : QueueState) (id : ℕ) → has_capacity_for w id ≡ true → IsConsistent w → IsConsistent (after_mark w id)
IsConsistent-after_mark w id may h =
    cond_both (is_held w id) w (record w { queued = w.queued ++ id ∷ [] }) IsConsistent (λ _. h) (λ idle.
    let parts = or_parts _ _ idle in
    IsConsistent-push w.queued w.leased w.capacity id h parts.0 parts.1 (ltb-true _ _ (passes_second _ _ idle may)))

pub IsConsistent-after_lease : (w : QueueState) → IsConsistent w → IsConsistent (after_lease w)
IsConsistent-after_lease w h = from w.queued refl
  where
    from : (ks : List ℕ) → w.queued ≡ ks → IsConsistent (with_first_leased w ks)
    from [] e = h
    from (k ∷ ks) e = IsConsistent-lease ks w.leased w.capacity k (subst (λ xs. IsConsistent (queue_of xs w.leased w.capacity)) e h)

pub IsConsistent-after_settle : (w : QueueState) (id : ℕ) → IsConsistent w → IsConsistent (after_settle w id)
IsConsistent-after_settle w id h = IsConsistent-remove w.queued w.leased w.capacity id h

pub IsConsistent-after_requeue : (w : QueueState) (id : ℕ) → IsConsistent w → IsConsistent (after_requeue w id)
IsConsistent-after_requeue w id h =
    cond_both (is_leased w id) (record w { queued = w.queued ++ id ∷ []; leased = set.remove w.leased id }) w IsConsistent
    (λ leased. IsConsistent-requeue w.queued w.leased w.capacity id h leased) (λ _. h)

pub IsConsistent-after_give_back : (w : QueueState) (id : ℕ) → IsConsistent w → IsConsistent (after_give_back w id)
IsConsistent-after_give_back w id h =
    cond_both (is_leased w id) (record w { queued = id ∷ w.queued; leased = set.remove w.leased id }) w IsConsistent
    (λ leased. IsConsistent-give_back w.queued w.leased w.capacity id h leased) (λ _. h)

pub IsConsistent-after_forget : (w : QueueState) (id : ℕ) → IsConsistent w → IsConsistent (after_forget w id)
IsConsistent-after_forget w id h = IsConsistent-without w.queued w.leased w.capacity id h

pub IsConsistent-after_call : (w : QueueState) (call : Call) → IsAllowed w call → IsConsistent w → IsConsistent (after_call w call)
IsConsistent-after_call w (Reserve n) may h = IsConsistent-after_reserve w n h
IsConsistent-after_call w (Mark id) may h = IsConsistent-after_mark w id may h
IsConsistent-after_call w Lease may h = IsConsistent-after_lease w h
IsConsistent-after_call w (Settle id) may h = IsConsistent-after_settle w id h
IsConsistent-after_call w (Requeue id) may h = IsConsistent-after_requeue w id h
IsConsistent-after_call w (GiveBack id) may h = IsConsistent-after_give_back w id h
IsConsistent-after_call w (Forget id) may h = IsConsistent-after_forget w id h

pub IsConsistent-after_calls : (w : QueueState) (calls : List Call) → AreAllowed w calls → IsConsistent w → IsConsistent (after_calls w calls)
IsConsistent-after_calls w [] may h = h
IsConsistent-after_calls w (call ∷ calls) may h = IsConsistent-after_calls (after_call w call) calls may.1 (IsConsistent-after_call w call may.0 h)

pub consistent_after_calls : (calls : List Call) → AreAllowed empty_queue calls → IsConsistent (after_calls empty_queue calls)
consistent_after_calls calls may = IsConsistent-after_calls empty_queue calls may IsConsistent-empty
