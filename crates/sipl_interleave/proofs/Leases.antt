-- Which ids are leased, after a change of the queue.
use Rattle.std.proofs.Common.{◌≡◌, ◌≢◌, ℕ, eqb, not, true, false, ◌&&◌, ◌||◌, List, [], ◌∷◌, Option, Some, None, Ok, inl, inr, refl, sym, ap, ◌∙◌, true≢false}
use Rattle.std.specs.FinSet as set
use Rattle.std.specs.Cmp.{nat_cmp_total, unsigned_tied}
use Rattle.std.proofs.lemmas.Bool.{cond_both, eq-eqb}
use Rattle.sipl_repair.specs.QueueState.{QueueState, after_give_back, after_lease, after_mark, after_requeue, after_settle, first_of, is_held, is_leased, with_first_leased}
use Rattle.sipl_book.specs.Entries.{EntryState}
use Rattle.sipl_book.specs.Repairs.{after_failure, after_marks, after_renewal, is_outdated, queue_after_give_back}
use Rattle.sipl_book.proofs.Public.{differ}
use Rattle.sipl_interleave.proofs.Numbers.{same_or_not}

-- ---- what leaves the leased ids

leased-mark : (q : QueueState) (id k : ℕ) → is_leased (after_mark q id) k ≡ is_leased q k
leased-mark q id k = cond_both (is_held q id) q _ (λ (new : QueueState). is_leased new k ≡ is_leased q k) (λ _. refl) (λ _. refl)

pub leased-marks : (q : QueueState) (ids : List ℕ) (k : ℕ) → is_leased (after_marks q ids) k ≡ is_leased q k
leased-marks q [] k = refl
leased-marks q (id ∷ ids) k = leased-marks (after_mark q id) ids k ∙ leased-mark q id k

pub leased-renewal : (q : QueueState) (entry : Option EntryState) (k : ℕ) → is_leased (after_renewal q entry) k ≡ is_leased q k
leased-renewal q None k = refl
leased-renewal q (Some e) k = refl

-- ---- what takes one leased id away

-- no id is leased but those that were, and one that was is not
pub record Spends (id : ℕ) (old new : QueueState) : Type 0 where
  pub gone : is_leased new id ≡ false
  pub others : (k : ℕ) → k ≢ id → is_leased new k ≡ is_leased old k

pub spends-remove : (q : QueueState) (id : ℕ) (queued : List ℕ) → Spends id q (record q { queued = queued; leased = set.remove q.leased id })
spends-remove q id queued =
    record {
      gone = contains-remove id ∙ ap (λ b. not b && set.contains q.leased id) (eq-eqb id id refl);
      others = λ k other. contains-remove k ∙ ap (λ b. not b && set.contains q.leased k) (differ k id other);
    }
  where
    contains-remove : (k : ℕ) → set.contains (set.remove q.leased id) k ≡ (not (eqb k id) && set.contains q.leased k)
    contains-remove k = set.contains-remove nat_cmp_total q.leased id k ∙ ap (λ b. not b && set.contains q.leased k) (unsigned_tied k id)

spends-none : (q : QueueState) (id : ℕ) → is_leased q id ≡ false → Spends id q q
spends-none q id none = record { gone = none; others = λ k other. refl }

pub spends-return : (es : List EntryState) (q : QueueState) (id : ℕ) → Spends id q (queue_after_give_back es q id)
spends-return es q id =
    cond_both (is_outdated es id) (after_give_back q id) (after_settle q id) (Spends id q)
    (λ _. cond_both (is_leased q id) _ q (Spends id q) (λ _. spends-remove q id (id ∷ q.queued)) (λ none. spends-none q id none))
    (λ _. spends-remove q id q.queued)

pub spends-settle : (q : QueueState) (id : ℕ) → Spends id q (after_settle q id)
spends-settle q id = spends-remove q id q.queued

pub spends-failure : (es : List EntryState) (q : QueueState) (id : ℕ) → Spends id q (after_failure es q id)
spends-failure es q id =
    cond_both (is_outdated es id) (after_requeue q id) (after_settle q id) (Spends id q)
    (λ _. cond_both (is_leased q id) _ q (Spends id q) (λ _. spends-remove q id _) (λ none. spends-none q id none))
    (λ _. spends-remove q id q.queued)

pub was_leased : (id : ℕ) (old new : QueueState) → Spends id old new → (k : ℕ) → is_leased new k ≡ true → (k ≢ id) × (is_leased old k ≡ true)
was_leased id old new spent k leased = elim (same_or_not k id) [
  | inl same ↦ absurd (true≢false (sym leased ∙ ap (is_leased new) same ∙ spent.gone))
  | inr other ↦ (other, sym (spent.others k other) ∙ leased)
]

-- ---- what leases one

contains-insert : (q : QueueState) (id k : ℕ) → set.contains (set.insert q.leased id) k ≡ (eqb k id || set.contains q.leased k)
contains-insert q id k = set.contains-insert nat_cmp_total q.leased id k ∙ ap (λ b. b || set.contains q.leased k) (unsigned_tied k id)

-- the first queued id is leased too
pub record Leases (id : ℕ) (old new : QueueState) : Type 0 where
  pub leased : is_leased new id ≡ true
  pub others : (k : ℕ) → k ≢ id → is_leased new k ≡ is_leased old k

pub leases-lease : (q : QueueState) (id : ℕ) → first_of q.queued ≡ Ok id → Leases id q (after_lease q)
leases-lease q id first = by q.queued first where
  with : (x : ℕ) (rest : List ℕ) → Leases x q (record q { queued = rest; leased = set.insert q.leased x })
  with x rest = record {
    leased = contains-insert q x x ∙ ap (λ b. b || set.contains q.leased x) (eq-eqb x x refl);
    others = λ k other. contains-insert q x k ∙ ap (λ b. b || set.contains q.leased k) (differ k x other);
  }

  by : (ids : List ℕ) → first_of ids ≡ Ok id → Leases id q (with_first_leased q ids)
  by [] none = cc
  by (x ∷ rest) is = let same : x ≡ id = cc in rw (← same) (with x rest)
