-- How many ids are leased after each call.
use Rattle.std.proofs.Common.{◌≡◌, ℕ, ◌+◌, ◌<◌, ◌≤◌, true, ◌∷◌, [], ◌++◌, List, refl, ◌∙◌, arith}
use Rattle.std.specs.FinSet as set
use Rattle.std.proofs.lemmas.Bool.{cond_both}
use Rattle.sipl_repair.specs.QueueState.{QueueState, is_held, is_leased, after_lease, after_mark, with_first_leased, after_settle, after_requeue, after_give_back, after_forget}
use Rattle.sipl_repair.proofs.Public.{len-insert_le, len-remove_le, len-remove_lt}
use Rattle.sipl_book.specs.Repairs.{after_marks}

abbrev pub leased_count : QueueState → ℕ
leased_count q = set.len q.leased

pub leased-settle : (q : QueueState) (id : ℕ) → leased_count (after_settle q id) ≤ leased_count q
leased-settle q id = len-remove_le q.leased id

pub leased-forget : (q : QueueState) (id : ℕ) → leased_count (after_forget q id) ≤ leased_count q
leased-forget q id = len-remove_le q.leased id

pub leased-settled : (q : QueueState) (id : ℕ) → is_leased q id ≡ true → leased_count (after_settle q id) < leased_count q
leased-settled q id leased = len-remove_lt q.leased id leased

pub leased-requeue : (q : QueueState) (id : ℕ) → leased_count (after_requeue q id) ≤ leased_count q
leased-requeue q id =
    cond_both (is_leased q id) (record q { queued = q.queued ++ id ∷ []; leased = set.remove q.leased id }) q (λ (w : QueueState). leased_count w ≤ leased_count q)
    (λ _. len-remove_le q.leased id) (λ _. omega arith)

pub leased-give_back : (q : QueueState) (id : ℕ) → leased_count (after_give_back q id) ≤ leased_count q
leased-give_back q id =
    cond_both (is_leased q id) (record q { queued = id ∷ q.queued; leased = set.remove q.leased id }) q (λ (w : QueueState). leased_count w ≤ leased_count q)
    (λ _. len-remove_le q.leased id) (λ _. omega arith)

pub leased-lease : (q : QueueState) → leased_count (after_lease q) ≤ leased_count q + 1
leased-lease q = by q.queued
  where
    by : (ks : List ℕ) → leased_count (with_first_leased q ks) ≤ leased_count q + 1
    by [] = omega arith
    by (k ∷ ks) = len-insert_le q.leased k

pub leased-marks : (q : QueueState) (ids : List ℕ) → leased_count (after_marks q ids) ≡ leased_count q
leased-marks q [] = refl
leased-marks q (id ∷ ids) =
    leased-marks (after_mark q id) ids
    ∙ cond_both (is_held q id) q (record q { queued = q.queued ++ id ∷ [] }) (λ (w : QueueState). leased_count w ≡ leased_count q) (λ _. refl) (λ _. refl)
