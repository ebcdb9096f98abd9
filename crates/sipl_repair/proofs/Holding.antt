-- Which ids are queued or leased after each call.
use Rattle.std.proofs.Common.{◌≡◌, ℕ, Bool, true, false, not, ◌&&◌, ◌||◌, eqb, List, [], ◌∷◌, ◌++◌, refl, sym, ap, ◌∙◌}
use Rattle.std.specs.FinSet as set
use Rattle.std.specs.List.{list_any}
use Rattle.std.proofs.lemmas.Bool.{cond_both}
use Rattle.std.proofs.lemmas.List.Folds.{list_any-append}
use Rattle.std.proofs.lemmas.Map.Views.{any-filter_same, exact_unsigned_eq}
use Rattle.sipl_repair.specs.QueueState.{QueueState, is_held, is_queued, is_leased, after_mark, after_lease, with_first_leased, after_settle, after_requeue, after_give_back, after_forget}
use Rattle.sipl_repair.proofs.Members.{contains-insert, contains-remove}

-- a test that an id passes is the same for an id that equals it
known : (t : ℕ → Bool) (id k : ℕ) → t k ≡ true → (eqb id k || t id) ≡ t id
known t id k there =
    elim (eqb id k) as (λ b. eqb id k ≡ b → (b || t id) ≡ t id) [
      | true ↦ λ e. sym there ∙ ap t (sym (exact_unsigned_eq id k e))
      | false ↦ λ _. refl
    ] refl

pushed : (a b c : Bool) → ((a || (b || false)) || c) ≡ (b || (a || c))
pushed true true c = refl
pushed true false c = refl
pushed false true c = refl
pushed false false c = refl

moved_over : (a b c : Bool) → (a || (b || c)) ≡ ((b || a) || c)
moved_over true true c = refl
moved_over true false c = refl
moved_over false true c = refl
moved_over false false c = refl

moved_to_end : (a b c : Bool) → ((a || (b || false)) || (not b && c)) ≡ (a || (b || c))
moved_to_end true b c = refl
moved_to_end false true c = refl
moved_to_end false false c = refl

moved_to_front : (a b c : Bool) → ((b || a) || (not b && c)) ≡ (a || (b || c))
moved_to_front true true c = refl
moved_to_front true false c = refl
moved_to_front false true c = refl
moved_to_front false false c = refl

both_without : (a b c : Bool) → ((not b && a) || (not b && c)) ≡ (not b && (a || c))
both_without a true c = refl
both_without a false c = refl

pub is_held-after_mark : (w : QueueState) (k id : ℕ) → is_held (after_mark w k) id ≡ (eqb id k || is_held w id)
is_held-after_mark w k id =
    cond_both (is_held w k) w (record w { queued = w.queued ++ k ∷ [] }) (λ v. is_held v id ≡ (eqb id k || is_held w id))
    (λ there. sym (known (is_held w) id k there))
    (λ _. ap (λ a. a || is_leased w id) (list_any-append (eqb id) w.queued (k ∷ [])) ∙ pushed (is_queued w id) (eqb id k) (is_leased w id))

pub is_held-after_lease : (w : QueueState) (id : ℕ) → is_held (after_lease w) id ≡ is_held w id
is_held-after_lease w id = from w.queued refl
  where
    from : (ks : List ℕ) → w.queued ≡ ks → is_held (with_first_leased w ks) id ≡ is_held w id
    from [] e = refl
    from (k ∷ ks) e =
        ap (λ c. list_any (eqb id) ks || c) (contains-insert w.leased k id)
        ∙ moved_over (list_any (eqb id) ks) (eqb id k) (is_leased w id)
        ∙ ap (λ xs. list_any (eqb id) xs || is_leased w id) (sym e)

pub is_held-after_settle : (w : QueueState) (k id : ℕ) → is_held (after_settle w k) id ≡ (is_queued w id || (not (eqb id k) && is_leased w id))
is_held-after_settle w k id = ap (λ c. is_queued w id || c) (contains-remove w.leased k id)

pub is_held-after_requeue : (w : QueueState) (k id : ℕ) → is_held (after_requeue w k) id ≡ is_held w id
is_held-after_requeue w k id =
    cond_both (is_leased w k) (record w { queued = w.queued ++ k ∷ []; leased = set.remove w.leased k }) w (λ v. is_held v id ≡ is_held w id)
    (λ leased.
    (λ i. list_any-append (eqb id) w.queued (k ∷ []) i || contains-remove w.leased k id i)
    ∙ moved_to_end (is_queued w id) (eqb id k) (is_leased w id)
    ∙ ap (λ c. is_queued w id || c) (known (is_leased w) id k leased))
    (λ _. refl)

pub is_held-after_give_back : (w : QueueState) (k id : ℕ) → is_held (after_give_back w k) id ≡ is_held w id
is_held-after_give_back w k id =
    cond_both (is_leased w k) (record w { queued = k ∷ w.queued; leased = set.remove w.leased k }) w (λ v. is_held v id ≡ is_held w id)
    (λ leased.
    ap (λ c. (eqb id k || is_queued w id) || c) (contains-remove w.leased k id)
    ∙ moved_to_front (is_queued w id) (eqb id k) (is_leased w id)
    ∙ ap (λ c. is_queued w id || c) (known (is_leased w) id k leased))
    (λ _. refl)

pub is_held-after_forget : (w : QueueState) (k id : ℕ) → is_held (after_forget w k) id ≡ (not (eqb id k) && is_held w id)
is_held-after_forget w k id =
    (λ i. any-filter_same (eqb id) (λ q. not (eqb q k)) (not (eqb id k)) (λ q e. ap (λ x. not (eqb x k)) (sym (exact_unsigned_eq id q e))) w.queued i || contains-remove w.leased k id i)
    ∙ both_without (is_queued w id) (eqb id k) (is_leased w id)
