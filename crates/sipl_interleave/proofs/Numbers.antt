-- Numbers that are the same or not.
use Rattle.std.proofs.Common.{◌≡◌, ◌≢◌, ◌⊎◌, ℕ, eqb, inl, inr, sym, ◌∙◌, true≢false}
use Rattle.std.proofs.lemmas.Bool.{cases_Bool, eq-eqb}
use Rattle.std.proofs.lemmas.Map.Views.{exact_unsigned_eq}

pub same_or_not : (a b : ℕ) → (a ≡ b) ⊎ (a ≢ b)
same_or_not a b = elim (cases_Bool (eqb a b)) [
  | inl same ↦ inl (exact_unsigned_eq a b same)
  | inr apart ↦ inr (λ same. true≢false (sym (eq-eqb a b same) ∙ apart))
]
