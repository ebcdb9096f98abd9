-- Endpoints parted one after another into those that are not held and those that are.
use Rattle.std.proofs.Common.{◌≡◌, ℕ, ◌+◌, ◌<◌, ◌≤◌, Bool, true, false, not, List, [], ◌∷◌, ◌++◌, length, filter, take, get_or, cond, sym, ap, subst, ◌∙◌, append-nil}
use Rattle.std.proofs.lemmas.List.{take_all}
use Rattle.std.proofs.lemmas.List.Elements.{filter_more}
use Rattle.sipl_choice.specs.declared.endpoint.Endpoint.{Endpoint}
use Rattle.sipl_outages.specs.Holds.{Holds, is_held}
use Rattle.sipl_plans.specs.Plan.{with_held_last, without_held}

-- those that are held
abbrev pub held_ones : Holds → List Endpoint → List Endpoint
held_ones holds endpoints = filter (λ e. is_held holds e) endpoints

module _ (holds : Holds) (endpoints : List Endpoint) (i : ℕ) (d : Endpoint) (inside : i < length endpoints) where
  filter_next : (p : Endpoint → Bool) (b : Bool) → p (get_or endpoints i d) ≡ b → filter p (take (i + 1) endpoints) ≡ filter p (take i endpoints) ++ cond b (get_or endpoints i d ∷ []) []
  filter_next p b is =
      filter_more p endpoints i d inside ∙ ap (λ (c : Bool). filter p (take i endpoints) ++ cond c (get_or endpoints i d ∷ []) []) is

  -- the next one is held
  next-held : (targets held more : List Endpoint) → is_held holds (get_or endpoints i d) ≡ true → targets ≡ without_held holds (take i endpoints) → held ≡ held_ones holds (take i endpoints) → more ≡ held ++ get_or endpoints i d ∷ []
      → (targets ≡ without_held holds (take (i + 1) endpoints)) × (more ≡ held_ones holds (take (i + 1) endpoints))
  next-held targets held more is free kept pushed = (
    free ∙ sym (append-nil (without_held holds (take i endpoints))) ∙ sym (filter_next (λ e. not (is_held holds e)) false (ap not is)),
    pushed ∙ ap (λ (l : List Endpoint). l ++ get_or endpoints i d ∷ []) kept ∙ sym (filter_next (λ e. is_held holds e) true is),
  )

  -- the next one is not held
  next-free : (targets held more : List Endpoint) → is_held holds (get_or endpoints i d) ≡ false → targets ≡ without_held holds (take i endpoints) → held ≡ held_ones holds (take i endpoints) → more ≡ targets ++ get_or endpoints i d ∷ []
      → (more ≡ without_held holds (take (i + 1) endpoints)) × (held ≡ held_ones holds (take (i + 1) endpoints))
  next-free targets held more is free kept pushed = (
    pushed ∙ ap (λ (l : List Endpoint). l ++ get_or endpoints i d ∷ []) free ∙ sym (filter_next (λ e. not (is_held holds e)) true (ap not is)),
    kept ∙ sym (append-nil (held_ones holds (take i endpoints))) ∙ sym (filter_next (λ e. is_held holds e) false is),
  )

-- the same of a slice of the endpoints
module _ (holds : Holds) (endpoints slice : List Endpoint) (same : slice ≡ endpoints) (i : ℕ) (d : Endpoint) (inside : i < length slice) (targets held more : List Endpoint) where
  pub push-held : is_held holds (get_or slice i d) ≡ true → targets ≡ without_held holds (take i endpoints) → held ≡ held_ones holds (take i endpoints) → more ≡ held ++ get_or slice i d ∷ []
      → (targets ≡ without_held holds (take (i + 1) endpoints)) × (more ≡ held_ones holds (take (i + 1) endpoints))
  push-held is free kept pushed =
      subst (λ all. (targets ≡ without_held holds (take (i + 1) all)) × (more ≡ held_ones holds (take (i + 1) all))) same
      (next-held holds slice i d inside targets held more is
      (free ∙ ap (λ all. without_held holds (take i all)) (sym same))
      (kept ∙ ap (λ all. held_ones holds (take i all)) (sym same)) pushed)

  pub push-free : is_held holds (get_or slice i d) ≡ false → targets ≡ without_held holds (take i endpoints) → held ≡ held_ones holds (take i endpoints) → more ≡ targets ++ get_or slice i d ∷ []
      → (more ≡ without_held holds (take (i + 1) endpoints)) × (held ≡ held_ones holds (take (i + 1) endpoints))
  push-free is free kept pushed =
      subst (λ all. (more ≡ without_held holds (take (i + 1) all)) × (held ≡ held_ones holds (take (i + 1) all))) same
      (next-free holds slice i d inside targets held more is
      (free ∙ ap (λ all. without_held holds (take i all)) (sym same))
      (kept ∙ ap (λ all. held_ones holds (take i all)) (sym same)) pushed)

-- after the last one the held ones follow the others
pub all-last : (holds : Holds) (endpoints slice : List Endpoint) (i : ℕ) (targets held last result : List Endpoint) → slice ≡ endpoints → length slice ≤ i → targets ≡ without_held holds (take i endpoints) → held ≡ held_ones holds (take i endpoints) → last ≡ held → result ≡ targets ++ last
    → result ≡ with_held_last holds endpoints
all-last holds endpoints slice i targets held last result same past free kept own joined =
    let whole : take i endpoints ≡ endpoints = take_all i endpoints (subst (λ l. length l ≤ i) same past) in
    joined
    ∙ ap (λ (l : List Endpoint). targets ++ l) own
    ∙ ap (λ (l : List Endpoint). l ++ held) free
    ∙ ap (λ (l : List Endpoint). without_held holds (take i endpoints) ++ l) kept
    ∙ ap (λ (l : List Endpoint). with_held_last holds l) whole
