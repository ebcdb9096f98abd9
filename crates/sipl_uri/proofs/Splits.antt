-- A text that is split at its separators.
use Rattle.std.proofs.Common.{◌≡◌, ℕ, Bool, true, false, not, ◌&&◌, eq-eqb, List, [], ◌∷◌, ◌++◌, Option, Some, None, if◌then◌else◌, refl, sym, ap, ◌∙◌, inl, inr, nat_eq}
use Rattle.std.specs.List.{flat_map, list_all}
use Rattle.std.proofs.lemmas.Bool.{cases_Bool, and_parts, and_from, not-true, not_from_false, eqb-true}
use Rattle.sipl_names.specs.Labels.{Octets}
use Rattle.sipl_records.specs.Parts.{parts, prepend_to_first, split_once}

-- no octet of the text is the separator
abbrev pub lacks : ℕ → Octets → Bool
lacks s text = list_all (λ c. not (nat_eq c s)) text

-- the text before a first separator, and the text after it
pub split_once-append : (s : ℕ) (before after : Octets) → lacks s before ≡ true → split_once s (before ++ s ∷ after) ≡ (before, Some after)
split_once-append s [] after none = rw (eq-eqb s s refl) refl
split_once-append s (c ∷ before) after none =
    let both = and_parts (not (nat_eq c s)) (lacks s before) none in
    rw (not-true (nat_eq c s) both.0, split_once-append s before after both.1) refl

-- a text without a separator
pub split_once-lacks : (s : ℕ) (text : Octets) → lacks s text ≡ true → split_once s text ≡ (text, None)
split_once-lacks s [] none = refl
split_once-lacks s (c ∷ text) none =
    let both = and_parts (not (nat_eq c s)) (lacks s text) none in
    rw (not-true (nat_eq c s) both.0, split_once-lacks s text both.1) refl

-- the text before the first separator has none
pub lacks-split_once : (s : ℕ) (text : Octets) → lacks s (split_once s text).0 ≡ true
lacks-split_once s [] = refl
lacks-split_once s (c ∷ text) = elim (cases_Bool (nat_eq c s)) [
  | inl here ↦ rw here refl
  | inr other ↦ rw other (and_from _ _ (not_from_false (nat_eq c s) other) (lacks-split_once s text))
]

-- a text that was split, joined again
abbrev pub joined : ℕ → Octets × Option Octets → Octets
joined s cut = elim cut.1 as (λ _. Octets) [ Some after ↦ cut.0 ++ s ∷ after | None ↦ cut.0 ]

abbrev step : ℕ → ℕ → Octets → Bool → Octets × Option Octets → Octets × Option Octets
step s c text here cut = if here then ([], Some text) else (c ∷ cut.0, cut.1)

pub joined-cons : (s c : ℕ) (before : Octets) (after : Option Octets) → joined s (c ∷ before, after) ≡ c ∷ joined s (before, after)
joined-cons s c before None = refl
joined-cons s c before (Some after) = refl

joined-step : (s c : ℕ) (text : Octets) (here : Bool) (cut : Octets × Option Octets) → nat_eq c s ≡ here → joined s cut ≡ text → joined s (step s c text here cut) ≡ c ∷ text
joined-step s c text true cut e same = ap (λ (d : ℕ). d ∷ text) (sym (eqb-true c s e))
joined-step s c text false cut e same = joined-cons s c cut.0 cut.1 ∙ ap (λ rest. c ∷ rest) same

pub joined-split_once : (s : ℕ) (text : Octets) → joined s (split_once s text) ≡ text
joined-split_once s [] = refl
joined-split_once s (c ∷ text) = joined-step s c text (nat_eq c s) (split_once s text) refl (joined-split_once s text)

-- what was split is the two texts with the separator between them, or the one
pub split_once-joins : (s : ℕ) (text after : Octets) → (split_once s text).1 ≡ Some after → text ≡ (split_once s text).0 ++ s ∷ after
split_once-joins s text after e = sym (joined-split_once s text) ∙ ap (λ rest. joined s ((split_once s text).0, rest)) e

pub split_once-whole : (s : ℕ) (text : Octets) → (split_once s text).1 ≡ None → text ≡ (split_once s text).0
split_once-whole s text e = sym (joined-split_once s text) ∙ ap (λ rest. joined s ((split_once s text).0, rest)) e

-- each of these texts after a separator
abbrev pub separated : ℕ → List Octets → Octets
separated s texts = flat_map (λ text. s ∷ text) texts

separated-prepended : (s c : ℕ) (text : Octets) (texts : List Octets) → separated s texts ≡ s ∷ text → separated s (prepend_to_first c texts) ≡ s ∷ c ∷ text
separated-prepended s c text [] e = cc
separated-prepended s c text (first ∷ texts) e =
    let same : first ++ separated s texts ≡ text = cc in
    ap (λ (rest : Octets). s ∷ c ∷ rest) same

-- the parts of a text, joined again
pub separated-parts : (s : ℕ) (text : Octets) → separated s (parts s text) ≡ s ∷ text
separated-parts s [] = refl
separated-parts s (c ∷ text) = elim (cases_Bool (nat_eq c s)) [
  | inl here ↦ rw here (ap (λ (rest : Octets). s ∷ rest) (separated-parts s text) ∙ ap (λ (d : ℕ). s ∷ d ∷ text) (sym (eqb-true c s here)))
  | inr other ↦ rw other (separated-prepended s c text (parts s text) (separated-parts s text))
]

parts-step : (s : ℕ) (first rest : Octets) (texts : List Octets) → lacks s first ≡ true → parts s rest ≡ [] ∷ texts → parts s (first ++ rest) ≡ first ∷ texts
parts-step s [] rest texts none e = e
parts-step s (c ∷ first) rest texts none e =
    let both = and_parts (not (nat_eq c s)) (lacks s first) none in
    rw (not-true (nat_eq c s) both.0) (ap (λ (ps : List Octets). prepend_to_first c ps) (parts-step s first rest texts both.1 e))

parts-end : (s : ℕ) (texts : List Octets) → list_all (lacks s) texts ≡ true → parts s (separated s texts) ≡ [] ∷ texts
parts-end s [] none = refl
parts-end s (text ∷ texts) none =
    let both = and_parts (lacks s text) (list_all (lacks s) texts) none in
    rw (eq-eqb s s refl) (ap (λ (ps : List Octets). [] ∷ ps) (parts-step s text (separated s texts) texts both.0 (parts-end s texts both.1)))

-- texts without the separator are parts
pub parts-separated : (s : ℕ) (text : Octets) (texts : List Octets) → lacks s text ≡ true → list_all (lacks s) texts ≡ true → parts s (text ++ separated s texts) ≡ text ∷ texts
parts-separated s text texts none others = parts-step s text (separated s texts) texts none (parts-end s texts others)

prepended-all : (p : ℕ → Bool) (c : ℕ) (texts : List Octets) → p c ≡ true → list_all (list_all p) texts ≡ true → list_all (list_all p) (prepend_to_first c texts) ≡ true
prepended-all p c [] here all = and_from _ _ (and_from _ _ here refl) refl
prepended-all p c (text ∷ texts) here all =
    let both = and_parts (list_all p text) (list_all (list_all p) texts) all in
    and_from _ _ (and_from _ _ here both.0) both.1

-- the octets of the parts are those of the text that are not the separator
pub parts-all : (s : ℕ) (p : ℕ → Bool) (text : Octets) → list_all p text ≡ true → list_all (list_all (λ c. p c && not (nat_eq c s))) (parts s text) ≡ true
parts-all s p [] all = refl
parts-all s p (c ∷ text) all =
    let both = and_parts (p c) (list_all p text) all in
    elim (cases_Bool (nat_eq c s)) [
      | inl here ↦ rw here (parts-all s p text both.1)
      | inr other ↦ rw other (prepended-all (λ d. p d && not (nat_eq d s)) c (parts s text) (and_from _ _ both.0 (not_from_false (nat_eq c s) other)) (parts-all s p text both.1))
    ]
