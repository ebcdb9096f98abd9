-- The answers under the policies on held endpoints, beside one another.
use Rattle.std.proofs.Common.{◌≡◌, ℕ, Bool, true, false, not, List, [], ◌∷◌, ◌++◌, filter, refl, sym, ap, subst, ◌∙◌}
use Rattle.std.specs.List.{flat_map}
use Rattle.std.proofs.lemmas.List.Sorted.{IsPermutation-filter_both}
use Rattle.sipl_records.specs.Unique.{unique}
use Rattle.sipl_choice.specs.Endpoints.{same_endpoint}
use Rattle.sipl_choice.specs.declared.endpoint.Endpoint.{Endpoint}
use Rattle.sipl_outages.specs.Holds.{Holds, is_held}
use Rattle.sipl_outages.specs.declared.held.Held.TheVariants.{Out, Last}
use Rattle.sipl_plans.specs.Plan.{arranged, draw, endpoints_of, targets_among, targets_or_all_held, with_held_last, without_held}
use Rattle.sipl_plans.specs.Policies.{BeginsWith, HasTargetsOf, HoldsNone}
use Rattle.sipl_plans.specs.declared.answer.Answer.TheVariants.{Targets, None}
use Rattle.sipl_plans.specs.declared.answer.Reason.TheVariants.{AllHeld}
use Rattle.sipl_plans.specs.declared.layout.Layout.{Layout}
use Rattle.sipl_plans.specs.declared.layout.Layout.TheVariants.{Refused, Servers}
use Rattle.sipl_plans.proofs.FreeTargets.{free-without, free-last}

-- where some are left, they are the targets
left-targets : (left targets : List Endpoint) → targets_or_all_held left ≡ Targets targets → left ≡ targets
left-targets [] targets is = absurd (let never = is in cc)
left-targets (endpoint ∷ others) targets is = let same = is in cc

-- where all are held, none is left
left-none : (left : List Endpoint) → targets_or_all_held left ≡ None AllHeld → left ≡ []
left-none [] is = refl
left-none (endpoint ∷ others) is = absurd (let never = is in cc)

double-not : (b : Bool) → b ≡ not (not b)
double-not true = refl
double-not false = refl

-- where all are held, all are among the held ones
all-held : (holds : Holds) (endpoints : List Endpoint) → without_held holds endpoints ≡ [] → filter (λ e. is_held holds e) endpoints ≡ endpoints
all-held holds [] none = refl
all-held holds (endpoint ∷ others) none = by (is_held holds endpoint) refl (λ rest. all-held holds others rest)
  where
    by : (b : Bool) → is_held holds endpoint ≡ b → (without_held holds others ≡ [] → filter (λ e. is_held holds e) others ≡ others) → filter (λ e. is_held holds e) (endpoint ∷ others) ≡ endpoint ∷ others
    by true is all =
        let same : without_held holds (endpoint ∷ others) ≡ without_held holds others = rw is refl in
        rw is (ap (λ (es : List Endpoint). endpoint ∷ es) (all (sym same ∙ none)))
    by false is all =
        let same : without_held holds (endpoint ∷ others) ≡ endpoint ∷ without_held holds others = rw is refl in
        let some : endpoint ∷ without_held holds others ≡ [] = sym same ∙ none in
        absurd (let never = some in cc)

-- among the endpoints in their order
module _ (holds : Holds) where
  among-agree : HoldsNone holds → (endpoints : List Endpoint) → targets_among holds endpoints Last ≡ targets_among holds endpoints Out
  among-agree none [] = refl
  among-agree none (endpoint ∷ others) =
      ap (λ ts. Targets ts) (sym (free-last holds none (endpoint ∷ others)))
      ∙ ap targets_or_all_held (free-without holds none (endpoint ∷ others))

  among-first : (endpoints targets : List Endpoint) → targets_among holds endpoints Out ≡ Targets targets → BeginsWith targets (targets_among holds endpoints Last)
  among-first [] targets is = absurd (let never = is in cc)
  among-first (endpoint ∷ others) targets is =
      let last : List Endpoint = filter (λ e. is_held holds e) (endpoint ∷ others) in
      (last, ap (λ (left : List Endpoint). Targets (left ++ last)) (left-targets (without_held holds (endpoint ∷ others)) targets is))

  module _ (free : Holds) (none : HoldsNone free) where
    among-reordered : (endpoints : List Endpoint) → HasTargetsOf (targets_among free endpoints Out) (targets_among holds endpoints Last)
    among-reordered [] = refl
    among-reordered (endpoint ∷ others) =
        let all : List Endpoint = endpoint ∷ others in
        let whole : Targets all ≡ targets_among free all Out = ap targets_or_all_held (free-without free none all) in
        subst (λ answer. HasTargetsOf answer (targets_among holds all Last)) whole
        (with_held_last holds all, refl, IsPermutation-filter_both (λ e. not (is_held holds e)) (λ e. is_held holds e) (λ e. double-not (is_held holds e)) all)

    among-all : (endpoints : List Endpoint) → targets_among holds endpoints Out ≡ None AllHeld → targets_among holds endpoints Last ≡ targets_among free endpoints Last
    among-all [] is = refl
    among-all (endpoint ∷ others) is =
        let all : List Endpoint = endpoint ∷ others in
        let left : without_held holds all ≡ [] = left-none (without_held holds all) is in
        ap (λ (ts : List Endpoint). Targets (ts ++ filter (λ e. is_held holds e) all)) left
        ∙ ap (λ ts. Targets ts) (all-held holds all left ∙ free-last free none all)

-- of a layout
module _ (holds : Holds) (words : List ℕ) where
  pub draw-agree : HoldsNone holds → (layout : Layout) → draw layout holds words Last ≡ draw layout holds words Out
  draw-agree none (Refused reason) = refl
  draw-agree none (Servers transport servers) =
      among-agree holds none (unique same_endpoint (flat_map (endpoints_of transport) (arranged servers words)))

  pub draw-first : (layout : Layout) (targets : List Endpoint) → draw layout holds words Out ≡ Targets targets → BeginsWith targets (draw layout holds words Last)
  draw-first (Refused reason) targets is = absurd (let never = is in cc)
  draw-first (Servers transport servers) targets is =
      among-first holds (unique same_endpoint (flat_map (endpoints_of transport) (arranged servers words))) targets is

  pub draw-reordered : (free : Holds) → HoldsNone free → (layout : Layout) → HasTargetsOf (draw layout free words Out) (draw layout holds words Last)
  draw-reordered free none (Refused reason) = refl
  draw-reordered free none (Servers transport servers) =
      among-reordered holds free none (unique same_endpoint (flat_map (endpoints_of transport) (arranged servers words)))

  pub draw-all : (free : Holds) → HoldsNone free → (layout : Layout) → draw layout holds words Out ≡ None AllHeld → draw layout holds words Last ≡ draw layout free words Last
  draw-all free none (Refused reason) is = refl
  draw-all free none (Servers transport servers) is =
      among-all holds free none (unique same_endpoint (flat_map (endpoints_of transport) (arranged servers words))) is
