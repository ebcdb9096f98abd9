-- Held endpoints are tried last in their order.
use Rattle.std.proofs.Common.{◌≡◌, ℕ, List, [], ◌∷◌, ◌++◌, append-nil, filter, refl, sym, ap, ◌∙◌}
use Rattle.std.specs.List.{flat_map}
use Rattle.sipl_records.specs.Unique.{unique}
use Rattle.sipl_choice.specs.Endpoints.{same_endpoint}
use Rattle.sipl_choice.specs.declared.endpoint.Endpoint.{Endpoint}
use Rattle.sipl_outages.specs.Holds.{Holds, is_held}
use Rattle.sipl_outages.specs.declared.held.Held.TheVariants.{Last}
use Rattle.sipl_plans.specs.Plan.{arranged, draw, endpoints_of, targets_among, with_held_last, without_held}
use Rattle.sipl_plans.specs.Policies.{HoldsNone}
use Rattle.sipl_plans.specs.declared.answer.Answer.TheVariants.{Targets, None}
use Rattle.sipl_plans.specs.declared.answer.Reason.{Reason}
use Rattle.sipl_plans.specs.declared.layout.Layout.{Layout}
use Rattle.sipl_plans.specs.declared.layout.Layout.TheVariants.{Refused, Servers}

-- where none is held, all are left, and none is last
module _ (free : Holds) (none : HoldsNone free) where
  all-left : (endpoints : List Endpoint) → without_held free endpoints ≡ endpoints
  all-left [] = refl
  all-left (endpoint ∷ others) =
      let left = none endpoint in
      rw left (ap (λ (es : List Endpoint). endpoint ∷ es) (all-left others))

  none-last : (endpoints : List Endpoint) → filter (λ e. is_held free e) endpoints ≡ []
  none-last [] = refl
  none-last (endpoint ∷ others) =
      let left = none endpoint in
      rw left (none-last others)

  in-order : (endpoints : List Endpoint) → with_held_last free endpoints ≡ endpoints
  in-order endpoints =
      ap (λ (last : List Endpoint). without_held free endpoints ++ last) (none-last endpoints)
      ∙ append-nil (without_held free endpoints)
      ∙ all-left endpoints

  module _ (holds : Holds) where
    among-targets : (endpoints targets : List Endpoint) → targets_among free endpoints Last ≡ Targets targets → targets_among holds endpoints Last ≡ Targets (with_held_last holds targets)
    among-targets [] targets is = absurd (let never = is in cc)
    among-targets (endpoint ∷ others) targets is =
        let given : with_held_last free (endpoint ∷ others) ≡ targets = let same = is in cc in
        ap (λ (es : List Endpoint). Targets (with_held_last holds es)) (sym (in-order (endpoint ∷ others)) ∙ given)

    among-none : (endpoints : List Endpoint) (reason : Reason) → targets_among free endpoints Last ≡ None reason → targets_among holds endpoints Last ≡ None reason
    among-none [] reason is = is
    among-none (endpoint ∷ others) reason is = absurd (let never = is in cc)

    module _ (words : List ℕ) where
      pub draw-targets : (layout : Layout) (targets : List Endpoint) → draw layout free words Last ≡ Targets targets → draw layout holds words Last ≡ Targets (with_held_last holds targets)
      draw-targets (Refused reason) targets is = absurd (let never = is in cc)
      draw-targets (Servers transport servers) targets is =
          among-targets (unique same_endpoint (flat_map (endpoints_of transport) (arranged servers words))) targets is

      pub draw-none : (layout : Layout) (reason : Reason) → draw layout free words Last ≡ None reason → draw layout holds words Last ≡ None reason
      draw-none (Refused given) reason is = is
      draw-none (Servers transport servers) reason is =
          among-none (unique same_endpoint (flat_map (endpoints_of transport) (arranged servers words))) reason is
