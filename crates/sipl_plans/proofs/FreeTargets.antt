-- The targets of servers: their endpoints, without the held ones or with these last.
use Rattle.std.proofs.Common.{◌≡◌, ℕ, ◌+◌, ◌<◌, Bool, false, not, List, [], ◌∷◌, ◌++◌, length, length-append, append-nil, filter, true, nat_lt, unwrap_or, refl, sym, ap, ◌∙◌, arith}
use Rattle.std.specs.List.{flat_map}
use Rattle.std.specs.Map.{lookup}
use Rattle.std.proofs.lemmas.Bool.{le-ltb}
use Rattle.sipl_records.specs.Unique.{unique}
use Rattle.sipl_choice.specs.Endpoints.{same_endpoint}
use Rattle.sipl_choice.specs.declared.endpoint.Endpoint.{Endpoint}
use Rattle.sipl_choice.specs.declared.transport.Transport.{Transport}
use Rattle.sipl_outages.specs.Holds.{Holds, is_held}
use Rattle.sipl_outages.specs.declared.held.Held.{Held}
use Rattle.sipl_outages.specs.declared.held.Held.TheVariants.{Out, Last}
use Rattle.sipl_plans.specs.Plan.{arranged, endpoints_of, without_held, with_held_last, targets_or_all_held, targets_among, draw}
use Rattle.sipl_plans.specs.declared.answer.Answer.TheVariants.{Targets, None}
use Rattle.sipl_plans.specs.declared.answer.Reason.TheVariants.{NoAddress, AllHeld}
use Rattle.sipl_plans.specs.declared.layout.Layout.{Layout}
use Rattle.sipl_plans.specs.declared.layout.Layout.TheVariants.{Servers}
use Rattle.sipl_plans.specs.declared.layout.Source.{Source}

-- no endpoint is held where no hold is there
pub none-held : (holds : Holds) → holds.ends ≡ [] → (e : Endpoint) → is_held holds e ≡ false
none-held holds none e =
    ap (λ (ends : List (Endpoint × ℕ)). nat_lt holds.now (unwrap_or (lookup (same_endpoint e) ends) 0)) none ∙ le-ltb holds.now 0 (omega arith)

module _ (holds : Holds) (free : (e : Endpoint) → is_held holds e ≡ false) where
  -- where none is held, all are left
  pub free-without : (endpoints : List Endpoint) → endpoints ≡ without_held holds endpoints
  free-without [] = refl
  free-without (endpoint ∷ others) =
      let kept : not (is_held holds endpoint) ≡ true = ap not (free endpoint) in
      rw kept (ap (λ (left : List Endpoint). endpoint ∷ left) (free-without others))

  free-held : (endpoints : List Endpoint) → [] ≡ filter (λ e. is_held holds e) endpoints
  free-held [] = refl
  free-held (endpoint ∷ others) = let none = free endpoint in rw none (free-held others)

  pub free-last : (endpoints : List Endpoint) → endpoints ≡ with_held_last holds endpoints
  free-last endpoints =
      sym (append-nil endpoints)
      ∙ ap (λ (last : List Endpoint). endpoints ++ last) (free-held endpoints)
      ∙ ap (λ (left : List Endpoint). left ++ filter (λ e. is_held holds e) endpoints) (free-without endpoints)

-- the answer is among the endpoints of the servers in their order
pub draw-among : (layout : Layout) (transport : Transport) (servers slice : List Source) (holds : Holds) (words : List ℕ) (held : Held) (endpoints : List Endpoint) → layout ≡ Servers transport servers → slice ≡ servers
    → endpoints ≡ unique same_endpoint (flat_map (endpoints_of transport) (arranged slice words)) → targets_among holds endpoints held ≡ draw layout holds words held
draw-among layout transport servers slice holds words held endpoints at own is =
    ap (λ es. targets_among holds es held) is
    ∙ ap (λ ss. draw (Servers transport ss) holds words held) own
    ∙ ap (λ l. draw l holds words held) (sym at)

module _ (holds : Holds) where
  -- the held endpoints and the others are as many as there are
  both-lengths : (endpoints : List Endpoint) → length (without_held holds endpoints) + length (filter (λ e. is_held holds e) endpoints) ≡ length endpoints
  both-lengths [] = refl
  both-lengths (endpoint ∷ others) = by (is_held holds endpoint) refl (both-lengths others)
    where
      by : (b : Bool) → is_held holds endpoint ≡ b → length (without_held holds others) + length (filter (λ e. is_held holds e) others) ≡ length others
          → length (without_held holds (endpoint ∷ others)) + length (filter (λ e. is_held holds e) (endpoint ∷ others)) ≡ length (endpoint ∷ others)
      by true is rest = rw is (omega (arith, rest))
      by false is rest = rw is (omega (arith, rest))

  pub length-last : (endpoints : List Endpoint) → length (with_held_last holds endpoints) ≡ length endpoints
  length-last endpoints =
      length-append (without_held holds endpoints) (filter (λ e. is_held holds e) endpoints) ∙ both-lengths endpoints

  -- without endpoints there is no address
  pub among-none : (endpoints : List Endpoint) (held : Held) → endpoints ≡ [] → None NoAddress ≡ targets_among holds endpoints held
  among-none endpoints held none = ap (λ es. targets_among holds es held) (sym none)

  among-out : (endpoints left : List Endpoint) → 0 < length endpoints → left ≡ without_held holds endpoints → targets_or_all_held left ≡ targets_among holds endpoints Out
  among-out [] left some is = absurd (omega arith)
  among-out (endpoint ∷ others) left some is = ap targets_or_all_held is

  -- where none is left, all are held
  pub among-held : (endpoints left : List Endpoint) → 0 < length endpoints → left ≡ without_held holds endpoints → left ≡ [] → None AllHeld ≡ targets_among holds endpoints Out
  among-held endpoints left some is none = ap targets_or_all_held (sym none) ∙ among-out endpoints left some is

  -- else the targets are those that are left
  pub among-left : (endpoints left targets : List Endpoint) → 0 < length endpoints → left ≡ without_held holds endpoints → 0 < length left → targets ≡ left → Targets targets ≡ targets_among holds endpoints Out
  among-left endpoints [] targets some is more same = absurd (omega arith)
  among-left endpoints (target ∷ others) targets some is more same = ap (λ ts. Targets ts) same ∙ among-out endpoints (target ∷ others) some is

  -- or all of them, with the held ones last
  pub among-last : (endpoints left targets : List Endpoint) → 0 < length endpoints → left ≡ with_held_last holds endpoints → targets ≡ left → Targets targets ≡ targets_among holds endpoints Last
  among-last [] left targets some is same = absurd (omega arith)
  among-last (endpoint ∷ others) left targets some is same = ap (λ ts. Targets ts) (same ∙ is)
