-- Any events: the time, and the ends of holds after one event.
use Rattle.std.proofs.Common.{◌≡◌, ℕ, ◌+◌, ◌≤◌, ◌==◌, max, Bool, true, false, cond, not, ltb, List, [], ◌∷◌, ◌++◌, map, filter, unwrap_or, Option, Some, None, inl, inr, refl, sym, ap, ◌∙◌, arith}
use Rattle.std.specs.List.{IsDistinct}
use Rattle.std.specs.Map.{keys_of, lookup}
use Rattle.std.proofs.lemmas.Bool.{cond-true, cond-false, cond_both, cases_Bool, le-ltb, ltb-false}
use Rattle.std.proofs.lemmas.Map.Keys.{IsDistinct-head, IsDistinct-tail}
use Rattle.sipl_choice.specs.declared.endpoint.Endpoint.{Endpoint}
use Rattle.sipl_choice.specs.Endpoints.{same_endpoint}
use Rattle.sipl_choice.proofs.Public.{same_endpoint_decides}
use Rattle.sipl_outages.specs.Holds.{Holds, is_held, end_of, extended, after, after_hold, after_release, refusal_of, BoardEvent}
use Rattle.sipl_outages.specs.Holds.BoardEvent.{Hold, Release, Advance}
use Rattle.sipl_outages.specs.Events.{after_all, AreAccepted}
use Rattle.sipl_outages.proofs.Ends.{Ends, IsAbsentFrom, absent_after}

-- ---- the time

-- where a test refuses, what is accepted failed it
pub refused_not : {A : Type 0} (b : Bool) (fault : A) (rest : Option A) → cond b (Some fault) rest ≡ None → b ≡ false
refused_not true fault rest accepted = cc
refused_not false fault rest accepted = refl

pub now-after : (max_holds : ℕ) (event : BoardEvent) (holds : Holds) → refusal_of max_holds event holds ≡ None → holds.now ≤ (after event holds).now
now-after max_holds (Hold endpoint ms) holds accepted =
    cond_both (is_held holds endpoint) _ _ (λ (h : Holds). holds.now ≤ h.now) (λ _. omega arith)
    (λ _. cond_both (ms == 0) _ _ (λ (h : Holds). holds.now ≤ h.now) (λ _. omega arith) (λ _. omega arith))
now-after max_holds (Release endpoint) holds accepted = omega arith
now-after max_holds (Advance to) holds accepted = ltb-false to holds.now (refused_not (ltb to holds.now) _ _ accepted)

pub now-after_all : (max_holds : ℕ) (events : List BoardEvent) (holds : Holds) → AreAccepted max_holds events holds → holds.now ≤ (after_all events holds).now
now-after_all max_holds [] holds accepted = omega arith
now-after_all max_holds (event ∷ events) holds accepted =
    omega (arith, now-after max_holds event holds accepted.0, now-after_all max_holds events (after event holds) accepted.1)

-- ---- the end of the endpoint that an event is of

module _ (k : Endpoint) where
  pub lookup-extended_same : (end old : ℕ) (es : Ends) → lookup (same_endpoint k) es ≡ Some old → lookup (same_endpoint k) (map (extended k end) es) ≡ Some (max old end)
  lookup-extended_same end old [] found = cc
  lookup-extended_same end old (e ∷ es) found =
      elim (same_endpoint k e.0) as (λ b. same_endpoint k e.0 ≡ b → cond b (Some e.1) (lookup (same_endpoint k) es) ≡ Some old
      → cond (same_endpoint k (cond b (e.0, max e.1 end) e).0) (Some (cond b (e.0, max e.1 end) e).1) (lookup (same_endpoint k) (map (extended k end) es)) ≡ Some (max old end)) [
        | true ↦ λ same first. let is_old : e.1 ≡ old = cc in cond-true _ _ _ same ∙ ap (λ v. Some (max v end)) is_old
        | false ↦ λ other later. cond-false _ _ _ other ∙ lookup-extended_same end old es later
      ] refl found

  pub lookup-push : (x : Endpoint) (end : ℕ) (es : Ends) → lookup (same_endpoint k) es ≡ None → lookup (same_endpoint k) (es ++ (x, end) ∷ []) ≡ cond (same_endpoint k x) (Some end) None
  lookup-push x end [] none = refl
  lookup-push x end (e ∷ es) none =
      elim (same_endpoint k e.0) as (λ b. cond b (Some e.1) (lookup (same_endpoint k) es) ≡ None
      → cond b (Some e.1) (lookup (same_endpoint k) (es ++ (x, end) ∷ [])) ≡ cond (same_endpoint k x) (Some end) None) [
        | true ↦ λ first. cc
        | false ↦ λ later. lookup-push x end es later
      ] none

  pub lookup-released : (es : Ends) → lookup (same_endpoint k) (filter (λ hold. not (same_endpoint k hold.0)) es) ≡ None
  lookup-released [] = refl
  lookup-released (e ∷ es) =
      elim (same_endpoint k e.0) as (λ b. same_endpoint k e.0 ≡ b → lookup (same_endpoint k) (cond (not b) (e ∷ filter (λ hold. not (same_endpoint k hold.0)) es) (filter (λ hold. not (same_endpoint k hold.0)) es)) ≡ None) [
        | true ↦ λ same. lookup-released es
        | false ↦ λ other. cond-false _ _ _ other ∙ lookup-released es
      ] refl

  lookup-absent : (es : Ends) → IsAbsentFrom k es → lookup (same_endpoint k) es ≡ None
  lookup-absent [] h = refl
  lookup-absent (e ∷ es) h = cond-false _ _ _ h.0 ∙ lookup-absent es h.1

  -- what is dropped at a time has run out then
  pub lookup-later : (to t : ℕ) (es : Ends) → to ≤ t → IsDistinct same_endpoint (keys_of es)
      → ltb t (unwrap_or (lookup (same_endpoint k) (filter (λ hold. ltb to hold.1) es)) 0) ≡ ltb t (unwrap_or (lookup (same_endpoint k) es) 0)
  lookup-later to t [] from apart = refl
  lookup-later to t (e ∷ es) from apart =
      let later = lookup-later to t es from (IsDistinct-tail same_endpoint e.0 (keys_of es) apart) in
      let left : Ends = filter (λ hold. ltb to hold.1) es in
      elim (ltb to e.1) as (λ c. ltb to e.1 ≡ c → ltb t (unwrap_or (lookup (same_endpoint k) (cond c (e ∷ left) left)) 0) ≡ ltb t (unwrap_or (cond (same_endpoint k e.0) (Some e.1) (lookup (same_endpoint k) es)) 0)) [
        | true ↦ λ _. elim (same_endpoint k e.0) as (λ b. ltb t (unwrap_or (cond b (Some e.1) (lookup (same_endpoint k) left)) 0) ≡ ltb t (unwrap_or (cond b (Some e.1) (lookup (same_endpoint k) es)) 0)) [
          | true ↦ refl
          | false ↦ later
        ]
        | false ↦ λ ended. elim (same_endpoint k e.0) as (λ b. same_endpoint k e.0 ≡ b → ltb t (unwrap_or (lookup (same_endpoint k) left) 0) ≡ ltb t (unwrap_or (cond b (Some e.1) (lookup (same_endpoint k) es)) 0)) [
          | true ↦ λ same.
              let none = lookup-absent es (absent_after k e.0 es same (IsDistinct-head same_endpoint e.0 (keys_of es) apart)) in
              let over : e.1 ≤ to = ltb-false to e.1 ended in
              later ∙ ap (λ r. ltb t (unwrap_or r 0)) none ∙ le-ltb t 0 (omega arith) ∙ sym (le-ltb t e.1 (omega arith))
          | false ↦ λ _. later
        ] refl
      ] refl

-- ---- the ends of other endpoints

-- an endpoint other than the one that changes
module _ (endpoint other : Endpoint) (apart : same_endpoint other endpoint ≡ false) where
  apart_too : (x : Endpoint) → same_endpoint endpoint x ≡ true → same_endpoint other x ≡ false
  apart_too x same = ap (same_endpoint other) (sym ((same_endpoint_decides endpoint x).0 same)) ∙ apart

  lookup-extended_other : (end : ℕ) (es : Ends) → lookup (same_endpoint other) (map (extended endpoint end) es) ≡ lookup (same_endpoint other) es
  lookup-extended_other end [] = refl
  lookup-extended_other end (e ∷ es) =
      let rest = lookup-extended_other end es in
      elim (same_endpoint endpoint e.0) as (λ b. same_endpoint endpoint e.0 ≡ b
      → cond (same_endpoint other (cond b (e.0, max e.1 end) e).0) (Some (cond b (e.0, max e.1 end) e).1) (lookup (same_endpoint other) (map (extended endpoint end) es))
      ≡ cond (same_endpoint other e.0) (Some e.1) (lookup (same_endpoint other) es)) [
        | true ↦ λ same. cond-false _ _ _ (apart_too e.0 same) ∙ rest ∙ sym (cond-false _ _ _ (apart_too e.0 same))
        | false ↦ λ _. ap (λ r. cond (same_endpoint other e.0) (Some e.1) r) rest
      ] refl

  lookup-push_other : (end : ℕ) (es : Ends) → lookup (same_endpoint other) (es ++ (endpoint, end) ∷ []) ≡ lookup (same_endpoint other) es
  lookup-push_other end [] = cond-false _ _ _ apart
  lookup-push_other end (e ∷ es) = ap (λ r. cond (same_endpoint other e.0) (Some e.1) r) (lookup-push_other end es)

  lookup-released_other : (es : Ends) → lookup (same_endpoint other) (filter (λ hold. not (same_endpoint endpoint hold.0)) es) ≡ lookup (same_endpoint other) es
  lookup-released_other [] = refl
  lookup-released_other (e ∷ es) =
      let left : Ends = filter (λ hold. not (same_endpoint endpoint hold.0)) es in
      let rest = lookup-released_other es in
      elim (same_endpoint endpoint e.0) as (λ b. same_endpoint endpoint e.0 ≡ b
      → lookup (same_endpoint other) (cond (not b) (e ∷ left) left) ≡ cond (same_endpoint other e.0) (Some e.1) (lookup (same_endpoint other) es)) [
        | true ↦ λ same. rest ∙ sym (cond-false _ _ _ (apart_too e.0 same))
        | false ↦ λ _. ap (λ r. cond (same_endpoint other e.0) (Some e.1) r) rest
      ] refl

  pub end_of-hold_other : (ms : ℕ) (holds : Holds) → end_of (after_hold endpoint ms holds) other ≡ end_of holds other
  end_of-hold_other ms holds =
      cond_both (is_held holds endpoint) _ _ (λ (h : Holds). end_of h other ≡ end_of holds other)
      (λ _. ap (λ r. unwrap_or r 0) (lookup-extended_other (holds.now + ms) holds.ends))
      (λ _. cond_both (ms == 0) _ _ (λ (h : Holds). end_of h other ≡ end_of holds other) (λ _. refl)
      (λ _. ap (λ r. unwrap_or r 0) (lookup-push_other (holds.now + ms) holds.ends)))

  pub end_of-release_other : (holds : Holds) → end_of (after_release endpoint holds) other ≡ end_of holds other
  end_of-release_other holds = ap (λ r. unwrap_or r 0) (lookup-released_other holds.ends)

-- other endpoints are told apart
pub not_same : (endpoint other : Endpoint) → (other ≡ endpoint → ⊥) → same_endpoint other endpoint ≡ false
not_same endpoint other apart =
    elim (cases_Bool (same_endpoint other endpoint)) [
      | inl same ↦ absurd (apart ((same_endpoint_decides other endpoint).0 same))
      | inr differs ↦ differs
    ]
