-- Endpoints, each once.
use Rattle.std.proofs.Common.{◌≡◌, ℕ, ◌+◌, ◌<◌, ◌≤◌, List, [], ◌∷◌, ◌++◌, length, take, drop, get_or, set, ◌||◌, if◌then◌else◌, true, false, refl, sym, ap, ◌∙◌, arith, rules}
use Rattle.std.specs.List.{list_any}
use Rattle.std.proofs.lemmas.List.{take_more, take_more_set, drop-set-lt, drop-drop, get_or-drop}
use Rattle.indexmap.specs.IndexSet.{insert_key}
use Rattle.sipl_records.specs.Unique.{unique}
use Rattle.sipl_records.proofs.Public.{transitive_from_equivalence, unique-append}
use Rattle.sipl_choice.specs.declared.endpoint.Endpoint.{Endpoint}
use Rattle.sipl_choice.specs.contracts.endpoint.EndpointPartialEq.TheImpl.{eq-value}
use Rattle.sipl_choice.specs.Endpoints.{same_endpoint}
use Rattle.sipl_choice.proofs.Public.{same_endpoint-equivalence}

-- the derived equality of endpoints is that of the definitions
pub derived_eq : eq-value.it ≡ same_endpoint
derived_eq = λ i a b. at a b i
  where
    at : (a b : Endpoint) → eq-value.it a b ≡ same_endpoint a b
    at a b = search rules

-- one more endpoint
pub unique-more : (before : List Endpoint) (endpoint : Endpoint) (old new : List Endpoint) → old ≡ unique same_endpoint before → new ≡ (if list_any (λ other. same_endpoint other endpoint) old then old else old ++ endpoint ∷ []) → new ≡ unique same_endpoint (before ++ endpoint ∷ [])
unique-more before endpoint old new is pushed =
    pushed
    ∙ ap (λ (targets : List Endpoint). if list_any (λ other. same_endpoint other endpoint) targets then targets else targets ++ endpoint ∷ []) is
    ∙ sym (unique-append same_endpoint (transitive_from_equivalence same_endpoint same_endpoint-equivalence) before endpoint)

-- the endpoints that are the same as this one, either way round
same-flipped : (endpoint : Endpoint) (targets : List Endpoint) → list_any (same_endpoint endpoint) targets ≡ list_any (λ other. same_endpoint other endpoint) targets
same-flipped endpoint [] = refl
same-flipped endpoint (first ∷ rest) = λ k. same_endpoint-equivalence.symm endpoint first k || same-flipped endpoint rest k

-- one more endpoint of a table
pub table-more : (before : List Endpoint) (endpoint : Endpoint) (old new : List Endpoint) → old ≡ unique same_endpoint before → new ≡ insert_key same_endpoint old endpoint → new ≡ unique same_endpoint (before ++ endpoint ∷ [])
table-more before endpoint old new is inserted =
    unique-more before endpoint old new is (inserted ∙ ap (λ b. if b then old else old ++ endpoint ∷ []) (same-flipped endpoint old))

pub table-next : (all : List Endpoint) (place : ℕ) (default : Endpoint) (old new : List Endpoint) → place < length all → old ≡ unique same_endpoint (take place all) → new ≡ insert_key same_endpoint old (get_or all place default) → new ≡ unique same_endpoint (take (place + 1) all)
table-next all place default old new within is inserted =
    table-more (take place all) (get_or all place default) old new is inserted ∙ ap (λ (xs : List Endpoint). unique same_endpoint xs) (sym (take_more all place default within))

-- the place after this one, where the places from this one on are as they were
module _ (all items : List Endpoint) (kept place : ℕ) (endpoint : Endpoint) (within : place < length items) (long : length items ≡ length all) (before : kept ≤ place) (first : take kept items ≡ unique same_endpoint (take place all)) (rest : drop place items ≡ drop place all) (here : endpoint ≡ get_or items place endpoint) where
  none : place + 0 ≡ place
  none = omega arith

  inside : place < length all
  inside = omega (arith, long, within)

  same : endpoint ≡ get_or all place endpoint
  same =
      here
      ∙ ap (λ n. get_or items n endpoint) (sym none)
      ∙ sym (get_or-drop place items 0 endpoint)
      ∙ ap (λ (xs : List Endpoint). get_or xs 0 endpoint) rest
      ∙ get_or-drop place all 0 endpoint
      ∙ ap (λ n. get_or all n endpoint) none

  longer : take place all ++ endpoint ∷ [] ≡ take (place + 1) all
  longer = ap (λ (e : Endpoint). take place all ++ e ∷ []) same ∙ sym (take_more all place endpoint inside)

  first-more : (new : List Endpoint) → new ≡ (if list_any (λ other. same_endpoint other endpoint) (take kept items) then take kept items else take kept items ++ endpoint ∷ []) → new ≡ unique same_endpoint (take (place + 1) all)
  first-more new is = unique-more (take place all) endpoint (take kept items) new first is ∙ ap (λ (xs : List Endpoint). unique same_endpoint xs) longer

  -- the places after it are as they were
  pub rest-more : drop (place + 1) items ≡ drop (place + 1) all
  rest-more = sym (drop-drop 1 place items) ∙ ap (λ (xs : List Endpoint). drop 1 xs) rest ∙ drop-drop 1 place all

  -- an endpoint that is among the kept ones
  pub first-known : list_any (λ other. same_endpoint other endpoint) (take kept items) ≡ true → take kept items ≡ unique same_endpoint (take (place + 1) all)
  first-known known = first-more (take kept items) (ap (λ b. if b then take kept items else take kept items ++ endpoint ∷ []) (sym known))

  -- one that is not, which is kept after them
  pub first-new : list_any (λ other. same_endpoint other endpoint) (take kept items) ≡ false → take (kept + 1) (set items kept endpoint) ≡ unique same_endpoint (take (place + 1) all)
  first-new new =
      first-more (take (kept + 1) (set items kept endpoint))
      (take_more_set items kept endpoint (omega (arith, before, within)) ∙ ap (λ b. if b then take kept items else take kept items ++ endpoint ∷ []) (sym new))

  pub rest-new : drop (place + 1) (set items kept endpoint) ≡ drop (place + 1) all
  rest-new = drop-set-lt (place + 1) items kept endpoint (omega (arith, before)) ∙ rest-more
