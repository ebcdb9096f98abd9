-- What a set offers, from whether it has SRV data and from its picks.
use Rattle.std.proofs.Common.{◌≡◌, ◌≢◌, ℕ, zero, suc, ◌+◌, ◌<◌, ◌≤◌, Bool, true, false, not, cond, ltb, Option, List, [], ◌∷◌, ◌++◌, Some, None, length, get_or, take, refl, ap, sym, ◌∙◌, inl, inr, arith, append-nil}
use Rattle.std.specs.List.{filter, filter_map, cons_option, list_all}
use Rattle.std.proofs.lemmas.Bool.{cases_Bool, lt-ltb}
use Rattle.std.proofs.lemmas.List.{take_more, length_push}
use Rattle.std.proofs.lemmas.List.Elements.{filter-append, filter_map-append}
use Rattle.sipl_names.specs.Labels.{Labels}
use Rattle.sipl_records.specs.declared.data.Data.{Data}
use Rattle.sipl_records.specs.declared.data.Data.TheVariants.{Service}
use Rattle.sipl_srv.specs.declared.pick.Pick.{Pick}
use Rattle.sipl_srv.specs.declared.pick.Offer.TheVariants.{Nothing, Closed, Picks}
use Rattle.sipl_srv.specs.Offers.{pick_of, is_unavailable, offer_of_picks, offer_of}

-- the picks whose target is not the root
abbrev pub available : List Pick → List Pick
available picks = filter (λ p. not (is_unavailable p)) picks

all-unavailable : (picks : List Pick) → available picks ≡ [] → list_all is_unavailable picks ≡ true
all-unavailable [] none = refl
all-unavailable (pick ∷ picks) none = elim (cases_Bool (is_unavailable pick)) [
  | inl closed ↦ rw closed (all-unavailable picks (rw closed at none))
  | inr open' ↦ let never : pick ∷ available picks ≡ [] = rw open' at none in cc
]

some-available : (picks : List Pick) → 0 < length (available picks) → list_all is_unavailable picks ≡ false
some-available [] some' = absurd (omega arith)
some-available (pick ∷ picks) some' = elim (cases_Bool (is_unavailable pick)) [
  | inl closed ↦ rw closed (some-available picks (rw closed at some'))
  | inr open' ↦ rw open' refl
]

pub offer-closed : (picks : List Pick) → 0 < length picks → available picks ≡ [] → offer_of_picks picks ≡ Closed
offer-closed [] some' none = absurd (omega arith)
offer-closed (pick ∷ picks) some' none = rw (all-unavailable (pick ∷ picks) none) refl

pub offer-picks : (picks : List Pick) → 0 < length (available picks) → offer_of_picks picks ≡ Picks (available picks)
offer-picks [] some' = absurd (omega arith)
offer-picks (pick ∷ picks) some' = rw (some-available (pick ∷ picks) some') refl

-- one more of the data: not of an SRV record, or of one
services-none : (set : List Data) (i : ℕ) (value : Data) → i < length set → value ≡ get_or set i value → pick_of value ≡ None → filter_map pick_of (take (i + 1) set) ≡ filter_map pick_of (take i set)
services-none set i value within is none =
    ap (filter_map pick_of) (take_more set i value within)
    ∙ filter_map-append pick_of (take i set) (get_or set i value ∷ [])
    ∙ ap (λ v. filter_map pick_of (take i set) ++ cons_option (pick_of v) []) (sym is)
    ∙ ap (λ o. filter_map pick_of (take i set) ++ cons_option o []) none
    ∙ append-nil (filter_map pick_of (take i set))

services-some : (set : List Data) (i : ℕ) (value : Data) (pick : Pick) → i < length set → value ≡ get_or set i value → pick_of value ≡ Some pick → filter_map pick_of (take (i + 1) set) ≡ filter_map pick_of (take i set) ++ pick ∷ []
services-some set i value pick within is some' =
    ap (filter_map pick_of) (take_more set i value within)
    ∙ filter_map-append pick_of (take i set) (get_or set i value ∷ [])
    ∙ ap (λ v. filter_map pick_of (take i set) ++ cons_option (pick_of v) []) (sym is)
    ∙ ap (λ o. filter_map pick_of (take i set) ++ cons_option o []) some'

-- what the loop knows of the first of the data: whether there are SRV data, and the picks
abbrev pub IsOffered : Bool → List Pick → List Data → Type 0
IsOffered has_service picks set =
    (has_service ≡ ltb 0 (length (filter_map pick_of set))) × (picks ≡ available (filter_map pick_of set))

pub IsOffered-none : (set : List Data) (i : ℕ) (value : Data) (has : Bool) (picks : List Pick) → i < length set → value ≡ get_or set i value → pick_of value ≡ None
    → IsOffered has picks (take i set) → IsOffered has picks (take (i + 1) set)
IsOffered-none set i value has picks within is none before = rw (services-none set i value within is none) before

pub IsOffered-root : (set : List Data) (i : ℕ) (value : Data) (pick : Pick) (has : Bool) (picks : List Pick) → i < length set → value ≡ get_or set i value → pick_of value ≡ Some pick → is_unavailable pick ≡ true
    → IsOffered has picks (take i set) → IsOffered true picks (take (i + 1) set)
IsOffered-root set i value pick has picks within is some' root before =
    let all = filter_map pick_of (take i set) in
    rw (services-some set i value pick within is some') (
      sym (lt-ltb 0 (length (all ++ pick ∷ [])) (omega (arith, length_push all pick))),
      before.1 ∙ sym (filter-append (λ p. not (is_unavailable p)) all (pick ∷ []) ∙ ap (λ b. available all ++ cond (not b) (pick ∷ []) []) root ∙ append-nil (available all)),
    )

pub IsOffered-pick : (set : List Data) (i : ℕ) (value : Data) (pick : Pick) (has : Bool) (picks : List Pick) → i < length set → value ≡ get_or set i value → pick_of value ≡ Some pick → is_unavailable pick ≡ false
    → IsOffered has picks (take i set) → IsOffered true (picks ++ pick ∷ []) (take (i + 1) set)
IsOffered-pick set i value pick has picks within is some' open' before =
    let all = filter_map pick_of (take i set) in
    rw (services-some set i value pick within is some') (
      sym (lt-ltb 0 (length (all ++ pick ∷ [])) (omega (arith, length_push all pick))),
      ap (λ ps. ps ++ pick ∷ []) before.1 ∙ sym (filter-append (λ p. not (is_unavailable p)) all (pick ∷ []) ∙ ap (λ b. available all ++ cond (not b) (pick ∷ []) []) open'),
    )

pub offer-nothing : (picks : List Pick) → length picks ≤ 0 → offer_of_picks picks ≡ Nothing
offer-nothing [] none = refl
offer-nothing (pick ∷ picks) none = absurd (omega arith)

-- data of another type have no pick
pub pick_of-other : (value : Data) → ((priority weight port : ℕ) → (target : Labels) → value ≡ Service priority weight port target → ⊥) → pick_of value ≡ None
pick_of-other (Service priority weight port target) other = absurd (other priority weight port target refl)
pick_of-other _ other = refl

-- a pick that is available is among those of the set
available-more : (found : Option Pick) (picks : List Pick) → 0 < length (available picks) → 0 < length (available (cons_option found picks))
available-more None picks some' = some'
available-more (Some pick) picks some' = elim (cases_Bool (is_unavailable pick)) [
  | inl closed ↦ rw closed some'
  | inr open' ↦ rw open' (omega arith)
]

available-there : (set : List Data) (i : ℕ) (value : Data) (pick : Pick) → i < length set → value ≡ get_or set i value → pick_of value ≡ Some pick → is_unavailable pick ≡ false → 0 < length (available (filter_map pick_of set))
available-there [] i value pick within is some' open' = absurd (omega arith)
available-there (first ∷ set) zero value pick within is some' open' =
    let of_first : pick_of first ≡ Some pick = ap pick_of (sym is) ∙ some' in
    rw (of_first, open') (omega arith)
available-there (first ∷ set) (suc i) value pick within is some' open' =
    available-more (pick_of first) (filter_map pick_of set) (available-there set i value pick (omega arith) is some' open')

-- whether the target is the root
pub unavailable-root : (pick : Pick) → pick.target ≡ [] → is_unavailable pick ≡ true
unavailable-root pick root = rw root refl

pub unavailable-other : (pick : Pick) → (pick.target ≡ [] → ⊥) → is_unavailable pick ≡ false
unavailable-other pick other = from pick.target other
  where
    from : (target : Labels) → (target ≡ [] → ⊥) → is_unavailable (record pick { target = target }) ≡ false
    from [] other = absurd (other refl)
    from (label ∷ labels) other = refl

-- where there is a target other than the root, the set offers picks
pub offer-open : (set : List Data) (i : ℕ) (value : Data) (priority weight port : ℕ) (target : Labels) → i < length set → value ≡ get_or set i value → value ≡ Service priority weight port target → (target ≡ [] → ⊥) → (offer_of set ≢ Nothing) × (offer_of set ≢ Closed)
offer-open set i value priority weight port target within is of_service other =
    let pick : Pick = record { priority = priority; weight = weight; port = port; target = target } in
    let picks = offer-picks (filter_map pick_of set) (available-there set i value pick within is (ap pick_of of_service) (unavailable-other pick other)) in
    (λ nothing. cc (picks, nothing), λ closed. cc (picks, closed))

pub nil-from_length : (picks : List Pick) → length picks ≡ 0 → picks ≡ []
nil-from_length [] none = refl
nil-from_length (pick ∷ picks) none = absurd (omega arith)
