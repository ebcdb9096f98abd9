-- How far a computation gets with the sets that are known.
use Rattle.std.proofs.Common.{◌≡◌, ℕ, suc, ◌+◌, ◌<◌, true, false, List, Option, None, Some, IsSome, refl, sym, ap, ◌∙◌, arith}
use Rattle.sipl_records.specs.declared.data.Data.{Data}
use Rattle.sipl_records.specs.declared.record.Key.{Key}
use Rattle.sipl_evidence.specs.Items.{Item}
use Rattle.sipl_evidence.specs.Known.{known, first_unknown, advance, known_result}
use Rattle.sipl_evidence.specs.Looks.{Asking, done, ask, and_then, next_key}
use Rattle.sipl_evidence.proofs.Public.{first_unknown-next_key}

-- equal continuations make equal computations
pub and_then-alike : {A B : Type 0} (first : Asking A) (f g : A → Asking B) → ((x : A) → f x ≡ g x) → and_then first f ≡ and_then first g
and_then-alike first f g alike = λ i. and_then first (λ x. alike x i)

pub and_then-assoc : {A B C : Type 0} (first : Asking A) (f : A → Asking B) (g : B → Asking C) → and_then (and_then first f) g ≡ and_then first (λ x. and_then (f x) g)
and_then-assoc (done value) f g = refl
and_then-assoc (ask k more) f g = λ i. ask k (λ set. and_then-assoc (more set) f g i)

module _ {A B : Type 0} (items : List Item) (next : A → Asking B) where
  -- a computation goes on to where its first part gets
  pub advance-and_then : (first : Asking A) → advance items (and_then first next) ≡ advance items (and_then (advance items first) next)
  advance-and_then (done value) = refl
  advance-and_then (ask k more) = by (known items k) refl (λ set. advance-and_then (more set))
    where
      by : (o : Option (List Data)) → known items k ≡ o → ((set : List Data) → advance items (and_then (more set) next) ≡ advance items (and_then (advance items (more set)) next)) → (let left : Asking B = elim o [ Some set ↦ advance items (and_then (more set) next) | None ↦ ask k (λ set. and_then (more set) next) ] in left) ≡ advance items (and_then (elim o [ Some set ↦ advance items (more set) | None ↦ ask k more ]) next)
      by None is rest = sym (ap (λ o. let left : Asking B = elim o [ Some set ↦ advance items (and_then (more set) next) | None ↦ ask k (λ set. and_then (more set) next) ] in left) is)
      by (Some set) is rest = rest set

  -- where all sets of the first part are known, what follows is left
  pub advance-result : (first : Asking A) (value : A) → known_result items first ≡ Some value → advance items (and_then first next) ≡ advance items (next value)
  advance-result (done x) value is = let same : x ≡ value = cc in ap (λ x. advance items (next x)) same
  advance-result (ask k more) value is = by (known items k) (λ set. advance-result (more set) value) is
    where
      by : (o : Option (List Data)) → ((set : List Data) → known_result items (more set) ≡ Some value → advance items (and_then (more set) next) ≡ advance items (next value)) → ◌≡◌ {A = Option A} (elim o [ Some set ↦ known_result items (more set) | None ↦ None ]) (Some value) → (let left : Asking B = elim o [ Some set ↦ advance items (and_then (more set) next) | None ↦ ask k (λ set. and_then (more set) next) ] in left) ≡ advance items (next value)
      by None rest is = let never : None ≡ Some value = is in cc
      by (Some set) rest is = rest set is

  -- the first set that its first part lacks is the first that it lacks
  pub first_unknown-and_then : (first : Asking A) (key : Key) → first_unknown items first ≡ Some key → first_unknown items (and_then first next) ≡ Some key
  first_unknown-and_then (done x) key is = let never : None ≡ Some key = is in cc
  first_unknown-and_then (ask k more) key is = by (known items k) (λ set. first_unknown-and_then (more set) key) is
    where
      by : (o : Option (List Data)) → ((set : List Data) → first_unknown items (more set) ≡ Some key → first_unknown items (and_then (more set) next) ≡ Some key) → ◌≡◌ {A = Option Key} (elim o [ Some set ↦ first_unknown items (more set) | None ↦ Some k ]) (Some key) → ◌≡◌ {A = Option Key} (elim o [ Some set ↦ first_unknown items (and_then (more set) next) | None ↦ Some k ]) (Some key)
      by None rest is = is
      by (Some set) rest is = rest set is

-- a first part that went on makes the whole go on
pub advance-onward : {A B : Type 0} (items : List Item) (next : A → Asking B) (new old : Asking A) → advance items new ≡ advance items old → advance items (and_then new next) ≡ advance items (and_then old next)
advance-onward items next new old same =
    advance-and_then items next new ∙ ap (λ first. advance items (and_then first next)) same ∙ sym (advance-and_then items next old)

-- computations that get as far lack the same set first
pub first_unknown-alike : {A : Type 0} (items : List Item) (one other : Asking A) → advance items one ≡ advance items other → first_unknown items one ≡ first_unknown items other
first_unknown-alike items one other same =
    first_unknown-next_key items one ∙ ap next_key same ∙ sym (first_unknown-next_key items other)

-- where no set is lacking there is a result
pub result_or_unknown : {A : Type 0} (items : List Item) (asking : Asking A) → known_result items asking ≡ None → first_unknown items asking ≡ None → ⊥
result_or_unknown {A = A} items (done value) none known_all = let never : Some value ≡ None = none in cc
result_or_unknown {A = A} items (ask k next) none known_all = by (known items k) (λ set. result_or_unknown items (next set)) none known_all
  where
    by : (o : Option (List Data)) → ((set : List Data) → known_result items (next set) ≡ None → first_unknown items (next set) ≡ None → ⊥) → ◌≡◌ {A = Option A} (elim o [ Some set ↦ known_result items (next set) | None ↦ None ]) None → ◌≡◌ {A = Option Key} (elim o [ Some set ↦ first_unknown items (next set) | None ↦ Some k ]) None → ⊥
    by None rest none known_all = let never : Some k ≡ None = known_all in cc
    by (Some set) rest none known_all = rest set none known_all

-- how many of the sets that a computation asks for are known, up to the first that is not
abbrev pub known_count : {A : Type 0} → List Item → Asking A → ℕ
known_count items (done value) = 0
known_count items (ask k next) = elim (known items k) [ Some set ↦ suc (known_count items (next set)) | None ↦ 0 ]

pub known_count-result : {A B : Type 0} (items : List Item) (next : A → Asking B) (first : Asking A) (value : A) → known_result items first ≡ Some value → known_count items (and_then first next) ≡ known_count items first + known_count items (next value)
known_count-result items next (done x) value is =
    let same : x ≡ value = cc in
    ap (λ x. known_count items (next x)) same ∙ omega arith
known_count-result {A = A} items next (ask k more) value is = by (known items k) (λ set. known_count-result items next (more set) value) is
  where
    by : (o : Option (List Data)) → ((set : List Data) → known_result items (more set) ≡ Some value → known_count items (and_then (more set) next) ≡ known_count items (more set) + known_count items (next value)) → ◌≡◌ {A = Option A} (elim o [ Some set ↦ known_result items (more set) | None ↦ None ]) (Some value) → ◌≡◌ {A = ℕ} (elim o [ Some set ↦ suc (known_count items (and_then (more set) next)) | None ↦ 0 ]) ((let first : ℕ = elim o [ Some set ↦ suc (known_count items (more set)) | None ↦ 0 ] in first) + known_count items (next value))
    by None rest is = let never : None ≡ Some value = is in cc
    by (Some set) rest is = omega (arith, rest set is)

-- a computation that asks for a set, and has a result, asks for a known one
known_count-asks : {A : Type 0} (items : List Item) (k : Key) (next : List Data → Asking A) (value : A) → known_result items (ask k next) ≡ Some value → 0 < known_count items (ask k next)
known_count-asks {A = A} items k next value is = by (known items k) is
  where
    by : (o : Option (List Data)) → ◌≡◌ {A = Option A} (elim o [ Some set ↦ known_result items (next set) | None ↦ None ]) (Some value) → 0 < (let all : ℕ = elim o [ Some set ↦ suc (known_count items (next set)) | None ↦ 0 ] in all)
    by None is = let never : None ≡ Some value = is in cc
    by (Some set) is = omega arith

known_count-some : {A : Type 0} (items : List Item) (asking : Asking A) (value : A) → IsSome (next_key asking) → known_result items asking ≡ Some value → 0 < known_count items asking
known_count-some items (done x) value asks is = let never : false ≡ true = asks in cc
known_count-some items (ask k next) value asks is = known_count-asks items k next value is

-- after a walk, which asks for a set, fewer known sets are left
pub known_count-walk : {B : Type 0} (items : List Item) (walk : Asking (List Data)) (next : List Data → Asking B) (set : List Data) (left : Asking B) → IsSome (next_key walk) → known_result items walk ≡ Some set → left ≡ next set → known_count items left < known_count items (and_then walk next)
known_count-walk items walk next set left asks is same =
    let some = known_count-some items walk set asks is in
    let all = known_count-result items next walk set is in
    omega (arith, some, all, ap (known_count items) same)
