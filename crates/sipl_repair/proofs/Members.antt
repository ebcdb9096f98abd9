-- The set of a list of numbers: its members, its size, and the set after a change of the list.
use Rattle.std.proofs.Common.{◌≡◌, ℕ, ◌+◌, ◌-◌, Bool, true, false, cond, not, ◌&&◌, ◌||◌, eqb, List, [], ◌∷◌, ◌++◌, ◌<◌, ◌≤◌, ltb, take, length, refl, sym, ap, ◌∙◌, arith, add-one, true≢false}
use Rattle.std.specs.List.{list_any, AllByRecursion, IsDistinct, filter}
use Rattle.std.specs.List.Sorted.{IsPermutation}
use Rattle.std.specs.Ordering.{nat_cmp}
use Rattle.std.specs.Cmp.{nat_cmp_total, unsigned_tied, nat_eq_equiv}
use Rattle.std.specs.FinSet as set
use Rattle.std.specs.FinSet.{nat_cmp-IsAntisymmetric}
use Rattle.std.proofs.lemmas.Bool.{cond-false, cond-true, cond_both, or_from, ltb-true}
use Rattle.std.proofs.lemmas.List.{length-take-le}
use Rattle.indexmap.proofs.MapLemmas.{distinct-take}
use Rattle.std.proofs.lemmas.List.Sorted.{list_any-IsPermutation}
use Rattle.std.proofs.lemmas.Map.Keys.{IsDistinct-head, IsDistinct-tail, IsDistinct-IsPermutation}
use Rattle.std.proofs.lemmas.Map.Views.{any-filter_same, exact_unsigned_eq}
use Rattle.sipl_repair.specs.Ids.{Ids}

abbrev pub NatSet : Type 0
NatSet = set.FinSet nat_cmp

-- a number is a member of a list's set exactly if it is in the list
pub contains-from_list : (ks : List ℕ) (q : ℕ) → set.contains (set.from_list {R = nat_cmp} ks) q ≡ list_any (eqb q) ks
contains-from_list [] q = set.contains-empty nat_cmp q
contains-from_list (k ∷ ks) q =
    set.contains-insert nat_cmp_total _ k q ∙ (λ i. unsigned_tied q k i || contains-from_list ks q i)

pub contains-insert : (s : NatSet) (k q : ℕ) → set.contains (set.insert s k) q ≡ (eqb q k || set.contains s q)
contains-insert s k q = set.contains-insert nat_cmp_total s k q ∙ ap (λ b. b || set.contains s q) (unsigned_tied q k)

pub contains-remove : (s : NatSet) (k q : ℕ) → set.contains (set.remove s k) q ≡ (not (eqb q k) && set.contains s q)
contains-remove s k q = set.contains-remove nat_cmp_total s k q ∙ ap (λ b. not b && set.contains s q) (unsigned_tied q k)

-- sets with the same members are equal
pub same_members : (s t : NatSet) → ((q : ℕ) → set.contains s q ≡ set.contains t q) → s ≡ t
same_members s t same = set.same_set nat_cmp_total nat_cmp-IsAntisymmetric s t same

-- a list in another order has the same set
pub from_list-IsPermutation : (xs ys : List ℕ) → IsPermutation xs ys → set.from_list {R = nat_cmp} xs ≡ set.from_list ys
from_list-IsPermutation xs ys moved =
    same_members _ _ (λ q. contains-from_list xs q ∙ list_any-IsPermutation (eqb q) xs ys moved ∙ sym (contains-from_list ys q))

-- a new member that is removed again leaves the set
pub remove-insert : (s : NatSet) (x : ℕ) → set.contains s x ≡ false → set.remove (set.insert s x) x ≡ s
remove-insert s x none = same_members _ _ (λ q. contains-remove _ x q ∙ ap (λ b. not (eqb q x) && b) (contains-insert s x q) ∙ back q)
  where
    back : (q : ℕ) → (not (eqb q x) && (eqb q x || set.contains s q)) ≡ set.contains s q
    back q =
        elim (eqb q x) as (λ b. eqb q x ≡ b → (not b && (b || set.contains s q)) ≡ set.contains s q) [
          | true ↦ λ e. sym none ∙ ap (set.contains s) (sym (exact_unsigned_eq q x e))
          | false ↦ λ _. refl
        ] refl

-- the first of distinct numbers is not among the others
pub head_is_new : (k : ℕ) (ks : List ℕ) → IsDistinct eqb (k ∷ ks) → list_any (eqb k) ks ≡ false
head_is_new k ks apart = none ks (IsDistinct-head eqb k ks apart)
  where
    none : (xs : List ℕ) → AllByRecursion (λ y. eqb k y ≡ false) xs → list_any (eqb k) xs ≡ false
    none [] _ = refl
    none (x ∷ xs) h = or_from _ _ h.0 (none xs h.1)

-- a set is as large as a list of its members, none twice
pub len-from_list : (ks : List ℕ) → IsDistinct eqb ks → set.len (set.from_list {R = nat_cmp} ks) ≡ length ks
len-from_list [] apart = set.len-empty nat_cmp
len-from_list (k ∷ ks) apart =
    let absent : set.contains (set.from_list {R = nat_cmp} ks) k ≡ false = contains-from_list ks k ∙ head_is_new k ks apart in
    set.len-insert nat_cmp_total _ k
    ∙ cond-false _ _ _ absent
    ∙ ap (λ n. n + 1) (len-from_list ks (IsDistinct-tail eqb k ks apart)) ∙ add-one _

-- what is filtered out of a list is removed from its set
pub from_list-without : (xs : List ℕ) (x : ℕ) → set.from_list {R = nat_cmp} (filter (λ y. not (eqb y x)) xs) ≡ set.remove (set.from_list xs) x
from_list-without xs x = same_members _ _ (λ q.
    contains-from_list _ q
    ∙ any-filter_same (eqb q) (λ y. not (eqb y x)) (not (eqb q x)) (λ k e. ap (λ y. not (eqb y x)) (sym (exact_unsigned_eq q k e))) xs
    ∙ sym (contains-remove _ x q ∙ ap (λ b. not (eqb q x) && b) (contains-from_list xs q)))

-- to insert a member, or to remove what is not one, changes nothing
pub insert_present : (s : NatSet) (x : ℕ) → set.contains s x ≡ true → set.insert s x ≡ s
insert_present s x there = same_members _ _ (λ q. contains-insert s x q ∙ same q)
  where
    same : (q : ℕ) → (eqb q x || set.contains s q) ≡ set.contains s q
    same q =
        elim (eqb q x) as (λ b. eqb q x ≡ b → (b || set.contains s q) ≡ set.contains s q) [
          | true ↦ λ e. sym there ∙ ap (set.contains s) (sym (exact_unsigned_eq q x e))
          | false ↦ λ _. refl
        ] refl

pub remove_absent : (s : NatSet) (x : ℕ) → set.contains s x ≡ false → set.remove s x ≡ s
remove_absent s x none = same_members _ _ (λ q. contains-remove s x q ∙ same q)
  where
    same : (q : ℕ) → (not (eqb q x) && set.contains s q) ≡ set.contains s q
    same q =
        elim (eqb q x) as (λ b. eqb q x ≡ b → (not b && set.contains s q) ≡ set.contains s q) [
          | true ↦ λ e. sym none ∙ ap (set.contains s) (sym (exact_unsigned_eq q x e))
          | false ↦ λ _. refl
        ] refl

-- a number pushed on a list is inserted in its set
pub from_list-push : (ks : List ℕ) (k : ℕ) → set.from_list {R = nat_cmp} (ks ++ k ∷ []) ≡ set.insert (set.from_list ks) k
from_list-push ks k = set.from_list_push nat_cmp_total nat_cmp-IsAntisymmetric ks k

-- the set of a list without one of its numbers, given the list in an order that has the number first
pub remove-from_list : (xs ys : List ℕ) (x : ℕ) → IsPermutation xs (x ∷ ys) → IsDistinct eqb xs → set.from_list {R = nat_cmp} ys ≡ set.remove (set.from_list xs) x
remove-from_list xs ys x moved apart =
    let still_apart = IsDistinct-IsPermutation eqb nat_eq_equiv.symm xs (x ∷ ys) moved apart in
    sym (remove-insert _ x (contains-from_list ys x ∙ head_is_new x ys still_apart))
    ∙ ap (λ s. set.remove s x) (sym (from_list-IsPermutation xs (x ∷ ys) moved))

-- the members of a set of ids made from a list
pub contains-ids : (s : Ids) (ks : List ℕ) (capacity q : ℕ) → record { members = set.from_list ks; capacity = capacity } ≡ s → set.contains s.members q ≡ list_any (eqb q) ks
contains-ids s ks capacity q made = ap (λ t. set.contains t.members q) (sym made) ∙ contains-from_list ks q

pub len-ids : (s : Ids) (ks : List ℕ) (capacity : ℕ) → record { members = set.from_list ks; capacity = capacity } ≡ s → IsDistinct eqb ks → set.len s.members ≡ length ks
len-ids s ks capacity made apart = ap (λ t. set.len t.members) (sym made) ∙ len-from_list ks apart

-- the second of two tests passes where the first fails and one passes
pub passes_second : (a b : Bool) → a ≡ false → (a || b) ≡ true → b ≡ true
passes_second true b e h = absurd (true≢false e)
passes_second false b e h = h

-- where an id that is not a member may be inserted, the members are below the capacity
pub is_below_capacity : (s : Ids) (ks : List ℕ) (k capacity q : ℕ) → record { members = set.from_list (take k ks); capacity = capacity } ≡ s → IsDistinct eqb ks → k ≤ length ks
    → list_any (eqb q) (take k ks) ≡ false → (set.contains s.members q || ltb (set.len s.members) s.capacity) ≡ true → k < capacity
is_below_capacity s ks k capacity q made apart within absent may =
    let less = ltb-true _ _ (passes_second _ _ (contains-ids s (take k ks) capacity q made ∙ absent) may) in
    let size = len-ids s (take k ks) capacity made (distinct-take nat_eq_equiv k ks apart) in
    let same_capacity = ap (λ t. t.capacity) made in
    omega (arith, length-take-le k ks within)

-- the size after an insert and after a removal
pub len-insert_le : (s : NatSet) (k : ℕ) → set.len (set.insert s k) ≤ set.len s + 1
len-insert_le s k =
    let le : cond (set.contains s k) (set.len s) (set.len s + 1) ≤ set.len s + 1 = cond_both (set.contains s k) (set.len s) (set.len s + 1) (λ n. n ≤ set.len s + 1) (λ _. omega arith) (λ _. omega arith) in
    omega (arith, set.len-insert nat_cmp_total s k)

pub len-remove_le : (s : NatSet) (k : ℕ) → set.len (set.remove s k) ≤ set.len s
len-remove_le s k =
    let le : cond (set.contains s k) (set.len s - 1) (set.len s) ≤ set.len s = cond_both (set.contains s k) (set.len s - 1) (set.len s) (λ n. n ≤ set.len s) (λ _. omega arith) (λ _. omega arith) in
    omega (arith, set.len-remove nat_cmp_total s k)

pub len-remove_lt : (s : NatSet) (k : ℕ) → set.contains s k ≡ true → set.len (set.remove s k) < set.len s
len-remove_lt s k there =
    let some : set.len s ≡ 0 → ⊥ = λ none. true≢false (sym there ∙ ap (λ t. set.contains t k) (set.empty_of_len s none) ∙ set.contains-empty nat_cmp k) in
    omega (arith, some, set.len-remove nat_cmp_total s k ∙ cond-true _ _ _ there)
