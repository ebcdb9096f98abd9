-- Tables of names after one count was written.
use Rattle.std.proofs.Common.{◌≡◌, ℕ, ◌+◌, ◌-◌, Bool, true, false, ◌||◌, List, [], ◌∷◌, ◌++◌, cond, Option, None, Some, is_some, if◌then◌else◌, refl, ap, sym, ◌∙◌, arith, append-nil, append_assoc}
use Rattle.std.specs.List.{AllByRecursion, IsDistinct, list_any}
use Rattle.std.specs.Map.{keys_of, lookup}
use Rattle.std.specs.Option.{unwrap_or}
use Rattle.std.proofs.lemmas.Map.Made.{is_some-lookup}
use Rattle.indexmap.specs.IndexSet.{insert_all, insert_key}
use Rattle.sipl_names.specs.Labels.{Labels, same_name}
use Rattle.sipl_names.proofs.Public.{same_name_decides}
use Rattle.sipl_records.specs.Unique.{unique}
use Rattle.sipl_records.proofs.Public.{equivalence_from_decides, same_name-sym, transitive_from_equivalence, unique-append}
use Rattle.sipl_zonestore.specs.NameTable.{NameTable, count_at}

-- a table has this count at a name, and at each other name that of another table
abbrev pub IsWritten : NameTable → NameTable → Labels → Option ℕ → Type 0
IsWritten old new name count =
    (other : Labels) → lookup (same_name other) new ≡ cond (same_name name other) count (lookup (same_name other) old)

at-same : (old : NameTable) (name other : Labels) (count : Option ℕ) → same_name name other ≡ true → count ≡ lookup (same_name name) old → count_at old other ≡ unwrap_or count 0
at-same old name other count same found = ap (λ n. count_at old n) (sym ((same_name_decides name other).0 same)) ∙ ap (λ c. unwrap_or c 0) (sym found)

-- what is counted at a name changes, and at no other
pub written-count : (old new : NameTable) (name : Labels) (before after : Option ℕ) (f : ℕ → ℕ) → IsWritten old new name after → before ≡ lookup (same_name name) old → unwrap_or after 0 ≡ f (unwrap_or before 0) → (other : Labels) → count_at new other ≡ (if same_name name other then f (count_at old other) else count_at old other)
written-count old new name before after f written found changes other =
    ap (λ c. unwrap_or c 0) (written other) ∙ by_case (same_name name other) refl where
      by_case : (b : Bool) → same_name name other ≡ b → unwrap_or (cond b after (lookup (same_name other) old)) 0 ≡ (if b then f (count_at old other) else count_at old other)
      by_case true same = changes ∙ ap f (sym (at-same old name other before same found))
      by_case false apart = refl

plus : (b : Bool) (n count : ℕ) → (if b then n + count else n) ≡ n + (if b then count else 0)
plus true n count = refl
plus false n count = omega arith

minus : (b : Bool) (n count : ℕ) → (if b then n - count else n) ≡ n - (if b then count else 0)
minus true n count = refl
minus false n count = omega arith

pub counted-more : (old new : NameTable) (name : Labels) (before after : Option ℕ) (count : ℕ) → IsWritten old new name after → before ≡ lookup (same_name name) old → unwrap_or after 0 ≡ unwrap_or before 0 + count → (other : Labels) → count_at new other ≡ count_at old other + (if same_name name other then count else 0)
counted-more old new name before after count written found changes other =
    written-count old new name before after (λ n. n + count) written found changes other ∙ plus (same_name name other) (count_at old other) count

pub counted-less : (old new : NameTable) (name : Labels) (before after : Option ℕ) (count : ℕ) → IsWritten old new name after → before ≡ lookup (same_name name) old → unwrap_or after 0 ≡ unwrap_or before 0 - count → (other : Labels) → count_at new other ≡ count_at old other - (if same_name name other then count else 0)
counted-less old new name before after count written found changes other =
    written-count old new name before after (λ n. n - count) written found changes other ∙ minus (same_name name other) (count_at old other) count

-- a name that has no count has none less
pub counted-none : (old : NameTable) (name : Labels) (count : ℕ) → None ≡ lookup (same_name name) old → (other : Labels) → count_at old other ≡ count_at old other - (if same_name name other then count else 0)
counted-none old name count none other = by_case (same_name name other) refl where
  by_case : (b : Bool) → same_name name other ≡ b → count_at old other ≡ count_at old other - (if b then count else 0)
  by_case true same = omega (arith, at-same old name other None same none)
  by_case false apart = omega arith

-- a count that is written and then removed
pub written-gone : (old between new : NameTable) (name : Labels) (count : Option ℕ) → IsWritten old between name count → IsWritten between new name None → IsWritten old new name None
written-gone old between new name count first second other =
    second other ∙ by_case (same_name name other) (first other) where
      by_case : (b : Bool) → lookup (same_name other) between ≡ cond b count (lookup (same_name other) old) → cond b None (lookup (same_name other) between) ≡ cond b None (lookup (same_name other) old)
      by_case true is = refl
      by_case false is = is

-- ---- the names of a table, in the order of their first places

-- a name that is there stays where it is
pub keys-present : (old : NameTable) (name : Labels) (count : ℕ) (keys : List Labels) → keys ≡ keys_of old → Some count ≡ lookup (same_name name) old → keys ≡ insert_key same_name (keys_of old) name
keys-present old name count keys same found =
    let there : list_any (same_name name) (keys_of old) ≡ true = sym (is_some-lookup (same_name name) old) ∙ ap is_some (sym found) in
    same ∙ rw there refl

keys-push : (old : NameTable) (name : Labels) (count : ℕ) → keys_of (old ++ (name, count) ∷ []) ≡ keys_of old ++ name ∷ []
keys-push [] name count = refl
keys-push (e ∷ old) name count = ap (λ keys. e.0 ∷ keys) (keys-push old name count)

-- another one is last
pub keys-absent : (old new : NameTable) (name : Labels) (count : ℕ) → new ≡ old ++ (name, count) ∷ [] → None ≡ lookup (same_name name) old → keys_of new ≡ insert_key same_name (keys_of old) name
keys-absent old new name count is none =
    let absent : list_any (same_name name) (keys_of old) ≡ false = sym (is_some-lookup (same_name name) old) ∙ ap is_some (sym none) in
    ap keys_of is ∙ keys-push old name count ∙ rw absent refl

any-flipped : (name : Labels) (names : List Labels) → list_any (same_name name) names ≡ list_any (λ other. same_name other name) names
any-flipped name [] = refl
any-flipped name (first ∷ names) = λ i. same_name-sym name first i || any-flipped name names i

same_name-trans : (a b c : Labels) → same_name a b ≡ true → same_name b c ≡ true → same_name a c ≡ true
same_name-trans = transitive_from_equivalence same_name (equivalence_from_decides same_name same_name_decides)

insert-unique : (names : List Labels) (name : Labels) → insert_key same_name (unique same_name names) name ≡ unique same_name (names ++ name ∷ [])
insert-unique names name =
    (λ i. if any-flipped name (unique same_name names) i then unique same_name names else unique same_name names ++ name ∷ []) ∙ sym (unique-append same_name same_name-trans names name)

-- names that are inserted one by one are those of both lists, each once
pub insert_all-unique : (names more : List Labels) → insert_all same_name (unique same_name names) more ≡ unique same_name (names ++ more)
insert_all-unique names [] = ap (unique same_name) (sym (append-nil names))
insert_all-unique names (name ∷ more) =
    ap (λ keys. insert_all same_name keys more) (insert-unique names name) ∙ insert_all-unique (names ++ name ∷ []) more ∙ ap (unique same_name) (append_assoc names (name ∷ []) more)

none-apart : (name : Labels) (names : List Labels) → AllByRecursion (λ other. same_name name other ≡ false) names → list_any (same_name name) names ≡ false
none-apart name [] all = refl
none-apart name (first ∷ names) all = rw all.0 (none-apart name names all.1)

no-value : (found : Option ℕ) → is_some found ≡ false → found ≡ None
no-value None none = refl
no-value (Some count) none = cc

pub distinct-rest : (name : Labels) (names : List Labels) → IsDistinct same_name (name ∷ names) → IsDistinct same_name names
unfolding IsDistinct
distinct-rest name names distinct = distinct.1

-- the count of the first name, and those of the others
pub count-first : (name : Labels) (count : ℕ) (others : NameTable) → IsDistinct same_name (name ∷ keys_of others) → (other : Labels) → count_at ((name, count) ∷ others) other ≡ (if same_name name other then count else 0) + count_at others other
unfolding IsDistinct
count-first name count others distinct other =
    ap (λ b. unwrap_or (cond b (Some count) (lookup (same_name other) others)) 0) (same_name-sym other name) ∙ by_case (same_name name other) refl where
      by_case : (b : Bool) → same_name name other ≡ b → unwrap_or (cond b (Some count) (lookup (same_name other) others)) 0 ≡ (if b then count else 0) + count_at others other
      by_case true same =
          let none : list_any (same_name other) (keys_of others) ≡ false = ap (λ n. list_any (same_name n) (keys_of others)) (sym ((same_name_decides name other).0 same)) ∙ none-apart name (keys_of others) distinct.0 in
          let absent : lookup (same_name other) others ≡ None = no-value (lookup (same_name other) others) (is_some-lookup (same_name other) others ∙ none) in
          let zero_count : count_at others other ≡ 0 = ap (λ c. unwrap_or c 0) absent in
          omega (arith, zero_count)
      by_case false apart = omega arith
