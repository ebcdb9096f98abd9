-- The keys of latest versions: what stays at other keys, and look-ups among latest versions that are left.
use Rattle.std.proofs.Common.{rules, ◌≡◌, ◌∙◌, ℕ, Bool, true, false, List, [], ◌∷◌, filter, nat_eq, Option, None, Some, refl, ap, sym, subst}
use Rattle.std.specs.List.{IsDistinct}
use Rattle.std.specs.Map.{keys_of, lookup}
use Rattle.std.proofs.lemmas.Map.Entries.{lookup-filter-values, option_filter}
use Rattle.indexmap.specs.IndexMap.{IndexMap, get}
use Rattle.sipl_records.specs.Sets.{same_key}
use Rattle.sipl_records.specs.declared.record.Key.{Key}
use Rattle.sipl_records.specs.contracts.record.KeyPartialEq.TheImpl.{eq-value}
use Rattle.sipl_records.proofs.Public.{equivalence_from_decides, same_key-Decides}
use Rattle.sipl_zonestore.specs.Store.{Store, number_in}
use Rattle.sipl_service.specs.LatestVersions.{latest_at}
use Rattle.sipl_service.specs.declared.latest_versions.Latest.{Latest}

-- the derived equality of keys is that of the definitions
pub derived : (a b : Key) → eq-value.it a b ≡ same_key a b
derived a b = search rules

-- what stays at other keys by the derived equality stays by that of the definitions
pub others : {V S : Type 0} (old new : IndexMap Key V S) (key : Key)
    → ((other : Key) → eq-value.it key other ≡ false → get eq-value.it new other ≡ get eq-value.it old other)
    → (other : Key) → same_key key other ≡ false → get same_key new other ≡ get same_key old other
others old new key stay other apart =
    subst (λ (same : Key → Key → Bool). get same new other ≡ get same old other) (λ i a b. derived a b i)
    (stay other (derived key other ∙ apart))

-- what is there at an equal key, by the derived equality, is there by that of the definitions
pub kept : {V S : Type 0} (new : IndexMap Key V S) (key own : Key) (value : V) → own ≡ key → get eq-value.it new own ≡ Some value → get same_key new key ≡ Some value
kept new key own value same at =
    subst (λ (eq : Key → Key → Bool). get eq new key ≡ Some value) (λ i a b. derived a b i) (subst (λ k. get eq-value.it new k ≡ Some value) same at)

-- a look-up for a key in entries by two tests that are one at entries of the key
agree : {X : Type 0} (test : Key → Bool) (p q : Key × X → Bool) → ((e : Key × X) → test e.0 ≡ true → p e ≡ q e) → (es : List (Key × X)) → lookup test (filter p es) ≡ lookup test (filter q es)
agree test p q same [] = refl
agree test p q same (e ∷ es) = by (test e.0) (p e) (q e) refl refl refl (agree test p q same es)
  where
    by : (here left right : Bool) → test e.0 ≡ here → p e ≡ left → q e ≡ right → lookup test (filter p es) ≡ lookup test (filter q es) → lookup test (filter p (e ∷ es)) ≡ lookup test (filter q (e ∷ es))
    by true true true here left right rest = rw (left, right, here) refl
    by true true false here left right rest = let never : true ≡ false = sym left ∙ same e here ∙ right in cc
    by true false true here left right rest = let never : false ≡ true = sym left ∙ same e here ∙ right in cc
    by true false false here left right rest = rw (left, right) rest
    by false true true here left right rest = rw (left, right, here) rest
    by false true false here left right rest = rw (left, right, here) rest
    by false false true here left right rest = rw (left, right, here) rest
    by false false false here left right rest = rw (left, right) rest

filtered : (number : ℕ) (found : Option Latest) → option_filter (λ latest. nat_eq latest.number number) found ≡ latest_at number found
filtered number None = refl
filtered number (Some latest) = refl

-- the latest versions that have the numbers of their sets
pub numbered : (store : Store) (key : Key) (es : List (Key × Latest)) → IsDistinct same_key (keys_of es)
    → lookup (same_key key) (filter (λ e. nat_eq e.1.number (number_in store e.0)) es) ≡ latest_at (number_in store key) (lookup (same_key key) es)
numbered store key es distinct =
    agree (same_key key) (λ e. nat_eq e.1.number (number_in store e.0)) (λ e. nat_eq e.1.number (number_in store key))
    (λ e same. ap (λ k. nat_eq e.1.number (number_in store k)) (sym ((same_key-Decides key e.0).0 same))) es
    ∙ lookup-filter-values (equivalence_from_decides same_key same_key-Decides) (λ latest. nat_eq latest.number (number_in store key)) key es distinct
    ∙ filtered (number_in store key) (lookup (same_key key) es)

-- latest versions of which that of one key is taken out where its number is no longer the set's, and all
-- others have theirs
pub everywhere : (now old : Key → Option Latest) (store : Store) (key : Key) → now key ≡ latest_at (number_in store key) (old key)
    → ((other : Key) → same_key key other ≡ false → now other ≡ old other)
    → ((other : Key) → same_key key other ≡ false → latest_at (number_in store other) (old other) ≡ old other)
    → (other : Key) → now other ≡ latest_at (number_in store other) (old other)
everywhere now old store key own stay good other = by (same_key key other) refl
  where
    by : (b : Bool) → same_key key other ≡ b → now other ≡ latest_at (number_in store other) (old other)
    by true same = subst (λ k. now k ≡ latest_at (number_in store k) (old k)) ((same_key-Decides key other).0 same) own
    by false apart = stay other apart ∙ sym (good other apart)
