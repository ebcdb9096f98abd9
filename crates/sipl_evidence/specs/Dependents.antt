-- Which entries depend on which record sets: the pairs of a key's code and an entry's id.
use Rattle.std.specs.Prelude.{◌≡◌, ℕ, Bool, ◌&&◌, ◌==◌, nat_eq, List, filter, map, fold}
use Rattle.std.specs.List.{list_any, IsDistinct}
use Rattle.std.specs.Hash.FoldHasher as folding
use Rattle.sipl_records.specs.declared.record.Key.{Key}
use Rattle.sipl_records.specs.contracts.record.KeyHash.TheImpl.{hash_input-value}
use Rattle.sipl_evidence.specs.Items.{Item}

-- a key's code: a hash of its owner's octets and its kind, below 2^64
abbrev pub code_of_key : Key → ℕ
code_of_key key = folding.finish (fold folding.write folding.initial (hash_input-value.it key))

-- an entry's id, and the code of a key in its evidence
pub record Dependent : Type 0 where
  pub code : ℕ
  pub id : ℕ

-- the pairs, and for how many more there is space
pub record DependentsState : Type 0 where
  pub pairs : List Dependent
  pub room : ℕ

-- whether the pair is there: the entry depends on a set of a key with the code
abbrev pub depends : List Dependent → ℕ → ℕ → Bool
depends pairs code id = list_any (λ p. p.code == code && p.id == id) pairs

-- whether an item's key has the code
abbrev pub has_code : List Item → ℕ → Bool
has_code items code = list_any (λ item. code_of_key item.key == code) items

-- the ids of the pairs of a code
abbrev pub ids_of : List Dependent → ℕ → List ℕ
ids_of pairs code = map (λ p. p.id) (filter (λ p. p.code == code) pairs)

-- these are the ids of the entries that depend on a set of a key with the code, each once
pub record AreIdsOf (pairs : List Dependent) (code : ℕ) (ids : List ℕ) : Type 0 where
  pub distinct : IsDistinct nat_eq ids
  pub members : (id : ℕ) → list_any (nat_eq id) ids ≡ depends pairs code id
