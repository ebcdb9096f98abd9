-- The entries of a book with the index of the current ones.
use Rattle.std.specs.Prelude.{◌≡◌, ℕ, ◌+◌, Bool, true, false, not, ◌&&◌, ◌==◌, if◌then◌else◌, List, [], ◌∷◌, map, Option, Some, None}
use Rattle.std.specs.List.{count_by}
use Rattle.sipl_records.specs.declared.record.Key.{Key}
use Rattle.sipl_evidence.specs.Items.{Item}
use Rattle.sipl_evidence.specs.Dependents.{Dependent, depends, has_code}
use Rattle.sipl_book.specs.Entries.{EntryState, after_change, depends_on}
use Rattle.sipl_book.specs.Repairs.{entry_with}

-- the entries, and for how many more pairs there is space in the index
pub record IndexedState : Type 0 where
  pub entries : List EntryState
  pub room : ℕ

-- whether the entry with an id passes a test
abbrev pub has : (EntryState → Bool) → List EntryState → ℕ → Bool
has test entries id = elim (entry_with entries id) [ Some e ↦ test e | None ↦ false ]

-- whether an entry's id passes a test, and a key of the code is in its evidence
abbrev pub linked_code : (ℕ → Bool) → ℕ → EntryState → Bool
linked_code linked code e = linked e.id && has_code e.found.items code

-- an entry has the keys of these items in its evidence, in the same order
abbrev pub HasKeysOf : List Item → EntryState → Type 0
HasKeysOf items e = map (λ i. i.key) e.found.items ≡ map (λ i. i.key) items

-- whether an entry is current and has the key in its evidence
abbrev pub needs : Key → EntryState → Bool
needs key e = e.is_current && depends_on (key ∷ []) e

-- an entry after the key's set changed, if it has the id
abbrev pub touched : ℕ → Key → EntryState → EntryState
touched id key e = if e.id == id then after_change (key ∷ []) e else e

-- whether an id is that of the outdated entry that keeps its pairs in the index
abbrev pub is_kept : Option ℕ → ℕ → Bool
is_kept kept id = elim kept [ Some own ↦ own == id | None ↦ false ]

-- the pairs are those of some entries: of all current ones, and of the outdated one that keeps them
pub record IsIndexOf (entries : List EntryState) (kept : Option ℕ) (pairs : List Dependent) : Type 0 where
  pub linked : ℕ → Bool
  pub same : (code id : ℕ) → depends pairs code id ≡ has (linked_code linked code) entries id
  pub current : (id : ℕ) → has (λ e. e.is_current) entries id ≡ true → linked id ≡ true
  pub outdated : (id : ℕ) → kept ≡ Some id
      → (linked id ≡ true) × (has (λ e. not e.is_current) entries id ≡ true)

-- how many current entries have an id that passes a test
abbrev pub current_count : (ℕ → Bool) → List EntryState → ℕ
current_count test entries = count_by (λ e. test e.id && e.is_current) entries

-- the ids of the entries that became outdated were added, each once
pub record AreAdded (before after : List EntryState) (old new : List ℕ) : Type 0 where
  pub each : (test : ℕ → Bool) → count_by test new + current_count test after
      ≡ count_by test old + current_count test before
