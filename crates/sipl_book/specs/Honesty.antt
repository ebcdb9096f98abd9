-- Sets as they were read, and what their numbers say of a store.
use Rattle.std.specs.Prelude.{◌≡◌, ◌⊎◌, ℕ, ◌<◌, true, false, List, [], ◌∷◌}
use Rattle.std.specs.List.{All}
use Rattle.sipl_records.specs.Sets.{is_existence, set_of}
use Rattle.sipl_records.specs.declared.data.Data.{Data}
use Rattle.sipl_records.specs.declared.data.Data.TheVariants.{Bare}
use Rattle.sipl_evidence.specs.Items.{Item, IsItem}
use Rattle.sipl_evidence.specs.Known.{Agrees}
use Rattle.sipl_zonestore.specs.Store.{Store, number_in}

-- an item whose number is the store's for its key has the store's data
abbrev pub IsHonest : Store → List Item → Type 0
IsHonest store items =
    All (λ item. number_in store item.key ≡ item.number
    → set_of store.zones.records item.key ≡ item.content) items

-- a name's existence, as it is read: 0 and no data where it does not exist, and where it does 1 and
-- data of which nothing is kept
abbrev pub IsExistence : ℕ → List Data → Type 0
IsExistence number content = ((number ≡ 0) × (content ≡ [])) ⊎ ((number ≡ 1) × (content ≡ Bare ∷ []))

-- an item as a store with this number next may have given it, now or before an edit: the number of a
-- set of records was given before the next one, and a name's existence has numbers of its own
pub record WasGiven (next : ℕ) (item : Item) : Type 0 where
  pub set : is_existence item.key ≡ false → item.number < next
  pub existence : is_existence item.key ≡ true → IsExistence item.number item.content

-- sets as they may have been read from a store, now or before an edit: 0 is the number of no data,
-- each was given by the store, and where a set's number is the store's, so are the data
pub record WereRead (store : Store) (items : List Item) : Type 0 where
  pub sets : All IsItem items
  pub given : All (WasGiven store.next) items
  pub honest : IsHonest store items

-- sets are as the store has them, and so are their numbers
pub record AreCurrent (store : Store) (items : List Item) : Type 0 where
  pub agrees : Agrees (set_of store.zones.records) items
  pub numbers : All (λ item. number_in store item.key ≡ item.number) items
