-- Items of evidence: a record set as it was read, with its number.
use Rattle.std.specs.Prelude.{◌≡◌, ◌↔◌, ◌≢◌, ℕ, List, []}
use Rattle.std.specs.List.{AllPairs}
use Rattle.sipl_records.specs.declared.data.Data.{Data}
use Rattle.sipl_records.specs.declared.record.Key.{Key}
use Rattle.sipl_evidence.specs.declared.item.Item.TheInside.{Inside}

-- what is seen of an item: the set of a key, and the number that it had
pub record Item : Type 0 where
  pub key : Key
  pub number : ℕ
  pub content : List Data

-- the item that the fields represent
abbrev pub item_of : Inside → Item
item_of i = record { key = i.key; number = i.number; content = i.content }

-- a set has the number 0 exactly where it is empty
abbrev pub IsItem : Item → Type 0
IsItem item = (item.number ≡ 0) ↔ (item.content ≡ [])

-- no key is read twice
abbrev pub HasDistinctKeys : List Item → Type 0
HasDistinctKeys items = AllPairs (λ a b. a.key ≢ b.key) items
