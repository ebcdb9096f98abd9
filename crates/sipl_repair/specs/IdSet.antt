-- How the fields of an `IdSet` represent a set of ids.
use Rattle.std.specs.Prelude.{◌+◌, ◌-◌, ◌*◌, ◌^◌, ◌≤◌, min, take, nat_eq}
use Rattle.std.specs.FinSet as set
use Rattle.indexmap.specs.IndexSet.{index_set_len, spare, IsUnique}
use Rattle.sipl_repair.specs.Ids.{Ids}
use Rattle.sipl_repair.specs.declared.id_set.IdSet.TheInside.{Inside}

-- the members are the first `present` ids of the table
abbrev pub ids_of : Inside → Ids
ids_of s = record { members = set.from_list (take s.present s.ids.keys); capacity = s.capacity }

-- no id is twice in the table, the members are within the capacity, and the table's is twice that
pub record IsValidIdSet (s : Inside) : Type 0 where
  pub distinct : IsUnique nat_eq s.ids
  pub within : s.present ≤ index_set_len s.ids
  pub held : s.present ≤ s.capacity
  pub places : min (s.capacity * 2) (2 ^ 64 - 1) ≤ index_set_len s.ids + spare s.ids
