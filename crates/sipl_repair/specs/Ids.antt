-- A set of ids with its capacity, and the set after each change.
use Rattle.std.specs.Prelude.{ℕ, max}
use Rattle.std.specs.FinSet as set
use Rattle.std.specs.Ordering.{nat_cmp}

-- a set of ids, and how many ids it can hold without an allocation
pub record Ids : Type 0 where
  pub members : set.FinSet nat_cmp
  pub capacity : ℕ

-- no members and no capacity
abbrev pub no_ids : Ids
no_ids = record { members = set.empty; capacity = 0 }

-- the same members, with capacity for at least n
abbrev pub with_capacity : Ids → ℕ → Ids
with_capacity s n = record s { capacity = max s.capacity n }

-- the set with an id
abbrev pub with_id : Ids → ℕ → Ids
with_id s id = record s { members = set.insert s.members id }

-- the set without an id
abbrev pub without_id : Ids → ℕ → Ids
without_id s id = record s { members = set.remove s.members id }
