-- Lists of spots, each list numbered, in one table.
use Rattle.std.specs.Prelude.{◌≡◌, ℕ, ◌≤◌, nat_eq, nat_lt, Option}
use Rattle.std.specs.Option.{is_some, unwrap_or}
use Rattle.indexmap.specs.IndexMap.{IndexMap, get, spare, IsUnique}
use Rattle.sipl_evidence.specs.declared.spot.Spot.{Spot}
use Rattle.sipl_evidence.specs.declared.lists.Lists.{Lists}
use Rattle.sipl_evidence.specs.Spots.{same_spot}

-- what a place has
abbrev pub at : Lists → Spot → Option Spot
at lists place = get same_spot lists.spots place

-- the count of a list, by a table
abbrev pub count_of : {S : Type 0} → IndexMap ℕ ℕ S → ℕ → ℕ
count_of lens list = unwrap_or (get nat_eq lens list) 0

-- the length of a list
abbrev pub len_of : Lists → ℕ → ℕ
len_of lists list = count_of lists.lens list

-- exactly the places within the length of their list have something, and no place is twice in the
-- table
pub record AreDense (lists : Lists) : Type 0 where
  pub unique : IsUnique same_spot lists.spots
  pub within : (place : Spot)
      → is_some (at lists place) ≡ nat_lt place.index (len_of lists place.list)

-- there is space for so many spots more
pub record HasSpace (lists : Lists) (room : ℕ) : Type 0 where
  pub spots : room ≤ spare lists.spots
  pub lens : room ≤ spare lists.lens

-- there is no less space than before
pub record KeepsSpace (old new : Lists) : Type 0 where
  pub spots : spare old.spots ≤ spare new.spots
  pub lens : spare old.lens ≤ spare new.lens
