-- Pairs of spots: each is in a list by its code, and its partner in a list by its id.
use Rattle.std.specs.Prelude.{◌≡◌, ℕ, ◌+◌, List, Option, Some, map}
use Rattle.sipl_evidence.specs.declared.spot.Spot.{Spot}
use Rattle.sipl_evidence.specs.declared.lists.Lists.{Lists}
use Rattle.sipl_evidence.specs.declared.dependents.Dependents.TheInside.{Inside}
use Rattle.sipl_evidence.specs.Lists.{at, len_of, AreDense, HasSpace}
use Rattle.sipl_evidence.specs.Dependents.{Dependent, DependentsState}

-- what a table of spots has at a place
abbrev pub Table : Type 0
Table = Spot → Option Spot

-- each place of the first has its partner in the second
abbrev pub LeadsBack : Table → Table → Type 0
LeadsBack a b = (place partner : Spot) → a place ≡ Some partner → b partner ≡ Some place

-- no list has two spots of one other list
abbrev pub IsOnce : Table → Type 0
IsOnce a =
    (place other p q : Spot) → a place ≡ Some p → a other ≡ Some q
    → place.list ≡ other.list → p.list ≡ q.list → place ≡ other

-- the lists by codes and those by ids have the same pairs, each once
pub record ArePaired (by_code by_id : Lists) : Type 0 where
  pub codes : AreDense by_code
  pub ids : AreDense by_id
  pub there : LeadsBack (at by_code) (at by_id)
  pub back : LeadsBack (at by_id) (at by_code)
  pub once : IsOnce (at by_code)

-- the pair of an entry of the table by codes
abbrev pub pair_of : Spot × Spot → Dependent
pair_of e = record { code = e.0.list; id = e.1.list }

-- the pairs of the lists by codes
abbrev pub pairs_of : Lists → List Dependent
pairs_of lists = map pair_of lists.spots.entries

-- each pair with the id is the last one of its code
abbrev pub AreLast : Lists → ℕ → Type 0
AreLast lists id =
    (place p : Spot) → at lists place ≡ Some p → p.list ≡ id
    → place.index + 1 ≡ len_of lists place.list

-- no pair has the code and the id
abbrev pub IsNew : Lists → ℕ → ℕ → Type 0
IsNew lists code id =
    (place p : Spot) → at lists place ≡ Some p → place.list ≡ code → p.list ≡ id → ⊥

-- the state that the fields represent
abbrev pub state_of : Inside → DependentsState
state_of d = record { pairs = pairs_of d.by_code; room = d.room }

-- the lists have the same pairs, and the space
pub record IsLinked (d : Inside) : Type 0 where
  pub paired : ArePaired d.by_code d.by_id
  pub codes : HasSpace d.by_code d.room
  pub ids : HasSpace d.by_id d.room
