-- Places in lists that are numbered.
use Rattle.std.specs.Prelude.{ℕ, Bool, ◌&&◌, ◌==◌}
use Rattle.sipl_evidence.specs.declared.spot.Spot.{Spot}

-- the place with this index in the list with this number
abbrev pub spot : ℕ → ℕ → Spot
spot list index = record { list = list; index = index }

-- whether two places are one
abbrev pub same_spot : Spot → Spot → Bool
same_spot a b = a.list == b.list && a.index == b.index
