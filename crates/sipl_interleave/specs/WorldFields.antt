-- How the fields of a `World` represent its state.
use Rattle.sipl_interleave.specs.World.{IsWorld, WorldState}
use Rattle.sipl_interleave.specs.declared.world.World.TheInside.{Inside}

-- each field by its name
abbrev pub world_of : Inside → WorldState
world_of w = record { book = w.book; workers = w.workers }

-- the fields represent a world
abbrev pub IsValidWorld : Inside → Type 0
IsValidWorld w = IsWorld (world_of w)
