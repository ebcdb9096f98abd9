-- How the fields of a `State` represent it.
use Rattle.std.specs.Arc.{arc_value}
use Rattle.sipl_book.specs.Machine.{State, empty_state}
use Rattle.sipl_book.specs.declared.state.Parts.{Parts}
use Rattle.sipl_book.specs.declared.state.Parts.TheVariants.{Empty, Own, Shared}
use Rattle.sipl_book.specs.declared.state.State.TheInside.{Inside}

-- the state of zones and holds that may be shared
abbrev pub state_of_parts : Parts → State
state_of_parts Empty = empty_state
state_of_parts (Own zones board) = record { zones = zones; holds = board.holds }
state_of_parts (Shared zones board) = record { zones = arc_value zones; holds = board.holds }

-- the state that the fields represent
abbrev pub state_in : Inside → State
state_in state = state_of_parts state.parts
