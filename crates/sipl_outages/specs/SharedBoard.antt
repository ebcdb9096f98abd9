-- What is seen of a board that is shared.
use Rattle.std.specs.Arc.{arc_value}
use Rattle.sipl_outages.specs.Board.{BoardState}
use Rattle.sipl_outages.specs.declared.shared.Kept.{Kept}
use Rattle.sipl_outages.specs.declared.shared.Kept.TheVariants.{Empty, Shared}

-- the board, in whichever way it is kept
abbrev pub board_in : Kept → BoardState
board_in (Empty board) = board
board_in (Shared board) = arc_value board
