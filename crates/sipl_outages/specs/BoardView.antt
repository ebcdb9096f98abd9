-- What is seen of a board, and what always holds of its fields.
use Rattle.sipl_outages.specs.declared.board.Board.TheInside.{Inside}
use Rattle.sipl_outages.specs.Board.{BoardState, IsConsistent}

-- the board of the fields
abbrev pub state_of : Inside → BoardState
state_of board =
    record {
      holds = record { now = board.time; ends = board.ends.entries };
      max_holds = board.max_holds;
    }

-- the board of the fields is consistent
abbrev pub IsValidBoard : Inside → Type 0
IsValidBoard board = IsConsistent (state_of board)
