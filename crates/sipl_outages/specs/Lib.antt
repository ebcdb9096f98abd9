pub mod Board
pub mod BoardFault
pub mod BoardView
pub mod Events
pub mod Holds
pub mod SharedBoard
