pub mod TxFault
pub mod Timers
pub mod Table
pub mod Transaction
pub mod Machine
pub mod Runs
