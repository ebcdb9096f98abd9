pub mod FailoverFault
pub mod FailoverRun
pub mod Rules
pub mod Branch
pub mod Runs
