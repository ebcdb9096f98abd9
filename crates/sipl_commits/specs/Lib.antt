pub mod Commits
pub mod Cuts
pub mod Logs
pub mod Seals
pub mod States
pub mod Tails
