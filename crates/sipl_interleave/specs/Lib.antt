pub mod WorldFault
pub mod Jobs
pub mod Worker
pub mod World
pub mod WorldFields
pub mod Steps
pub mod Plays
