pub mod Whole
pub mod Held
mod Dropped
