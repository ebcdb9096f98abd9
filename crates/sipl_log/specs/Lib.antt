pub mod Levels
pub mod Lines
pub mod Verbosities
