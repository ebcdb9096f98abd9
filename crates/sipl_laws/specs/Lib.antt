pub mod NameCases
pub mod Events
pub mod Asked
pub mod Carried
pub mod ReadBack
