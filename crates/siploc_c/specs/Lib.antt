pub mod Codes
pub mod Embedded
pub mod Lending
pub mod Owned
pub mod Status
pub mod Whole
