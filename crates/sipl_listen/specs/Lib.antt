pub mod Addresses
pub mod Faults
