pub mod Faults
pub mod SessionDesk
