pub mod Public
mod Consistency
mod Holding
mod Live
mod Members
mod Places
mod Runs
