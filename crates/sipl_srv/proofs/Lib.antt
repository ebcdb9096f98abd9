pub mod Public
mod Ranks
mod Seeds
mod Chosen
mod Places
mod Offered
mod Orders
mod Shares
mod Groups
mod TwoPicks
