pub mod Offers
pub mod Draws
pub mod DrawsFault
pub mod Order
pub mod Shares
