pub mod Calls
pub mod Codes
pub mod IdSet
pub mod Ids
pub mod Queue
pub mod QueueFault
pub mod QueueState
pub mod StalePlaces
