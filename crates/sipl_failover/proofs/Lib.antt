pub mod EventLemmas
pub mod RunLemmas
pub mod BranchLemmas
