-- What proofs of the crates above cite.
pub use Rattle.sipl_choice.proofs.SameEndpoint.{same_endpoint_decides, same_endpoint-equivalence}
