-- What proofs of the crates above cite.
pub use Rattle.sipl_srv.proofs.Orders.{ordered-IsPermutation}
