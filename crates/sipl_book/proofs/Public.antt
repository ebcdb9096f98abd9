-- What proofs of the crates above cite.
pub use Rattle.sipl_book.proofs.Answering.{consistent-answered}
pub use Rattle.sipl_book.proofs.Committed.{All-committed, All-entry_of, AllPairs-map, committed_cases, id-renewed, ids-committed}
pub use Rattle.sipl_book.proofs.Committing.{consistent_committed, consistent_looked}
pub use Rattle.sipl_book.proofs.Free.{draw-free}
pub use Rattle.sipl_book.proofs.Honest.{given-now, read-after}
pub use Rattle.sipl_book.proofs.Ids.{InOrder-head, InOrder-tail, differ}
pub use Rattle.sipl_book.proofs.Journal.{all_good-later}
pub use Rattle.sipl_book.proofs.Moving.{consistent-moved}
pub use Rattle.sipl_book.proofs.SameEvent.{same_event_decides}
pub use Rattle.sipl_book.proofs.Settling.{consistent-forgotten, consistent-queued, consistent-settled}
pub use Rattle.sipl_book.proofs.Staleness.{current-fresh, current-numbered}
pub use Rattle.sipl_book.proofs.StoreSets.{set_is_set}
pub use Rattle.sipl_book.proofs.Unrefused.{no_place, space, unrefused}
