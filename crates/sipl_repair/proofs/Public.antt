-- What proofs of the crates above cite.
pub use Rattle.sipl_repair.proofs.Consistency.{IsConsistent-empty, differs_from_each, filter-absent}
pub use Rattle.sipl_repair.proofs.Holding.{is_held-after_lease, is_held-after_settle, is_held-after_requeue, is_held-after_give_back, is_held-after_forget, is_held-after_mark}
pub use Rattle.sipl_repair.proofs.Members.{contains-insert, remove-insert, same_members, contains-from_list, len-from_list, len-insert_le, len-remove_le, len-remove_lt, remove_absent}
pub use Rattle.sipl_repair.proofs.Runs.{IsConsistent-after_lease, IsConsistent-after_settle, IsConsistent-after_requeue, IsConsistent-after_give_back, IsConsistent-after_forget, IsConsistent-after_mark}
