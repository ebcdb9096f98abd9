-- What proofs of the crates above cite.
pub use Rattle.sipl_evidence.proofs.Alike.{result_of-alike, asked-alike}
pub use Rattle.sipl_evidence.proofs.FewSets.{length-asked_within, length-asking, at_encloser-all, max_ancestors-is, max_aliases-is}
pub use Rattle.sipl_evidence.proofs.AliasAnswers.{asking_within-is}
pub use Rattle.sipl_evidence.proofs.Placing.{known-place, known-no_place, place_of-within}
pub use Rattle.sipl_evidence.proofs.Knowing.{advance-advance, first_unknown-advance, result_of-advance, first_unknown-find}
pub use Rattle.sipl_evidence.proofs.Traces.{unique-trace, trace-push, unique-whole_trace}
pub use Rattle.sipl_evidence.proofs.Walking.{first_unknown-next_key}
pub use Rattle.sipl_evidence.proofs.Composing.{asked-and_then, result_of-and_then}
pub use Rattle.sipl_evidence.proofs.Pairs.{list_any-ids_of}
