-- What proofs of the crates above cite.
pub use Rattle.sipl_names.proofs.SameName.{same_name_decides}
pub use Rattle.sipl_names.proofs.Lowercase.{length-lowered, lowered_label}
pub use Rattle.sipl_names.proofs.RoundTrip.{name_of-text_of, printed_octets_read}
pub use Rattle.sipl_names.proofs.TextLength.{length-text_of, length-printed_label}
pub use Rattle.sipl_names.proofs.Within.{is_within-suffix, is_within-refl, is_within-trans, is_within-above, is_within-root}
pub use Rattle.sipl_names.proofs.Counts.{labels-at_most_127, parent-IsName, wildcard_at-IsName}
