-- What proofs of the crates above cite.
pub use Rattle.sipl_records.proofs.Filters.{filter-weaker, filter-all, list_any-filter, filter-filter, filter-swap, filter-none, filter-other, All-filter_weaker}
pub use Rattle.sipl_records.proofs.Unique.{equivalence_from_decides, unique-append, unique-filter, list_any-unique, IsDistinct-unique, transitive_from_equivalence, Contains-unique}
pub use Rattle.sipl_records.proofs.Sets.{data_of-is, data_of-append, data_of-filter_kept, data_of-filter_dropped, data_of-filter_owner, has_key-name}
pub use Rattle.sipl_records.proofs.Existence.{set_of-data, set_of-existence, data_of-existence, has_key-existence, has_key-no_existence, key_of-no_existence, own_kind-no_existence, has_kind-own, exists_in-append, exists_in-owners, exists_in-above, length-existence, Any-weaken}
pub use Rattle.sipl_records.proofs.Same.{same_key_decides, same_record_is, same_data_is}
pub use Rattle.sipl_records.proofs.SameData.{same_data-refl, same_set-Decides, same_record-sym, same_data-Decides, same_record-Decides}
pub use Rattle.sipl_records.proofs.Keys.{same_key-Decides, same_key-refl, has_key-key_of, is_key, same_key-sym, same_name-sym, shares_set-Decides, shares_set-Some, key_of-name, same_kind-Decides, same_kind-index, length-data_of}
pub use Rattle.sipl_records.proofs.Groups.{rest_whole}
pub use Rattle.sipl_records.proofs.RoundTrip.{number_of_text-text_of}
pub use Rattle.sipl_records.proofs.Ipv6Sound.{address6_of_text-sound}
pub use Rattle.sipl_records.proofs.Ipv6Prints.{address6_of_text-text_of}
pub use Rattle.sipl_records.proofs.AddressLemmas.{length-text_of_address}
