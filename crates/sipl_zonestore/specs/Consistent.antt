-- What always holds of a store.
use Rattle.std.specs.Prelude.{◌≡◌, ◌≢◌, ◌≤◌, true, false, length, AllPairs}
use Rattle.std.specs.List.{list_all, list_any}
use Rattle.sipl_names.specs.Labels.{is_wildcard}
use Rattle.sipl_records.specs.Sets.{conflicts}
use Rattle.sipl_masterfile.specs.Zones.{has_repeats, sets_fit}
use Rattle.sipl_zonestore.specs.Numbers.{IsNumbered}
use Rattle.sipl_zonestore.specs.Store.{Store, number_in, overlaps, is_covered}

-- no zone is strictly within another, no apex and no record is there twice, no apex is a wildcard
-- (RFC 4592, 2.1.1), each owner is within a loaded zone, no set has over 32 records, no two records
-- conflict, there are at most `max_records` records, and each set has its number
pub record IsConsistent (store : Store) : Type 0 where
  pub apart : AllPairs (λ a b. overlaps a b ≡ false) store.zones.apexes
  pub apexes_distinct : AllPairs (λ a b. a ≢ b) store.zones.apexes
  pub no_wildcard : list_any is_wildcard store.zones.apexes ≡ false
  pub covered : list_all (λ r. is_covered store.zones.apexes r.owner) store.zones.records ≡ true
  pub records_distinct : has_repeats store.zones.records ≡ false
  pub sets_fit : sets_fit store.zones.records ≡ true
  pub aliases : AllPairs (λ a b. conflicts a b ≡ false) store.zones.records
  pub limit : length store.zones.records ≤ store.max_records
  pub numbered : IsNumbered store.zones.records (number_in store) store.next
