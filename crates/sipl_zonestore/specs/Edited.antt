-- What an edit does to a store.
use Rattle.std.specs.Prelude.{◌≡◌, ◌≢◌, false, Option, None, Some, Result, MatchResult, OnOk, OnErr, IfOk, IfErr}
use Rattle.std.specs.List.{list_any}
use Rattle.std.specs.Option.{option_or}
use Rattle.sipl_records.specs.Sets.{set_of, same_key}
use Rattle.sipl_records.specs.declared.record.Key.{Key}
use Rattle.sipl_zonestore.specs.Store.{Store, number_in}
use Rattle.sipl_zonestore.specs.Edits.{Edit, load, unload, add, remove, after, refusal_of}
use Rattle.sipl_zonestore.specs.Changes.{changed_count, changed_keys}
use Rattle.sipl_zonestore.specs.Consistent.{IsConsistent}
use Rattle.sipl_zonestore.specs.Numbers.{number_after, next_after, number_refusal}
use Rattle.sipl_zonestore.specs.declared.changed.Changed.{Changed}
use Rattle.sipl_zonestore.specs.declared.fault.StoreFault.{StoreFault}
use Rattle.sipl_zonestore.specs.declared.fault.StoreFault.TheVariants.{Memory}

-- the fault of an edit of a store: that of its zones, or else too few numbers are left
abbrev pub store_refusal : Edit → Store → Option StoreFault
store_refusal edit store =
    option_or (refusal_of store.max_records edit store.zones)
    (number_refusal store.zones.records (after edit store.zones).records store.next)

-- the refusal that is found before anything is allocated: each one, but for too few numbers for a
-- zone's text, whose sets have to be made to be counted
abbrev pub early_refusal : Edit → Store → Option StoreFault
early_refusal (load zone) store = refusal_of store.max_records (load zone) store.zones
early_refusal (unload apex) store = store_refusal (unload apex) store
early_refusal (add r) store = store_refusal (add r) store
early_refusal (remove r) store = store_refusal (remove r) store

-- a look for an edit's early refusal gives it, if there is one
abbrev pub FindsEarly : Edit → Store → Result (Unit {0}) StoreFault → Type 0
FindsEarly edit store result =
    MatchResult result (λ _. early_refusal edit store ≡ None)
    (λ fault. early_refusal edit store ≡ Some fault)

-- the key's set and its number are as they were
abbrev pub IsKept : Store → Store → Key → Type 0
IsKept old new key =
    (set_of new.zones.records key ≡ set_of old.zones.records key)
    × (number_in new key ≡ number_in old key)

-- An accepted edit changes the zones, returns the keys whose sets differ and how many of them are
-- record sets, gives those of these that are not empty the next numbers, and keeps all other sets
-- with their numbers. A refused one changes nothing, and an edit fails for memory only where no early
-- refusal comes before. What always holds of a store holds after either.
pub record IsEdited (edit : Edit) (old new : Store) (result : Result Changed StoreFault) : Type 0 where
  pub accepted : OnOk result (store_refusal edit old ≡ None)
  pub after : OnOk result (new.zones ≡ after edit old.zones)
  pub changed : IfOk result (λ changed. changed.keys
      ≡ changed_keys old.zones.records new.zones.records)
  pub counted : IfOk result (λ changed. changed.sets
      ≡ changed_count old.zones.records new.zones.records)
  pub numbers : OnOk result ((key : Key) → number_in new key
      ≡ number_after old.zones.records new.zones.records old.next (number_in old) key)
  pub kept : IfOk result (λ changed. (key : Key) → list_any (same_key key) changed.keys ≡ false
      → IsKept old new key)
  pub next : OnOk result (new.next ≡ next_after old.zones.records new.zones.records old.next)
  pub refused : IfErr result (λ fault. fault ≢ Memory → store_refusal edit old ≡ Some fault)
  pub memory : IfErr result (λ fault. fault ≡ Memory → early_refusal edit old ≡ None)
  pub unchanged : OnErr result (new ≡ old)
  pub limit : new.max_records ≡ old.max_records
  pub looks : new.looks ≡ old.looks
  pub consistent : IsConsistent new
