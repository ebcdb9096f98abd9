-- Records with an index of their sets, each of which has a number.
use Rattle.std.specs.Prelude.{◌≡◌, ◌≢◌, ℕ, ◌+◌, ◌^◌, ◌≤◌, Bool, true, List, [], None, Some, Result, OnOk, OnErr, IfOk, IfErr}
use Rattle.sipl_names.specs.Labels.{Labels}
use Rattle.sipl_records.specs.Sets.{existence_of}
use Rattle.sipl_records.specs.declared.data.Data.{Data}
use Rattle.sipl_records.specs.declared.record.Record.{Record}
use Rattle.sipl_records.specs.declared.record.Key.{Key}
use Rattle.sipl_zonestore.specs.BareOwners.{HasBare}
use Rattle.sipl_zonestore.specs.Changes.{changed_count, changed_keys}
use Rattle.sipl_zonestore.specs.NameTable.{NameTable, HasNames}
use Rattle.sipl_zonestore.specs.Numbers.{SetNumber, number_of, set_number_after, next_after, number_refusal}
use Rattle.sipl_zonestore.specs.SetTable.{OwnerTable, HasSets}
use Rattle.sipl_zonestore.specs.declared.changed.Changed.{Changed}
use Rattle.sipl_zonestore.specs.declared.fault.StoreFault.{StoreFault}
use Rattle.sipl_zonestore.specs.declared.fault.StoreFault.TheVariants.{Memory}

-- what callers see: the records, the numbers of their sets, and the next number
pub record IndexedState : Type 0 where
  pub records : List Record
  pub numbers : List SetNumber
  pub next : ℕ

-- what always holds: the tables have the sets of the records, the owners of those of which nothing
-- is kept, and how many records are within each name; the set that is lent is that of a name that
-- exists; and no number is above 2^52
pub record IsIndexed (records : List Record) (sets : OwnerTable) (bare : Labels → Bool)
    (names : NameTable) (existence : List Data) (next : ℕ) : Type 0 where
  pub has_sets : HasSets sets records
  pub has_bare : HasBare bare records
  pub has_names : HasNames names records
  pub lent : existence ≡ existence_of true
  pub last : next ≤ 2 ^ 52 + 1

-- no set changed
abbrev pub nothing : Changed
nothing = record { keys = []; sets = 0 }

-- the records become these, unless too few numbers are left
pub record IsReplaced (records : List Record) (old new : IndexedState)
    (result : Result Changed StoreFault) : Type 0 where
  pub accepted : OnOk result (number_refusal old.records records old.next ≡ None)
  pub after : OnOk result (new.records ≡ records)
  pub changed : IfOk result (λ changed. changed.keys ≡ changed_keys old.records records)
  pub counted : IfOk result (λ changed. changed.sets ≡ changed_count old.records records)
  pub numbers : OnOk result ((key : Key) → number_of new.numbers key
      ≡ set_number_after old.records records old.next (number_of old.numbers) key)
  pub next : OnOk result (new.next ≡ next_after old.records records old.next)
  pub refused : IfErr result (λ fault. fault ≢ Memory
      → number_refusal old.records records old.next ≡ Some fault)
  pub unchanged : OnErr result (new ≡ old)
