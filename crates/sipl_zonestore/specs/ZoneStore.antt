-- How the fields of a `ZoneStore` represent its state, and what always holds of them.
use Rattle.std.specs.Prelude.{◌≡◌, IfSome}
use Rattle.std.specs.Arc.{arc_value}
use Rattle.sipl_zonestore.specs.Store.{Store}
use Rattle.sipl_zonestore.specs.Consistent.{IsConsistent}
use Rattle.sipl_zonestore.specs.declared.store.ZoneStore.TheInside.{Inside}

-- the state that the fields represent
abbrev pub state_of : Inside → Store
state_of s =
    record {
      zones = record { apexes = s.apexes.items; records = s.records.records };
      max_records = s.max_records;
      numbers = s.records.numbers;
      next = s.records.next;
      looks = s.looks;
    }

-- the state is consistent, and the value that is shared, where there is one, is the zones as they are
pub record IsValidStore (s : Inside) : Type 0 where
  pub consistent : IsConsistent (state_of s)
  pub shared : IfSome s.shared (λ shared. arc_value shared ≡ (state_of s).zones)
