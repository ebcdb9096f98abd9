-- Looks at the data of a store.
use Rattle.std.specs.Prelude.{◌+◌, ◌-◌, ◌^◌, min}
use Rattle.sipl_zonestore.specs.Store.{Store}

-- a store after one look more; the count stops at the greatest number of 64 bits
abbrev pub looked : Store → Store
looked store =
    record {
      zones = store.zones;
      max_records = store.max_records;
      numbers = store.numbers;
      next = store.next;
      looks = min (store.looks + 1) (2 ^ 64 - 1);
    }
