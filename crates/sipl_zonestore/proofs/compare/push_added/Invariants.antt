use Rattle.std.proofs.Common.{◌≡◌, ℕ, List, ◌++◌, true, take}
use Rattle.std.specs.List.{list_all}
use Rattle.sipl_names.specs.Labels.{is_within}
use Rattle.sipl_records.specs.declared.record.Record.{Record}
use Rattle.sipl_zonestore.specs.Store.{records_within}
use Rattle.sipl_zonestore.specs.Changes.{changed_among}
use Rattle.sipl_zonestore.specs.SetTable.{HasSets}
use Rattle.sipl_zonestore.proofs.compare.push_added.Given as goal

abbrev pub invariant-loop-record : goal.invariant-loop-record
invariant-loop-record l =
    (apex : List (List ℕ)) (records : List Record) → HasSets l.old records → list_all (λ r. is_within r.owner apex) l.text ≡ true → l.initial.keys.items ≡ changed_among records l.text (records_within apex records) → l.keys.items ≡ changed_among records l.text (records_within apex records ++ take l.record-index l.text)
