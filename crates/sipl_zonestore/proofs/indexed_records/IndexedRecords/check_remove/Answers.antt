use Rattle.sipl_zonestore.proofs.Recorded.{checked-remove}
use Rattle.sipl_zonestore.proofs.indexed_records.IndexedRecords.check_remove.Goals as goal

pub returns : goal.returns
returns c =
    rw (← c.self.view_is) (checked-remove c.self.inside.records.records c.args.old.now c.self.inside.next c.removed_count.result c.self.inside.sets c.check_numbers.result c.self.invariant.has_sets (rw (← c.self.view_is) at c.requires.present) c.removed_count.ensures c.check_numbers.ensures)
