use Rattle.sipl_zonestore.proofs.Recorded.{checked-add}
use Rattle.sipl_zonestore.proofs.indexed_records.IndexedRecords.check_push.Goals as goal

pub returns : goal.returns
returns c =
    rw (← c.self.view_is) (checked-add c.self.inside.records.records c.args.new.now c.self.inside.next c.added_count.result c.check_numbers.result c.added_count.ensures c.check_numbers.ensures)
