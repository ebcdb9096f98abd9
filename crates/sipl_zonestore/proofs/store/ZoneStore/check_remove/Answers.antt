use Rattle.std.proofs.lemmas.Result.{err_from_is_err_and}
use Rattle.sipl_zonestore.specs.Edits.{remove}
use Rattle.sipl_zonestore.proofs.Editing.{checked, not_absent, store_of, unchecked}
use Rattle.sipl_zonestore.proofs.store.ZoneStore.check_remove.Goals as goal

pub check_remove-requires-2 : goal.check_remove-requires-2
check_remove-requires-2 c =
    record { present = not_absent c.self.inside.max_records c.args.old.now (record { apexes = c.self.inside.apexes.items; records = c.self.inside.records.records }) (rw c.deref.ensures.value at (c.in_ok-check_remove.ensures c.self.inside.max_records)) }

pub returns : goal.returns
returns c =
    rw (← c.self.view_is) (checked (remove c.args.old.now) (store_of c.self.inside.apexes.items c.self.inside.records c.self.inside.max_records c.self.inside.looks) c.check_remove-2.result (rw c.deref.ensures.value at (c.in_ok-check_remove.ensures c.self.inside.max_records)) c.check_remove-2.ensures)

pub returns-in_err-check_remove : goal.returns-in_err-check_remove
returns-in_err-check_remove c =
    let p = err_from_is_err_and c.from_residual.result c.from_residual.ensures.1 in
    rw (p.1, p.2, ← c.self.view_is) (unchecked (remove c.args.old.now) (store_of c.self.inside.apexes.items c.self.inside.records c.self.inside.max_records c.self.inside.looks) c.in_err-check_remove.field-0.0 (rw c.deref.ensures.value at (c.in_err-check_remove.ensures c.self.inside.max_records)))
