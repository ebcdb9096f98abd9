use Rattle.std.proofs.lemmas.Result.{err_from_is_err_and}
use Rattle.sipl_zonestore.specs.Edits.{add}
use Rattle.sipl_zonestore.proofs.Editing.{checked, store_of, unchecked}
use Rattle.sipl_zonestore.proofs.store.ZoneStore.check_add.Goals as goal

pub returns : goal.returns
returns c =
    rw (← c.self.view_is) (checked (add c.args.new.now) (store_of c.self.inside.apexes.items c.self.inside.records c.self.inside.max_records c.self.inside.looks) c.check_push.result (rw c.deref.ensures.value at c.in_ok-check_add.ensures) c.check_push.ensures)

pub returns-in_err-check_add : goal.returns-in_err-check_add
returns-in_err-check_add c =
    let p = err_from_is_err_and c.from_residual.result c.from_residual.ensures.1 in
    rw (p.1, p.2, ← c.self.view_is) (unchecked (add c.args.new.now) (store_of c.self.inside.apexes.items c.self.inside.records c.self.inside.max_records c.self.inside.looks) c.in_err-check_add.field-0.0 (rw c.deref.ensures.value at c.in_err-check_add.ensures))
