use Rattle.std.proofs.Common.{Ok, Err, refl}
use Rattle.std.proofs.lemmas.Result.{err_from_is_err_and}
use Rattle.sipl_zonestore.specs.Edits.{remove}
use Rattle.sipl_zonestore.proofs.Editing.{store_of, edited-with, memory-edit, not_absent, refused-edit}
use Rattle.sipl_zonestore.proofs.store.ZoneStore.remove.Goals as goal

pub invariant_of-self-2 : goal.invariant_of-self-2
invariant_of-self-2 c =
    record { consistent = (edited-with (remove c.args.old.now) c.self.inside.apexes.items c.self.inside.apexes.items c.self.inside.records c.remove.new.self c.self.inside.max_records c.self.inside.looks (Ok c.in_ok-changed.changed) tt c.self.invariant.consistent (rw c.deref.ensures.value at (c.in_ok-check_remove.ensures c.self.inside.max_records)) c.in_ok-changed.ensures.replaced tt refl tt).consistent; shared = tt }

pub returns : goal.returns
returns c =
    rw (← c.self.view_is) (edited-with (remove c.args.old.now) c.self.inside.apexes.items c.self.inside.apexes.items c.self.inside.records c.remove.new.self c.self.inside.max_records c.self.inside.looks (Ok c.in_ok-changed.changed) tt c.self.invariant.consistent (rw c.deref.ensures.value at (c.in_ok-check_remove.ensures c.self.inside.max_records)) c.in_ok-changed.ensures.replaced tt refl tt)

pub returns-in_err-changed : goal.returns-in_err-changed
returns-in_err-changed c =
    let p = err_from_is_err_and c.from_residual-in_err-changed.result c.from_residual-in_err-changed.ensures.1 in
    let accepted = (rw c.deref.ensures.value at (c.in_ok-check_remove.ensures c.self.inside.max_records)) in
    rw (p.1, p.2, ← c.self.view_is) (edited-with (remove c.args.old.now) c.self.inside.apexes.items c.self.inside.apexes.items c.self.inside.records c.remove.new.self c.self.inside.max_records c.self.inside.looks (Err c.in_err-changed.field-0.0) tt c.self.invariant.consistent accepted c.in_err-changed.ensures.replaced (memory-edit (remove c.args.old.now) (store_of c.self.inside.apexes.items c.self.inside.records c.self.inside.max_records c.self.inside.looks) (Err c.in_err-changed.field-0.0) accepted c.in_err-changed.ensures.memory) tt refl)

pub remove-requires : goal.remove-requires
remove-requires c =
    record {
      distinct = c.self.invariant.consistent.records_distinct;
      present = not_absent c.self.inside.max_records c.args.old.now (record { apexes = c.self.inside.apexes.items; records = c.self.inside.records.records }) (rw c.deref.ensures.value at (c.in_ok-check_remove.ensures c.self.inside.max_records));
    }

pub returns-in_err-check_remove : goal.returns-in_err-check_remove
returns-in_err-check_remove c =
    let p = err_from_is_err_and c.from_residual.result c.from_residual.ensures.1 in
    rw (p.1, p.2, ← c.self.view_is) (refused-edit (remove c.args.old.now) (store_of c.self.inside.apexes.items c.self.inside.records c.self.inside.max_records c.self.inside.looks) c.in_err-check_remove.field-0.0 c.self.invariant.consistent (rw c.deref.ensures.value at (c.in_err-check_remove.ensures c.self.inside.max_records)))
