use Rattle.std.proofs.Common.{Ok, Err, refl}
use Rattle.std.proofs.lemmas.Result.{err_from_is_err_and}
use Rattle.sipl_zonestore.specs.Edits.{add}
use Rattle.sipl_zonestore.proofs.Editing.{edited-with, memory-edit, refused-edit, store_of}
use Rattle.sipl_zonestore.proofs.store.ZoneStore.add.Goals as goal

pub invariant_of-self-2 : goal.invariant_of-self-2
invariant_of-self-2 c =
    record { consistent = (edited-with (add c.args.new.now) c.self.inside.apexes.items c.self.inside.apexes.items c.self.inside.records c.push.new.self c.self.inside.max_records c.self.inside.looks (Ok c.in_ok-changed.changed) tt c.self.invariant.consistent (rw c.deref.ensures.value at c.in_ok-check_add.ensures) c.in_ok-changed.ensures.replaced tt refl tt).consistent; shared = tt }

pub returns : goal.returns
returns c =
    rw (← c.self.view_is) (edited-with (add c.args.new.now) c.self.inside.apexes.items c.self.inside.apexes.items c.self.inside.records c.push.new.self c.self.inside.max_records c.self.inside.looks (Ok c.in_ok-changed.changed) tt c.self.invariant.consistent (rw c.deref.ensures.value at c.in_ok-check_add.ensures) c.in_ok-changed.ensures.replaced tt refl tt)

pub returns-in_err-changed : goal.returns-in_err-changed
returns-in_err-changed c =
    let p = err_from_is_err_and c.from_residual-in_err-changed.result c.from_residual-in_err-changed.ensures.1 in
    let accepted = (rw c.deref.ensures.value at c.in_ok-check_add.ensures) in
    rw (p.1, p.2, ← c.self.view_is) (edited-with (add c.args.new.now) c.self.inside.apexes.items c.self.inside.apexes.items c.self.inside.records c.push.new.self c.self.inside.max_records c.self.inside.looks (Err c.in_err-changed.field-0.0) tt c.self.invariant.consistent accepted c.in_err-changed.ensures.replaced (memory-edit (add c.args.new.now) (store_of c.self.inside.apexes.items c.self.inside.records c.self.inside.max_records c.self.inside.looks) (Err c.in_err-changed.field-0.0) accepted c.in_err-changed.ensures.memory) tt refl)

pub returns-in_err-check_add : goal.returns-in_err-check_add
returns-in_err-check_add c =
    let p = err_from_is_err_and c.from_residual.result c.from_residual.ensures.1 in
    rw (p.1, p.2, ← c.self.view_is) (refused-edit (add c.args.new.now) (store_of c.self.inside.apexes.items c.self.inside.records c.self.inside.max_records c.self.inside.looks) c.in_err-check_add.field-0.0 c.self.invariant.consistent (rw c.deref.ensures.value at c.in_err-check_add.ensures))
