use Rattle.std.proofs.Common.{◌≡◌, not, Ok, Err, refl, subst, append-nil, rules}
use Rattle.std.proofs.lemmas.Fn.{filter_same}
use Rattle.std.proofs.lemmas.Result.{err_from_is_err_and}
use Rattle.sipl_names.specs.Labels.{same_name}
use Rattle.sipl_zonestore.specs.declared.fault.StoreFault.TheVariants.{NumberSpent}
use Rattle.sipl_zonestore.specs.Store.{records_outside}
use Rattle.sipl_zonestore.specs.Edits.{unload}
use Rattle.sipl_zonestore.specs.IndexedRecords.{IsReplaced}
use Rattle.sipl_zonestore.proofs.Recorded.{enough-unload, never_spent}
use Rattle.sipl_zonestore.proofs.Editing.{edited-with, loaded, memory-edit, store_of}
use Rattle.sipl_zonestore.proofs.store.ZoneStore.unload.Goals as goal

pub invariant_of-self-2 : goal.invariant_of-self-2
invariant_of-self-2 c =
    record { consistent = (edited-with (unload c.args.apex.now) c.self.inside.apexes.items c.retain.new.self.items c.self.inside.records c.replace_within.new.self c.self.inside.max_records c.self.inside.looks (Ok c.in_ok-changed.changed) tt c.self.invariant.consistent (loaded c.self.inside.max_records c.args.apex.now (record { apexes = c.self.inside.apexes.items; records = c.self.inside.records.records }) (rw c.deref.ensures.value at c.in_ok-check_unload.ensures)) (subst (λ records. IsReplaced records c.self.inside.records c.replace_within.new.self (Ok c.in_ok-changed.changed)) (append-nil (records_outside c.args.apex.now c.self.inside.records.records)) c.in_ok-changed.ensures) tt (filter_same _ (λ other. not (same_name c.args.apex.now other)) _ (λ x b f k. search rules) _ _ c.retain.ensures.filtered) tt).consistent; shared = tt }

pub returns-clause-edited : goal.returns-clause-edited
returns-clause-edited c =
    rw (← c.self.view_is) (edited-with (unload c.args.apex.now) c.self.inside.apexes.items c.retain.new.self.items c.self.inside.records c.replace_within.new.self c.self.inside.max_records c.self.inside.looks (Ok c.in_ok-changed.changed) tt c.self.invariant.consistent (loaded c.self.inside.max_records c.args.apex.now (record { apexes = c.self.inside.apexes.items; records = c.self.inside.records.records }) (rw c.deref.ensures.value at c.in_ok-check_unload.ensures)) (subst (λ records. IsReplaced records c.self.inside.records c.replace_within.new.self (Ok c.in_ok-changed.changed)) (append-nil (records_outside c.args.apex.now c.self.inside.records.records)) c.in_ok-changed.ensures) tt (filter_same _ (λ other. not (same_name c.args.apex.now other)) _ (λ x b f k. search rules) _ _ c.retain.ensures.filtered) tt)

pub returns-in_err-changed-clause-numbers : goal.returns-in_err-changed-clause-numbers
returns-in_err-changed-clause-numbers c =
    let p = err_from_is_err_and c.from_residual-in_err-changed.result c.from_residual-in_err-changed.ensures.1 in
    rw (p.1, p.2) (λ spent. let is : c.in_err-changed.field-0.0 ≡ NumberSpent = cc in never_spent c.args.apex.now c.self.inside.records.records c.self.inside.records.next c.in_err-changed.field-0.0 c.self.invariant.consistent.numbered.last c.in_err-changed.ensures.refused is)

pub returns-in_err-changed-clause-edited : goal.returns-in_err-changed-clause-edited
returns-in_err-changed-clause-edited c =
    let p = err_from_is_err_and c.from_residual-in_err-changed.result c.from_residual-in_err-changed.ensures.1 in
    let store = store_of c.self.inside.apexes.items c.self.inside.records c.self.inside.max_records c.self.inside.looks in
    let accepted = loaded c.self.inside.max_records c.args.apex.now (record { apexes = c.self.inside.apexes.items; records = c.self.inside.records.records }) (rw c.deref.ensures.value at c.in_ok-check_unload.ensures) in
    rw (p.1, p.2, ← c.self.view_is) (edited-with (unload c.args.apex.now) c.self.inside.apexes.items c.self.inside.apexes.items c.self.inside.records c.replace_within.new.self c.self.inside.max_records c.self.inside.looks (Err c.in_err-changed.field-0.0) tt c.self.invariant.consistent accepted (subst (λ records. IsReplaced records c.self.inside.records c.replace_within.new.self (Err c.in_err-changed.field-0.0)) (append-nil (records_outside c.args.apex.now c.self.inside.records.records)) c.in_err-changed.ensures) (memory-edit (unload c.args.apex.now) store (Err c.in_err-changed.field-0.0) accepted (λ memory. enough-unload c.args.apex.now c.self.inside.records.records c.self.inside.records.next c.self.invariant.consistent.numbered.last)) tt refl)
