use Rattle.std.proofs.Common.{◌≡◌, ◌++◌, Ok, Err, subst, ◌∙◌}
use Rattle.std.specs.Option.{option_to_list}
use Rattle.std.proofs.lemmas.Result.{err_from_is_err_and}
use Rattle.sipl_zonestore.specs.Store.{records_outside, apexes_after_load}
use Rattle.sipl_zonestore.specs.Edits.{load}
use Rattle.sipl_zonestore.specs.IndexedRecords.{IndexedState, IsReplaced}
use Rattle.sipl_zonestore.proofs.Editing.{edited-with}
use Rattle.sipl_zonestore.proofs.store.ZoneStore.load.Goals as goal

pub invariant_of-self-2 : goal.invariant_of-self-2
invariant_of-self-2 c =
    let added : c.self.inside.apexes.items ++ option_to_list c.in_ok-apex.apex ≡ apexes_after_load c.args.zone.now.apex c.self.inside.apexes.items = rw (c.deref-2.ensures.value, c.apex.ensures) at c.in_ok-apex.ensures in
    let apexes : c.push_apex.new.apexes.items ≡ apexes_after_load c.args.zone.now.apex c.self.inside.apexes.items = c.push_apex.ensures ∙ (λ i. c.in_ok-reserve.ensures.items i ++ option_to_list c.in_ok-apex.apex) ∙ added in
    record { consistent = (edited-with (load c.args.zone.now) c.self.inside.apexes.items c.push_apex.new.apexes.items c.self.inside.records c.replace_within.new.self c.self.inside.max_records c.self.inside.looks (Ok c.in_ok-changed.changed) c.records.ensures.zone c.self.invariant.consistent (rw (c.deref.ensures.value, c.as_slice-records.ensures.value) at c.in_ok-check_load.ensures) (subst (λ records. IsReplaced records c.self.inside.records c.replace_within.new.self (Ok c.in_ok-changed.changed)) (λ i. records_outside (c.apex-2.ensures i) c.self.inside.records.records ++ c.records.ensures.value i) (subst (λ (state : IndexedState). IsReplaced (records_outside c.apex-2.result.now state.records ++ c.records.result.now) state c.replace_within.new.self (Ok c.in_ok-changed.changed)) c.as_slice-records.follows.holds-at-none c.in_ok-changed.ensures)) tt apexes tt).consistent; shared = tt }

pub returns : goal.returns
returns c =
    let added : c.self.inside.apexes.items ++ option_to_list c.in_ok-apex.apex ≡ apexes_after_load c.args.zone.now.apex c.self.inside.apexes.items = rw (c.deref-2.ensures.value, c.apex.ensures) at c.in_ok-apex.ensures in
    let apexes : c.push_apex.new.apexes.items ≡ apexes_after_load c.args.zone.now.apex c.self.inside.apexes.items = c.push_apex.ensures ∙ (λ i. c.in_ok-reserve.ensures.items i ++ option_to_list c.in_ok-apex.apex) ∙ added in
    rw (← c.self.view_is) (edited-with (load c.args.zone.now) c.self.inside.apexes.items c.push_apex.new.apexes.items c.self.inside.records c.replace_within.new.self c.self.inside.max_records c.self.inside.looks (Ok c.in_ok-changed.changed) c.records.ensures.zone c.self.invariant.consistent (rw (c.deref.ensures.value, c.as_slice-records.ensures.value) at c.in_ok-check_load.ensures) (subst (λ records. IsReplaced records c.self.inside.records c.replace_within.new.self (Ok c.in_ok-changed.changed)) (λ i. records_outside (c.apex-2.ensures i) c.self.inside.records.records ++ c.records.ensures.value i) (subst (λ (state : IndexedState). IsReplaced (records_outside c.apex-2.result.now state.records ++ c.records.result.now) state c.replace_within.new.self (Ok c.in_ok-changed.changed)) c.as_slice-records.follows.holds-at-none c.in_ok-changed.ensures)) tt apexes tt)

pub returns-in_err-changed : goal.returns-in_err-changed
returns-in_err-changed c =
    let p = err_from_is_err_and c.from_residual-in_err-changed.result c.from_residual-in_err-changed.ensures.1 in
    let accepted = rw (c.deref.ensures.value, c.as_slice-records.ensures.value) at c.in_ok-check_load.ensures in
    rw (p.1, p.2, ← c.self.view_is) (edited-with (load c.args.zone.now) c.self.inside.apexes.items c.reserve.new.self.items c.self.inside.records c.replace_within.new.self c.self.inside.max_records c.self.inside.looks (Err c.in_err-changed.field-0.0) c.records.ensures.zone c.self.invariant.consistent accepted (subst (λ records. IsReplaced records c.self.inside.records c.replace_within.new.self (Err c.in_err-changed.field-0.0)) (λ i. records_outside (c.apex-2.ensures i) c.self.inside.records.records ++ c.records.ensures.value i) (subst (λ (state : IndexedState). IsReplaced (records_outside c.apex-2.result.now state.records ++ c.records.result.now) state c.replace_within.new.self (Err c.in_err-changed.field-0.0)) c.as_slice-records.follows.holds-at-none c.in_err-changed.ensures)) (λ memory. accepted) tt c.in_ok-reserve.ensures.items)
