use Rattle.std.proofs.Common.{◌<◌, length, ap, sym, ◌∙◌, arith, take}
use Rattle.indexmap.specs.IndexSet.{contains}
use Rattle.sipl_names.specs.Labels.{is_within, same_name}
use Rattle.sipl_records.specs.declared.record.Record.{Record}
use Rattle.sipl_zonestore.proofs.DifferingRecords.{besides-gone, besides-grown, besides-next, more-owner, own-owner, within-owner}
use Rattle.sipl_zonestore.proofs.Elements.{all-at}
use Rattle.sipl_zonestore.proofs.differences.pass_both.Goals as goal

pub returns-then-place-text-clause-same : goal.returns-then-place-text-clause-same
returns-then-place-text-clause-same c =
    let old = contains same_name c.args.owners.now in
    let new = contains same_name c.add_owner.new.owners in
    λ before same.
    besides-gone new before c.args.old.now (own-owner c.args.old.now.owner old new c.in_ok-add_owner.ensures)
    ∙ besides-grown old new (more-owner c.args.old.now.owner old new c.in_ok-add_owner.ensures) before (take c.args.place c.args.text.now) same

pub returns-then-place-text-clause-within : goal.returns-then-place-text-clause-within
returns-then-place-text-clause-within c = λ apex all inside within.
    within-owner apex c.args.old.now.owner (contains same_name c.args.owners.now) (contains same_name c.add_owner.new.owners) c.in_ok-add_owner.ensures inside within

pub returns-clause-same : goal.returns-clause-same
returns-clause-same c =
    let old = contains same_name c.args.owners.now in
    let between = contains same_name c.add_owner.new.owners in
    let new = contains same_name c.add_owner-2.new.owners in
    let inside : c.args.place < length c.args.text.now = omega (arith, c.if-place-text.false) in
    λ before same.
    besides-gone new before c.args.old.now (more-owner c.index-text-place.result.owner between new c.in_ok-add_owner-2.ensures c.args.old.now.owner (own-owner c.args.old.now.owner old between c.in_ok-add_owner.ensures))
    ∙ besides-grown between new (more-owner c.index-text-place.result.owner between new c.in_ok-add_owner-2.ensures) before (take c.args.place c.args.text.now) (besides-grown old between (more-owner c.args.old.now.owner old between c.in_ok-add_owner.ensures) before (take c.args.place c.args.text.now) same)
    ∙ sym (besides-next new c.args.text.now c.args.place c.index-text-place.result inside c.index-text-place.is (own-owner c.index-text-place.result.owner between new c.in_ok-add_owner-2.ensures))

pub returns-clause-within : goal.returns-clause-within
returns-clause-within c =
    let old = contains same_name c.args.owners.now in
    let between = contains same_name c.add_owner.new.owners in
    let new = contains same_name c.add_owner-2.new.owners in
    let fits : c.args.place < length c.args.text.now = omega (arith, c.if-place-text.false) in
    λ apex all inside within.
    within-owner apex c.index-text-place.result.owner between new c.in_ok-add_owner-2.ensures (ap (λ (s : Record). is_within s.owner apex) c.index-text-place.is ∙ all-at (λ (s : Record). is_within s.owner apex) c.args.text.now c.args.place c.index-text-place.result fits all) (within-owner apex c.args.old.now.owner old between c.in_ok-add_owner.ensures inside within)
