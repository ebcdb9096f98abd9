use Rattle.std.proofs.Common.{◌||◌, ap, sym, ◌∙◌}
use Rattle.indexmap.specs.IndexSet.{contains}
use Rattle.sipl_names.specs.Labels.{same_name}
use Rattle.sipl_zonestore.specs.BareOwners.{is_name}
use Rattle.sipl_zonestore.proofs.BareOwners.{bare-step, name-more}
use Rattle.sipl_zonestore.proofs.bare_owners.bare_owners.Goals as goal
use Rattle.sipl_zonestore.proofs.bare_owners.bare_owners.Goals.{in-Some+in_ok-insert, in_default}

pub loop-record-preserved : goal.loop-record-preserved
loop-record-preserved c =
    let step = bare-step c.args.records.now c.loop-record.record-index c.record-item.result c.in_ok-owner.field-0 (contains same_name c.loop-record.owners) (contains same_name c.match-branch-2.owners) c.loop-record-test.true c.record-item.is c.in_ok-owner.ensures c.loop-record.invariant in
    elim c.match-branch-2.branch [
      | in-Some+in_ok-insert w ↦ step (λ name.
          ap (λ owners. contains same_name owners name) w.owners-is
          ∙ name-more w.in-Some.owner name (contains same_name c.loop-record.owners name) (contains same_name w.insert.new.self name) (w.in_ok-insert.ensures.updates.0 name)
          ∙ ap (λ own. is_name name own || contains same_name c.loop-record.owners name) (sym w.in-Some.is))
      | in_default w ↦ step (λ name.
          ap (λ owners. contains same_name owners name) w.owners-is
          ∙ ap (λ own. is_name name own || contains same_name c.loop-record.owners name) (sym w.in_default.is))
    ]
