use Rattle.std.proofs.Common.{◌≡◌, ◌-◌, ◌||◌, length, ap, sym, ◌∙◌, arith, take, drop}
use Rattle.std.specs.List.{list_any}
use Rattle.std.proofs.lemmas.List.{length-drop, take_all}
use Rattle.indexmap.specs.IndexSet.{contains}
use Rattle.sipl_names.specs.Labels.{Labels, is_within, same_name}
use Rattle.sipl_records.specs.declared.record.Record.{Record}
use Rattle.sipl_zonestore.specs.Differences.{records_besides}
use Rattle.sipl_zonestore.specs.Store.{records_within}
use Rattle.sipl_zonestore.proofs.DifferingRecords.{besides-rest, drop-all, within-rest}
use Rattle.sipl_zonestore.proofs.differences.add_changed_owners.Goals as goal

pub returns : goal.returns
returns c =
    let old = contains same_name c.loop-record.owners in
    let new = contains same_name c.add_owners.new.owners in
    let place = c.loop-record.place in
    let text = c.args.text.now in
    let rest : take (length text - place) (drop place text) ≡ drop place text = take_all (length text - place) (drop place text) (omega (arith, length-drop place text)) in
    let all : take c.loop-record.record-index c.args.records.now ≡ c.args.records.now = take_all c.loop-record.record-index c.args.records.now (omega (arith, c.loop-record-test.false)) in
    let added : (name : Labels) → new name ≡ (list_any (λ r. same_name r.owner name) (drop place text) || old name) = λ name. c.in_ok-add_owners.ensures name ∙ ap (λ rs. list_any (λ r. same_name r.owner name) rs || old name) rest in
    λ all_added. record {
      within = within-rest c.args.apex.now old new (drop place text) added (drop-all (λ (r : Record). is_within r.owner c.args.apex.now) place text c.requires.within) c.loop-record.invariant.within;
      same = besides-rest old new (records_within c.args.apex.now c.args.records.now) text place (ap (λ rs. records_besides old (records_within c.args.apex.now rs)) (sym all) ∙ c.loop-record.invariant.same) added;
    }
