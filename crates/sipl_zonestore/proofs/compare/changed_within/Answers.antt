use Rattle.std.proofs.Common.{◌++◌, ap, sym, ◌∙◌}
use Rattle.sipl_names.specs.Labels.{is_within}
use Rattle.sipl_records.proofs.Public.{filter-all}
use Rattle.sipl_zonestore.specs.Store.{records_within}
use Rattle.sipl_zonestore.specs.Changes.{changed_among}
use Rattle.sipl_zonestore.proofs.ChangedKeys.{changed-load}
use Rattle.sipl_zonestore.proofs.compare.changed_within.Goals as goal

pub returns : goal.returns
returns c =
    c.in_ok-push_added.ensures c.args.apex.now c.args.records.now c.requires.sets c.requires.within (c.in_ok-push_changed.ensures c.args.text.now c.requires.text_sets c.new-keys.ensures.items)
    ∙ ap (λ rs. changed_among c.args.records.now c.args.text.now (records_within c.args.apex.now c.args.records.now ++ rs)) (sym (filter-all (λ r. is_within r.owner c.args.apex.now) c.args.text.now c.requires.within))
    ∙ changed-load c.args.apex.now c.args.records.now c.args.text.now c.requires.within
