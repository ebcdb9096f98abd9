use Rattle.std.proofs.Common.{◌≡◌, ◌++◌, ap, ◌∙◌}
use Rattle.std.specs.Map.{keys_of}
use Rattle.sipl_names.specs.Labels.{is_within}
use Rattle.sipl_records.proofs.Public.{filter-all}
use Rattle.sipl_zonestore.specs.Changes.{existing_names}
use Rattle.sipl_zonestore.specs.Loading.{existence_changed}
use Rattle.sipl_zonestore.proofs.NameTables.{text-names}
use Rattle.sipl_zonestore.proofs.existence.changed_by_load.Goals as goal

pub returns-clause-keys : goal.returns-clause-keys
returns-clause-keys c =
    let names = c.args.names.now.entries in
    let old = c.in_ok-old.old.entries in
    let new = c.in_ok-new.new.entries in
    let new_are : keys_of new ≡ existing_names c.args.text.now = c.in_ok-new.ensures.keys ∙ ap existing_names (filter-all (λ r. is_within r.owner c.args.apex.now) c.args.text.now c.requires.within) in
    c.from_vec-keys.ensures ∙ c.in_ok-push_replaced.ensures
    ∙ (λ i. c.args.keys.items ++ existence_changed names old new (c.in_ok-old.ensures.keys i) (new_are i))

pub returns-clause-new : goal.returns-clause-new
returns-clause-new c = text-names c.args.apex.now c.args.text.now c.in_ok-new.new.entries c.requires.within c.in_ok-new.ensures.counts
