use Rattle.std.proofs.Common.{◌++◌, ap, ◌∙◌, length}
use Rattle.std.proofs.lemmas.Result.{err_from_is_err_and}
use Rattle.sipl_zonestore.specs.Changes.{existing_names}
use Rattle.sipl_zonestore.specs.Loading.{existence_changed}
use Rattle.sipl_zonestore.specs.Store.{records_within}
use Rattle.sipl_zonestore.proofs.loaded_tables.loaded_tables.Goals as goal

pub returns-in_err-sets : goal.returns-in_err-sets
returns-in_err-sets c =
    let p = err_from_is_err_and c.from_residual-in_err-sets.result c.from_residual-in_err-sets.ensures.1 in
    rw (p.1, p.2) record { sets = tt; count = tt; last = tt; keys = tt; counted = tt; old = tt; new = tt; bare = tt; refused = c.in_err-sets.ensures.refused }

pub returns-clause-keys : goal.returns-clause-keys
returns-clause-keys c =
    rw c.in_ok-new.ensures.ok (c.in_ok-names.ensures.keys ∙ ap (λ keys. keys ++ existence_changed c.args.names.now.entries c.in_ok-names.names.old.entries c.in_ok-names.names.new.entries (existing_names (records_within c.args.apex.now c.args.records.now)) (existing_names c.args.text.now)) c.in_ok-sets.ensures.keys)

pub returns-clause-counted : goal.returns-clause-counted
returns-clause-counted c =
    rw c.in_ok-new.ensures.ok (c.in_ok-names.ensures.sets ∙ ap length c.in_ok-sets.ensures.keys)
