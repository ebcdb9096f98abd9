use Rattle.std.proofs.Common.{◌≡◌, not, rules}
use Rattle.std.specs.List.{filter}
use Rattle.std.proofs.lemmas.Fn.{filter_same}
use Rattle.indexmap.specs.IndexSet.{contains}
use Rattle.sipl_names.specs.Labels.{Labels, same_name, is_within}
use Rattle.sipl_zonestore.proofs.BareOwners.{names-replaced}
use Rattle.sipl_zonestore.proofs.bare_owners.replace_owners.Goals as goal

pub returns : goal.returns
returns c =
    let kept : c.retain.new.self.keys ≡ filter (λ (owner : Labels). not (is_within owner c.args.apex.now)) c.args.owners.now.keys = filter_same _ (λ (owner : Labels). not (is_within owner c.args.apex.now)) _ (λ x b f k. search rules) _ _ c.retain.ensures.filtered in
    let inserts = rw c.unwrap.ensures at c.append.ensures.inserts in
    λ name.
    names-replaced c.args.apex.now c.args.owners.now.keys c.retain.new.self.keys c.args.text.keys name (contains same_name c.append.new.self name) kept (inserts.0 name)
