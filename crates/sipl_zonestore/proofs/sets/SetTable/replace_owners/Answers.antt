use Rattle.std.proofs.Common.{◌≡◌, false, None, if◌then◌else◌, ap, ◌∙◌}
use Rattle.std.specs.Map.{lookup}
use Rattle.indexmap.specs.IndexSet.{contains}
use Rattle.sipl_names.specs.Labels.{same_name}
use Rattle.sipl_records.specs.declared.record.Key.{Key}
use Rattle.sipl_zonestore.specs.Content.{no_content}
use Rattle.sipl_zonestore.specs.SetTable.{OwnerTable, content_of}
use Rattle.sipl_zonestore.proofs.SetTables.{AreReplaced, content-replaced, data-replaced}
use Rattle.sipl_zonestore.proofs.sets.SetTable.replace_owners.Goals as goal

pub invariant_of-self-2 : goal.invariant_of-self-2
invariant_of-self-2 c =
    let inserts = rw c.unwrap.ensures at c.append.ensures.inserts in
    let is : AreReplaced (contains same_name c.args.names.now) c.self.inside.owners.entries c.remove_owners.new.owners.entries c.text.inside.owners.entries c.append.new.self.entries =
    record {
      distinct = c.len.ensures.unique;
      left = λ name. c.remove_owners.ensures.left name ∙ ap (λ (es : OwnerTable). if contains same_name c.args.names.now name then None else lookup (same_name name) es) c.in_ok-reserve.ensures.entries;
      found = inserts.0;
    }
    in
    data-replaced (contains same_name c.args.names.now) c.self.inside.owners.entries c.remove_owners.new.owners.entries c.text.inside.owners.entries c.append.new.self.entries is c.self.invariant c.text.invariant

pub returns-clause-replaced : goal.returns-clause-replaced
returns-clause-replaced c =
    let inserts = rw c.unwrap.ensures at c.append.ensures.inserts in
    let is : AreReplaced (contains same_name c.args.names.now) c.self.inside.owners.entries c.remove_owners.new.owners.entries c.text.inside.owners.entries c.append.new.self.entries =
    record {
      distinct = c.len.ensures.unique;
      left = λ name. c.remove_owners.ensures.left name ∙ ap (λ (es : OwnerTable). if contains same_name c.args.names.now name then None else lookup (same_name name) es) c.in_ok-reserve.ensures.entries;
      found = inserts.0;
    }
    in
    let none : (key : Key) → contains same_name c.args.names.now key.name ≡ false → content_of c.text.inside.owners.entries key ≡ no_content = λ key outside. ap (λ (owners : OwnerTable). content_of owners key) c.text.view_is ∙ c.requires key outside in
    λ key.
    content-replaced (contains same_name c.args.names.now) c.self.inside.owners.entries c.remove_owners.new.owners.entries c.text.inside.owners.entries c.append.new.self.entries is c.text.invariant none key
    ∙ (λ i. if contains same_name c.args.names.now key.name then content_of (c.text.view_is i) key else content_of (c.self.view_is i) key)
