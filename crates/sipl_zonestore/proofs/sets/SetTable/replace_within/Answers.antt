use Rattle.std.proofs.Common.{◌≡◌, not, false, if◌then◌else◌, ap, ◌∙◌, rules}
use Rattle.std.specs.List.{filter}
use Rattle.indexmap.proofs.CallerLemmas.{filter-RetainsPairs}
use Rattle.sipl_names.specs.Labels.{Labels, is_within}
use Rattle.sipl_records.specs.declared.record.Key.{Key}
use Rattle.sipl_zonestore.specs.Content.{no_content}
use Rattle.sipl_zonestore.specs.SetTable.{OwnerTable, content_of}
use Rattle.sipl_zonestore.specs.SetTable.{OwnerSets}
use Rattle.sipl_zonestore.proofs.SetTables.{AreReplaced, content-replaced, data-replaced, left-filter}
use Rattle.sipl_zonestore.proofs.sets.SetTable.replace_within.Goals as goal

pub invariant_of-self-2 : goal.invariant_of-self-2
invariant_of-self-2 c =
    let kept : c.retain.new.self.entries ≡ filter (λ (e : Labels × OwnerSets). not (is_within e.0 c.args.apex.now)) c.reserve.new.self.entries = filter-RetainsPairs _ (λ (e : Labels × OwnerSets). not (is_within e.0 c.args.apex.now)) _ (λ k v b w g call. search rules) _ _ c.retain.ensures.filtered in
    let inserts = rw c.unwrap.ensures at c.append.ensures.inserts in
    let is : AreReplaced (λ name. is_within name c.args.apex.now) c.self.inside.owners.entries c.retain.new.self.entries c.text.inside.owners.entries c.append.new.self.entries =
    record {
      distinct = c.len.ensures.unique;
      left = left-filter (λ name. is_within name c.args.apex.now) c.self.inside.owners.entries c.retain.new.self.entries (kept ∙ ap (filter (λ (e : Labels × OwnerSets). not (is_within e.0 c.args.apex.now))) c.in_ok-reserve.ensures.entries);
      found = inserts.0;
    }
    in
    data-replaced (λ name. is_within name c.args.apex.now) c.self.inside.owners.entries c.retain.new.self.entries c.text.inside.owners.entries c.append.new.self.entries is c.self.invariant c.text.invariant

pub returns-clause-replaced : goal.returns-clause-replaced
returns-clause-replaced c =
    let kept : c.retain.new.self.entries ≡ filter (λ (e : Labels × OwnerSets). not (is_within e.0 c.args.apex.now)) c.reserve.new.self.entries = filter-RetainsPairs _ (λ (e : Labels × OwnerSets). not (is_within e.0 c.args.apex.now)) _ (λ k v b w g call. search rules) _ _ c.retain.ensures.filtered in
    let inserts = rw c.unwrap.ensures at c.append.ensures.inserts in
    let is : AreReplaced (λ name. is_within name c.args.apex.now) c.self.inside.owners.entries c.retain.new.self.entries c.text.inside.owners.entries c.append.new.self.entries =
    record {
      distinct = c.len.ensures.unique;
      left = left-filter (λ name. is_within name c.args.apex.now) c.self.inside.owners.entries c.retain.new.self.entries (kept ∙ ap (filter (λ (e : Labels × OwnerSets). not (is_within e.0 c.args.apex.now))) c.in_ok-reserve.ensures.entries);
      found = inserts.0;
    }
    in
    let none : (key : Key) → is_within key.name c.args.apex.now ≡ false → content_of c.text.inside.owners.entries key ≡ no_content = λ key outside. ap (λ (owners : OwnerTable). content_of owners key) c.text.view_is ∙ c.requires key outside in
    λ key.
    content-replaced (λ name. is_within name c.args.apex.now) c.self.inside.owners.entries c.retain.new.self.entries c.text.inside.owners.entries c.append.new.self.entries is c.text.invariant none key
    ∙ (λ i. if is_within key.name c.args.apex.now then content_of (c.text.view_is i) key else content_of (c.self.view_is i) key)
