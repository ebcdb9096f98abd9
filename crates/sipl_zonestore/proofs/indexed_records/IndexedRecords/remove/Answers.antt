use Rattle.std.proofs.Common.{◌≡◌, ◌+◌, ◌-◌, refl, ap, sym, ◌∙◌}
use Rattle.std.proofs.lemmas.Result.{err_from_is_err_and}
use Rattle.indexmap.specs.IndexSet.{contains}
use Rattle.std.specs.List.{count_by, list_any}
use Rattle.sipl_names.specs.Labels.{same_name}
use Rattle.sipl_records.specs.Sets.{data_of}
use Rattle.sipl_zonestore.specs.BareOwners.{is_bare_at}
use Rattle.sipl_zonestore.specs.Edits.{records_without}
use Rattle.sipl_zonestore.specs.Changes.{changed_names, with_ancestors}
use Rattle.sipl_zonestore.specs.NameTable.{count_at, count_within}
use Rattle.sipl_zonestore.proofs.NameTables.{names-remove}
use Rattle.sipl_zonestore.proofs.CountedNames.{left-names}
use Rattle.sipl_zonestore.proofs.BareOwners.{bare-removed}
use Rattle.sipl_zonestore.proofs.Recorded.{enough-remove, taken_out, removed-sets, refused, refused-remove}
use Rattle.sipl_zonestore.proofs.Editing.{if_memory}
use Rattle.sipl_zonestore.proofs.indexed_records.IndexedRecords.remove.Goals as goal

pub invariant_of-self : goal.invariant_of-self
invariant_of-self c =
    record {
      has_sets = λ key. removed-sets c.self.inside.records.records c.args.old.now c.self.inside.next c.self.inside.sets c.remove_from_set.new.sets c.self.invariant.has_sets c.remove_from_set.ensures key ∙ ap (λ rs. data_of rs key) (sym c.remove.ensures);
      has_bare = λ name.
          bare-removed c.self.inside.records.records c.args.old.now (contains same_name c.self.inside.bare) (contains same_name c.remove_owner.new.owners) c.self.invariant.has_bare c.remove_owner.ensures name
          ∙ ap (λ rs. list_any (is_bare_at name) rs) (sym c.remove.ensures);
      has_names = λ name.
          names-remove c.self.inside.records.records c.args.old.now c.self.inside.names.entries c.count_out.new.names.entries c.self.invariant.has_names (rw (← c.self.view_is) at c.requires.distinct) (rw (← c.self.view_is) at c.requires.present) (λ name. c.count_out.ensures name ∙ ap (λ names. count_at c.self.inside.names.entries name - count_by (λ other. same_name other name) names) (ap with_ancestors c.in_ok-owner.ensures.value)) name
          ∙ ap (λ rs. count_within rs name) (sym c.remove.ensures);
      lent = c.self.invariant.lent;
      last = c.in_ok-check_numbers.ensures;
    }

pub returns-clause-replaced : goal.returns-clause-replaced
returns-clause-replaced c =
    let owners = c.in_ok-owners.owners in
    let names : c.deref.result.now ≡ changed_names c.self.inside.records.records (records_without c.args.old.now c.self.inside.records.records) = c.deref.ensures.value ∙ left-names c.self.inside.names.entries c.self.inside.records.records c.args.old.now owners.counted.items owners.rest c.self.invariant.has_names (rw (← c.self.view_is) at c.requires.distinct) (rw (← c.self.view_is) at c.requires.present) (c.in_ok-owners.ensures.whole ∙ ap with_ancestors c.in_ok-owner.ensures.value) c.in_ok-owners.ensures.counted c.in_ok-owners.ensures.rest in
    rw (← c.self.view_is) (taken_out c.self.inside.records.records c.remove.new.self.records c.args.old.now c.self.inside.next _ c.self.inside.sets c.remove_from_set.new.sets c.in_ok-changed.changed c.deref.result.now c.self.invariant.has_sets (rw (← c.self.view_is) at c.requires.present) c.remove_from_set.ensures c.remove.ensures c.in_ok-changed.ensures.keys names c.in_ok-changed.ensures.sets (ap (λ n. c.self.inside.next + n) c.removed_count-count.ensures) c.in_ok-check_numbers.ensures)

pub returns-in_err-check_numbers-clause-replaced : goal.returns-in_err-check_numbers-clause-replaced
returns-in_err-check_numbers-clause-replaced c =
    let p = err_from_is_err_and c.from_residual.result c.from_residual.ensures.1 in
    rw (p.1, p.2, ← c.self.view_is) (refused (records_without c.args.old.now c.self.inside.records.records) _ _ c.in_err-check_numbers.field-0.0 (λ some. refused-remove c.self.inside.records.records c.args.old.now c.self.inside.next c.removed_count-count.result c.self.inside.sets c.in_err-check_numbers.field-0.0 c.self.invariant.has_sets (rw (← c.self.view_is) at c.requires.present) c.removed_count-count.ensures c.in_err-check_numbers.ensures.0 c.in_err-check_numbers.ensures.1) refl)

pub returns-in_err-owner-clause-memory : goal.returns-in_err-owner-clause-memory
returns-in_err-owner-clause-memory c =
    if_memory _ (rw (← c.self.view_is) (enough-remove c.self.inside.records.records c.args.old.now c.self.inside.next c.removed_count-count.result c.self.inside.sets c.self.invariant.has_sets (rw (← c.self.view_is) at c.requires.present) c.removed_count-count.ensures c.in_ok-check_numbers.ensures))

pub returns-in_err-owners-clause-memory : goal.returns-in_err-owners-clause-memory
returns-in_err-owners-clause-memory c =
    if_memory _ (rw (← c.self.view_is) (enough-remove c.self.inside.records.records c.args.old.now c.self.inside.next c.removed_count-count.result c.self.inside.sets c.self.invariant.has_sets (rw (← c.self.view_is) at c.requires.present) c.removed_count-count.ensures c.in_ok-check_numbers.ensures))

pub returns-in_err-changed-clause-memory : goal.returns-in_err-changed-clause-memory
returns-in_err-changed-clause-memory c =
    if_memory _ (rw (← c.self.view_is) (enough-remove c.self.inside.records.records c.args.old.now c.self.inside.next c.removed_count-count.result c.self.inside.sets c.self.invariant.has_sets (rw (← c.self.view_is) at c.requires.present) c.removed_count-count.ensures c.in_ok-check_numbers.ensures))
