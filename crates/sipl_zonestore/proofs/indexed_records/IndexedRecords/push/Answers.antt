use Rattle.std.proofs.Common.{◌≡◌, ◌++◌, ◌∷◌, [], ◌||◌, ◌+◌, ◌<◌, true, Option, IfSome, length, is_some, refl, ap, sym, subst, ◌∙◌, arith, length-append}
use Rattle.std.specs.List.{count_by, list_any}
use mir.Val.{bool_byte}
use Rattle.std.proofs.lemmas.Result.{err_from_is_err_and}
use Rattle.indexmap.specs.IndexSet.{contains}
use Rattle.sipl_names.specs.Labels.{Labels, is_within, same_name}
use Rattle.sipl_records.specs.Sets.{data_of}
use Rattle.sipl_zonestore.specs.BareOwners.{is_bare_at, is_name}
use Rattle.sipl_zonestore.specs.Changes.{changed_names, with_ancestors}
use Rattle.sipl_zonestore.specs.NameTable.{NameTable, ancestors_from, count_at, count_within}
use Rattle.sipl_zonestore.proofs.AncestorCounts.{count-limit, count-owner}
use Rattle.sipl_zonestore.proofs.NameTables.{names-add}
use Rattle.sipl_zonestore.proofs.CountedNames.{absent-names, rest-exists}
use Rattle.sipl_zonestore.proofs.BareOwners.{bare-added, owner-fits}
use Rattle.sipl_zonestore.proofs.Recorded.{added, enough-add, pushed-sets, refused, refused-add}
use Rattle.sipl_zonestore.specs.SetTable.{numbers_of}
use Rattle.sipl_zonestore.specs.declared.fault.StoreFault.TheVariants.{Memory}
use Rattle.sipl_zonestore.proofs.Editing.{if_memory}
use Rattle.sipl_zonestore.proofs.indexed_records.IndexedRecords.push.Goals as goal

pub insert_owner-requires : goal.insert_owner-requires
insert_owner-requires c =
    let asked : c.deref.result.now.bare ≡ c.in_ok-addition.addition.value.bare = (λ i. (c.deref.ensures i).bare) in
    let put : c.into_inner-record.result.bare ≡ c.in_ok-addition.addition.value.bare = (λ i. (c.into_inner-record.ensures i).bare) in
    owner-fits c.into_inner-record.result.bare c.from.result _ (c.from.ensures ∙ ap bool_byte (c.is_some.ensures ∙ ap is_some (asked ∙ sym put))) c.in_ok-reserve.ensures.bare_space

pub invariant_of-self-2 : goal.invariant_of-self-2
invariant_of-self-2 c = record {
  has_sets = λ key. pushed-sets c.self.inside.records.records c.args.new.now c.self.inside.next c.self.inside.sets c.push_to_set.new.sets c.self.invariant.has_sets c.in_ok-push_to_set.ensures.content key ∙ ap (λ rs. data_of rs key) (sym (c.push_reserved.ensures ∙ (λ i. c.in_ok-reserve.ensures.records i ++ ((λ j. (c.into_inner-record.ensures j).record) ∙ c.in_ok-addition.ensures.record) i ∷ [])));
  has_bare = λ name.
      bare-added c.self.inside.records.records c.args.new.now c.into_inner-record.result.bare (contains same_name c.self.inside.bare) (contains same_name c.insert_owner.new.owners) (λ name. (λ i. is_name name (c.into_inner-record.ensures i).bare) ∙ c.in_ok-addition.ensures.bare name) c.self.invariant.has_bare (λ name. c.insert_owner.ensures name ∙ ap (λ keys. is_name name c.into_inner-record.result.bare || list_any (same_name name) keys) c.in_ok-reserve.ensures.bare) name
      ∙ ap (λ rs. list_any (is_bare_at name) rs) (sym (c.push_reserved.ensures ∙ (λ i. c.in_ok-reserve.ensures.records i ++ ((λ j. (c.into_inner-record.ensures j).record) ∙ c.in_ok-addition.ensures.record) i ∷ [])));
  has_names = λ name.
      names-add c.self.inside.records.records c.args.new.now c.self.inside.names.entries c.count_owner.new.names.entries c.self.invariant.has_names (λ name. c.count_owner.ensures name ∙ (λ i. count_at (c.in_ok-reserve.ensures.names i) name + count_by (λ other. same_name other name) (((λ j. (c.into_inner-record.ensures j).owners.counted.items ++ ancestors_from (c.into_inner-record.ensures j).owners.rest) ∙ c.in_ok-addition.ensures.owners) i))) name
      ∙ ap (λ rs. count_within rs name) (sym (c.push_reserved.ensures ∙ (λ i. c.in_ok-reserve.ensures.records i ++ ((λ j. (c.into_inner-record.ensures j).record) ∙ c.in_ok-addition.ensures.record) i ∷ [])));
  lent = c.self.invariant.lent;
  last = c.in_ok-check_numbers.ensures;
}

pub returns-clause-replaced : goal.returns-clause-replaced
returns-clause-replaced c =
    let owners = c.in_ok-addition.addition.value.owners in
    let names : owners.counted.items ≡ changed_names c.self.inside.records.records (c.self.inside.records.records ++ c.args.new.now ∷ []) = absent-names c.self.inside.names.entries c.self.inside.records.records c.args.new.now owners.counted.items owners.rest c.self.invariant.has_names c.in_ok-addition.ensures.owners c.in_ok-addition.ensures.counted c.in_ok-addition.ensures.rest in
    rw (← c.self.view_is) (added c.self.inside.records.records c.push_reserved.new.self.records c.args.new.now c.self.inside.next _ c.self.inside.sets c.push_to_set.new.sets c.into_inner-record.result.changed owners.counted.items c.self.invariant.has_sets c.in_ok-push_to_set.ensures.content (c.push_reserved.ensures ∙ (λ i. c.in_ok-reserve.ensures.records i ++ ((λ j. (c.into_inner-record.ensures j).record) ∙ c.in_ok-addition.ensures.record) i ∷ [])) ((λ i. (c.into_inner-record.ensures i).changed.keys) ∙ c.in_ok-addition.ensures.keys) names ((λ i. (c.into_inner-record.ensures i).changed.sets) ∙ c.in_ok-addition.ensures.sets) (ap (λ n. c.self.inside.next + n) c.added_count-count.ensures) c.in_ok-check_numbers.ensures)

pub returns-in_err-check_numbers-clause-replaced : goal.returns-in_err-check_numbers-clause-replaced
returns-in_err-check_numbers-clause-replaced c =
    let p = err_from_is_err_and c.from_residual.result c.from_residual.ensures.1 in
    rw (p.1, p.2, ← c.self.view_is) (refused (c.self.inside.records.records ++ c.args.new.now ∷ []) _ _ c.in_err-check_numbers.field-0.0 (λ some. refused-add c.self.inside.records.records c.args.new.now c.self.inside.next c.added_count-count.result c.in_err-check_numbers.field-0.0 c.added_count-count.ensures c.in_err-check_numbers.ensures.0 c.in_err-check_numbers.ensures.1) refl)

pub returns-in_err-addition-clause-memory : goal.returns-in_err-addition-clause-memory
returns-in_err-addition-clause-memory c =
    if_memory _ (rw (← c.self.view_is) (enough-add c.self.inside.records.records c.args.new.now c.self.inside.next c.added_count-count.result c.added_count-count.ensures c.in_ok-check_numbers.ensures))

pub returns-in_err-reserve-clause-memory : goal.returns-in_err-reserve-clause-memory
returns-in_err-reserve-clause-memory c =
    if_memory _ (rw (← c.self.view_is) (enough-add c.self.inside.records.records c.args.new.now c.self.inside.next c.added_count-count.result c.added_count-count.ensures c.in_ok-check_numbers.ensures))

pub returns-in_err-push_to_set-clause-memory : goal.returns-in_err-push_to_set-clause-memory
returns-in_err-push_to_set-clause-memory c =
    if_memory _ (rw (← c.self.view_is) (enough-add c.self.inside.records.records c.args.new.now c.self.inside.next c.added_count-count.result c.added_count-count.ensures c.in_ok-check_numbers.ensures))

pub returns-in_err-reserve-clause-replaced : goal.returns-in_err-reserve-clause-replaced
returns-in_err-reserve-clause-replaced c =
    let p = err_from_is_err_and c.from_residual-in_err-reserve.result c.from_residual-in_err-reserve.ensures.1 in
    rw (p.1, p.2, ← c.self.view_is) (refused (c.self.inside.records.records ++ c.args.new.now ∷ []) _ _ Memory (λ some. absurd (some refl)) (λ i. record { records = c.in_err-reserve.ensures.records i; numbers = numbers_of c.self.inside.sets; next = c.self.inside.next }))

pub returns-in_err-push_to_set-clause-replaced : goal.returns-in_err-push_to_set-clause-replaced
returns-in_err-push_to_set-clause-replaced c =
    let p = err_from_is_err_and c.from_residual-in_err-push_to_set.result c.from_residual-in_err-push_to_set.ensures.1 in
    rw (p.1, p.2, ← c.self.view_is) (refused (c.self.inside.records.records ++ c.args.new.now ∷ []) _ _ Memory (λ some. absurd (some refl)) (λ i. record { records = c.in_ok-reserve.ensures.records i; numbers = numbers_of (c.in_err-push_to_set.ensures.unchanged i); next = c.self.inside.next }))

pub count_owner-requires-clause-exist : goal.count_owner-requires-clause-exist
count_owner-requires-clause-exist c = λ name.
    let given = rest-exists c.self.inside.names.entries c.self.inside.records.records c.in_ok-addition.addition.value.owners.rest c.self.invariant.has_names c.in_ok-addition.ensures.rest name in
    subst (λ (rest : Option Labels). IfSome rest (λ other. is_within other name ≡ true → 0 < count_at c.reserve.new.names.entries name)) (sym (λ j. (c.into_inner-record.ensures j).owners.rest)) (subst (λ (es : NameTable). IfSome c.in_ok-addition.addition.value.owners.rest (λ other. is_within other name ≡ true → 0 < count_at es name)) (sym c.in_ok-reserve.ensures.names) given)

pub count_owner-requires-clause-fits : goal.count_owner-requires-clause-fits
count_owner-requires-clause-fits c = λ name.
    let held : count_at c.reserve.new.names.entries name ≡ count_within c.self.inside.records.records name = ap (λ (es : NameTable). count_at es name) c.in_ok-reserve.ensures.names ∙ c.self.invariant.has_names name in
    let more : count_by (λ other. same_name other name) (c.into_inner-record.result.owners.counted.items ++ ancestors_from c.into_inner-record.result.owners.rest) ≡ count_by (λ other. same_name other name) (with_ancestors c.args.new.now.owner) = ap (count_by (λ other. same_name other name)) ((λ j. (c.into_inner-record.ensures j).owners.counted.items ++ ancestors_from (c.into_inner-record.ensures j).owners.rest) ∙ c.in_ok-addition.ensures.owners) in
    let whole = count-owner c.self.inside.records.records c.args.new.now name in
    let few = count-limit (c.self.inside.records.records ++ c.args.new.now ∷ []) name in
    omega (arith, held, more, whole, few, length-append c.self.inside.records.records (c.args.new.now ∷ []), ap length c.in_ok-reserve.ensures.records, c.in_ok-reserve.ensures.limit)
