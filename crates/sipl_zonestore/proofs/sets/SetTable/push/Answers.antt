use Rattle.std.proofs.Common.{◌≡◌, cond, if◌then◌else◌, Some, ap, sym, subst, ◌∙◌}
use Rattle.std.specs.Map.{lookup}
use Rattle.indexmap.proofs.MapLemmas.{OnOk-map}
use Rattle.indexmap.specs.IndexMap.{set_value_at}
use Rattle.sipl_names.specs.Labels.{same_name}
use Rattle.sipl_records.specs.declared.record.Key.{Key}
use Rattle.sipl_records.specs.Sets.{same_key}
use Rattle.sipl_zonestore.specs.Content.{pushed}
use Rattle.sipl_zonestore.specs.SetTable.{OwnerTable, content_of, has_no_data, no_sets, set_at, with_set}
use Rattle.sipl_zonestore.proofs.Contents.{carried_pushed, is_empty-push}
use Rattle.sipl_zonestore.proofs.OwnerPlaces.{entry-at, set_value_at-same, updated-at}
use Rattle.sipl_zonestore.proofs.OwnerSets.{data-with_set}
use Rattle.sipl_zonestore.proofs.SetTables.{Becomes, OnErr-map, becomes-found, becomes-new, content-updated, data-found, data-updated, filled-push}
use Rattle.sipl_zonestore.proofs.sets.SetTable.push.Goals as goal

pub invariant_of-self : goal.invariant_of-self
invariant_of-self c =
    let es = c.self.inside.owners.entries in
    let sets = c.pair_mut-sets.result.1.now in
    let written = c.push.new.self in
    let at = c.in-Some.ensures.found in
    data-updated es (set_value_at es c.in-Some.place written) c.args.owner.now (Some written)
    (updated-at c.self.inside.owners c.args.owner.now c.in-Some.place written c.pair_mut-sets.ensures.unique at) c.self.invariant
    (filled-push c.push.result c.args.kind sets written c.args.number c.args.value c.push.ensures.pushed c.push.ensures.unchanged (data-found es c.args.owner.now sets c.self.invariant (entry-at es c.args.owner.now c.in-Some.place (c.pair_mut-sets.result.0.now, sets) at c.pair_mut-sets.ensures.value)))

pub returns-in-Some-clause-pushed : goal.returns-in-Some-clause-pushed
returns-in-Some-clause-pushed c =
    let es = c.self.inside.owners.entries in
    let sets = c.pair_mut-sets.result.1.now in
    let written = c.push.new.self in
    let at = c.in-Some.ensures.found in
    let new = set_value_at es c.in-Some.place written in
    OnOk-map c.push.result _ _ (λ is.
    subst (λ (owners : OwnerTable). (key : Key) → content_of new key ≡ (if same_key (record { name = c.args.owner.now; kind = c.args.kind }) key then pushed c.args.number c.args.value (content_of owners key) else content_of owners key)) c.self.view_is
    (content-updated (pushed c.args.number c.args.value) es new c.args.owner.now c.args.kind (Some written)
    (updated-at c.self.inside.owners c.args.owner.now c.in-Some.place written c.pair_mut-sets.ensures.unique at)
    (subst (λ sets. Becomes (pushed c.args.number c.args.value) es c.args.owner.now c.args.kind (Some sets)) (sym is) (becomes-found (pushed c.args.number c.args.value) (pushed c.args.number c.args.value) es c.args.owner.now c.args.kind sets (carried_pushed c.args.number c.args.value) (entry-at es c.args.owner.now c.in-Some.place (c.pair_mut-sets.result.0.now, sets) at c.pair_mut-sets.ensures.value)))))
    c.push.ensures.pushed

pub returns-in-Some-clause-unchanged : goal.returns-in-Some-clause-unchanged
returns-in-Some-clause-unchanged c =
    let es = c.self.inside.owners.entries in
    OnErr-map c.push.result _ _ (λ is.
    ap (set_value_at es c.in-Some.place) is
    ∙ set_value_at-same es c.in-Some.place (c.pair_mut-sets.result.0.now, c.pair_mut-sets.result.1.now) c.pair_mut-sets.ensures.value ∙ c.self.view_is)
    c.push.ensures.unchanged

pub invariant_of-self-2 : goal.invariant_of-self-2
invariant_of-self-2 c =
    let es = c.self.inside.owners.entries in
    let made : c.in_ok-sets.sets ≡ with_set c.args.kind (pushed c.args.number c.args.value (set_at c.args.kind no_sets)) no_sets = c.in_ok-sets.ensures in
    data-updated es c.insert.new.self.entries c.args.owner.now (Some c.in_ok-sets.sets)
    (λ other. c.in_ok-insert.ensures.updates.0 other ∙ (λ i. cond (same_name (c.in_ok-name.ensures.value i) other) (Some c.in_ok-sets.sets) (lookup (same_name other) es))) c.self.invariant
    (ap has_no_data made ∙ data-with_set c.args.kind (pushed c.args.number c.args.value (set_at c.args.kind no_sets)) no_sets (is_empty-push (set_at c.args.kind no_sets).values c.args.value))

pub returns-clause-pushed : goal.returns-clause-pushed
returns-clause-pushed c =
    let es = c.self.inside.owners.entries in
    let made : c.in_ok-sets.sets ≡ with_set c.args.kind (pushed c.args.number c.args.value (set_at c.args.kind no_sets)) no_sets = c.in_ok-sets.ensures in
    let new = c.insert.new.self.entries in
    subst (λ (owners : OwnerTable). (key : Key) → content_of new key ≡ (if same_key (record { name = c.args.owner.now; kind = c.args.kind }) key then pushed c.args.number c.args.value (content_of owners key) else content_of owners key)) c.self.view_is
    (content-updated (pushed c.args.number c.args.value) es new c.args.owner.now c.args.kind (Some c.in_ok-sets.sets)
    (λ other. c.in_ok-insert.ensures.updates.0 other ∙ (λ i. cond (same_name (c.in_ok-name.ensures.value i) other) (Some c.in_ok-sets.sets) (lookup (same_name other) es)))
    (subst (λ sets. Becomes (pushed c.args.number c.args.value) es c.args.owner.now c.args.kind (Some sets)) (sym made) (becomes-new (pushed c.args.number c.args.value) (pushed c.args.number c.args.value) es c.args.owner.now c.args.kind (carried_pushed c.args.number c.args.value) (sym c.in_default.ensures.none))))
