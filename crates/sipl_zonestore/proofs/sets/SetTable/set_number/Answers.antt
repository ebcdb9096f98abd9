use Rattle.std.proofs.Common.{◌≡◌, List, not, if◌then◌else◌, Some, refl, sym, ap, subst, ◌∙◌}
use Rattle.indexmap.specs.IndexMap.{set_value_at}
use Rattle.sipl_records.specs.declared.data.Data.{Data}
use Rattle.sipl_records.specs.declared.record.Key.{Key}
use Rattle.sipl_records.specs.Sets.{same_key}
use Rattle.sipl_zonestore.specs.Numbers.{is_empty}
use Rattle.sipl_zonestore.specs.Content.{Content, renumbered, with_number}
use Rattle.sipl_zonestore.specs.SetTable.{OwnerTable, content_of, has_no_data, held, set_at}
use Rattle.sipl_zonestore.proofs.OwnerPlaces.{entry-at, updated-at}
use Rattle.sipl_zonestore.proofs.OwnerSets.{data-same, held-with_set}
use Rattle.sipl_zonestore.proofs.SetTables.{becomes-found, content-is, content-none, content-stays, content-updated, data-found, data-updated, length-empty, Becomes}
use Rattle.sipl_zonestore.proofs.sets.SetTable.set_number.Goals as goal

pub returns-in_default-clause-found : goal.returns-in_default-clause-found
returns-in_default-clause-found c =
    ap (λ (content : Content). not (is_empty content.values)) (sym (content-none c.self.inside.owners.entries c.args.owner.now c.args.kind (sym c.in_default.ensures.none)) ∙ ap (λ owners. content_of owners (record { name = c.args.owner.now; kind = c.args.kind })) c.self.view_is)

pub returns-in_default-clause-numbered : goal.returns-in_default-clause-numbered
returns-in_default-clause-numbered c = λ key.
    content-stays (renumbered c.args.number) c.args.self.now c.args.owner.now c.args.kind (sym (ap (λ owners. content_of owners (record { name = c.args.owner.now; kind = c.args.kind })) c.self.view_is) ∙ content-none c.self.inside.owners.entries c.args.owner.now c.args.kind (sym c.in_default.ensures.none)) refl key

pub invariant_of-self : goal.invariant_of-self
invariant_of-self c =
    let es = c.self.inside.owners.entries in
    let sets = c.pair_mut-sets.result.1.now in
    let written = c.set_number.new.self in
    let at = c.in-Some.ensures.found in
    data-updated es (set_value_at es c.in-Some.place written) c.args.owner.now (Some written)
    (updated-at c.self.inside.owners c.args.owner.now c.in-Some.place written c.pair_mut-sets.ensures.unique at) c.self.invariant
    (ap has_no_data c.set_number.ensures ∙ data-same c.args.kind (with_number c.args.number (set_at c.args.kind sets)) sets refl ∙ data-found es c.args.owner.now sets c.self.invariant (entry-at es c.args.owner.now c.in-Some.place (c.pair_mut-sets.result.0.now, sets) at c.pair_mut-sets.ensures.value))

pub returns-clause-found : goal.returns-clause-found
returns-clause-found c =
    let es = c.self.inside.owners.entries in
    let sets = c.pair_mut-sets.result.1.now in
    ap not (c.is_empty.ensures ∙ length-empty c.get.result.1.now)
    ∙ ap (λ (values : List Data). not (is_empty values)) (c.get.ensures.values ∙ ap (λ (set : Content). set.values) (ap (held c.args.kind) c.set_number.ensures ∙ held-with_set c.args.kind (with_number c.args.number (set_at c.args.kind sets)) sets))
    ∙ ap (λ (content : Content). not (is_empty content.values)) (sym (content-is es c.args.owner.now c.args.kind sets (entry-at es c.args.owner.now c.in-Some.place (c.pair_mut-sets.result.0.now, sets) c.in-Some.ensures.found c.pair_mut-sets.ensures.value)) ∙ ap (λ owners. content_of owners (record { name = c.args.owner.now; kind = c.args.kind })) c.self.view_is)

pub returns-clause-numbered : goal.returns-clause-numbered
returns-clause-numbered c =
    let es = c.self.inside.owners.entries in
    let sets = c.pair_mut-sets.result.1.now in
    let written = c.set_number.new.self in
    let at = c.in-Some.ensures.found in
    let new = set_value_at es c.in-Some.place written in
    subst (λ (owners : OwnerTable). (key : Key) → content_of new key ≡ (if same_key (record { name = c.args.owner.now; kind = c.args.kind }) key then renumbered c.args.number (content_of owners key) else content_of owners key)) c.self.view_is
    (content-updated (renumbered c.args.number) es new c.args.owner.now c.args.kind (Some written)
    (updated-at c.self.inside.owners c.args.owner.now c.in-Some.place written c.pair_mut-sets.ensures.unique at)
    (subst (λ sets. Becomes (renumbered c.args.number) es c.args.owner.now c.args.kind (Some sets)) (sym c.set_number.ensures) (becomes-found (renumbered c.args.number) (with_number c.args.number) es c.args.owner.now c.args.kind sets (λ set. refl) (entry-at es c.args.owner.now c.in-Some.place (c.pair_mut-sets.result.0.now, sets) at c.pair_mut-sets.ensures.value))))
