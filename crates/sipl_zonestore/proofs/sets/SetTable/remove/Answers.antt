use Rattle.std.proofs.Common.{◌≡◌, IsSome, true, if◌then◌else◌, Some, None, refl, sym, ap, subst, ◌∙◌}
use Rattle.sipl_records.specs.declared.record.Key.{Key}
use Rattle.sipl_records.specs.Sets.{same_key}
use Rattle.sipl_zonestore.specs.Content.{data_without, without}
use Rattle.sipl_zonestore.specs.SetTable.{OwnerTable, content_of, has_no_data, set_at, with_set}
use Rattle.sipl_zonestore.proofs.Contents.{carried_without}
use Rattle.sipl_zonestore.proofs.SetTables.{Becomes, becomes-found, becomes-gone, content-none, content-stays, content-updated, data-updated, updated-gone}
use Rattle.sipl_zonestore.proofs.sets.SetTable.remove.Goals as goal

pub returns-in_default : goal.returns-in_default
returns-in_default c = λ key.
    ap (λ owners. content_of owners key) (ap (λ m. m.entries) c.get_mut.follows.holds-at-none ∙ c.self.view_is)
    ∙ content-stays (without c.args.value.now) c.args.self.now c.args.owner.now c.args.kind (sym (ap (λ owners. content_of owners (record { name = c.args.owner.now; kind = c.args.kind })) c.self.view_is) ∙ content-none c.self.inside.owners.entries c.args.owner.now c.args.kind c.in_default.ensures.value) refl key

pub invariant_of-self-then-is_empty : goal.invariant_of-self-then-is_empty
invariant_of-self-then-is_empty c =
    let written = c.remove.new.self in
    let es = c.self.inside.owners.entries in
    let between = (c.get_mut.follows.lender written).entries in
    data-updated es c.swap_remove-removed.new.self.entries c.args.owner.now None
    (updated-gone es between c.swap_remove-removed.new.self.entries c.args.owner.now (Some written) ((c.get_mut.follows.holds written).3 (subst IsSome c.in-Some.ensures.value refl)).0 c.swap_remove-removed.ensures.updates.0)
    c.self.invariant tt

pub invariant_of-self-else-is_empty : goal.invariant_of-self-else-is_empty
invariant_of-self-else-is_empty c =
    let written = c.remove.new.self in
    data-updated c.self.inside.owners.entries (c.get_mut.follows.lender written).entries c.args.owner.now (Some written)
    ((c.get_mut.follows.holds written).3 (subst IsSome c.in-Some.ensures.value refl)).0 c.self.invariant (sym c.is_empty.ensures ∙ c.if-is_empty.false)

pub returns-then-is_empty : goal.returns-then-is_empty
returns-then-is_empty c =
    let written = c.remove.new.self in
    let es = c.self.inside.owners.entries in
    let between = (c.get_mut.follows.lender written).entries in
    let new = c.swap_remove-removed.new.self.entries in
    let empty : has_no_data (with_set c.args.kind (data_without c.args.value.now (set_at c.args.kind c.in-Some.sets.now)) c.in-Some.sets.now) ≡ true = ap has_no_data (sym c.remove.ensures) ∙ sym c.is_empty.ensures ∙ c.if-is_empty.true in
    subst (λ (owners : OwnerTable). (key : Key) → content_of new key ≡ (if same_key (record { name = c.args.owner.now; kind = c.args.kind }) key then without c.args.value.now (content_of owners key) else content_of owners key)) c.self.view_is
    (content-updated (without c.args.value.now) es new c.args.owner.now c.args.kind None
    (updated-gone es between new c.args.owner.now (Some written) ((c.get_mut.follows.holds written).3 (subst IsSome c.in-Some.ensures.value refl)).0 c.swap_remove-removed.ensures.updates.0)
    (becomes-gone (without c.args.value.now) (data_without c.args.value.now) es c.args.owner.now c.args.kind c.in-Some.sets.now (carried_without c.args.value.now) c.in-Some.ensures.value empty))

pub returns-else-is_empty : goal.returns-else-is_empty
returns-else-is_empty c =
    let written = c.remove.new.self in
    let new = (c.get_mut.follows.lender written).entries in
    subst (λ (owners : OwnerTable). (key : Key) → content_of new key ≡ (if same_key (record { name = c.args.owner.now; kind = c.args.kind }) key then without c.args.value.now (content_of owners key) else content_of owners key)) c.self.view_is
    (content-updated (without c.args.value.now) c.self.inside.owners.entries new c.args.owner.now c.args.kind (Some written)
    ((c.get_mut.follows.holds written).3 (subst IsSome c.in-Some.ensures.value refl)).0
    (subst (λ sets. Becomes (without c.args.value.now) c.self.inside.owners.entries c.args.owner.now c.args.kind (Some sets)) (sym c.remove.ensures) (becomes-found (without c.args.value.now) (data_without c.args.value.now) c.self.inside.owners.entries c.args.owner.now c.args.kind c.in-Some.sets.now (carried_without c.args.value.now) c.in-Some.ensures.value)))
