use Rattle.std.proofs.Common.{◌≡◌, None, sym, ap, ◌∙◌}
use Rattle.std.specs.List.{position}
use Rattle.sipl_records.specs.Sets.{same_kind}
use Rattle.sipl_zonestore.specs.Numbers.{is_empty}
use Rattle.sipl_zonestore.specs.Content.{Content, with_number}
use Rattle.sipl_zonestore.specs.SetTable.{has_kinds_once, set_at, with_set}
use Rattle.sipl_zonestore.proofs.OwnerSets.{at-none, at-place, once-with_set, stay-none, write-place}
use Rattle.sipl_zonestore.proofs.owner_sets.OwnerSets.set_number.Goals as goal

pub invariant_of-self : goal.invariant_of-self
invariant_of-self c =
    ap has_kinds_once (write-place c.args.kind c.set_number.new.self c.self.inside.sets.items c.in-Some.place c.index_mut.result.now (sym c.in-Some.is ∙ c.place.ensures ∙ ap (position (λ own. same_kind own.kind c.args.kind)) (sym c.self.view_is)) c.index_mut.ensures.value)
    ∙ once-with_set c.args.kind c.set_number.new.self c.self.inside.sets.items c.self.invariant

pub returns-in-Some : goal.returns-in-Some
returns-in-Some c =
    let own : set_at c.args.kind c.self.inside.sets.items ≡ c.index_mut.result.now.set = at-place c.args.kind c.self.inside.sets.items c.in-Some.place c.index_mut.result.now (sym c.in-Some.is ∙ c.place.ensures ∙ ap (position (λ own. same_kind own.kind c.args.kind)) (sym c.self.view_is)) c.index_mut.ensures.value in
    let new : c.set_number.new.self ≡ with_number c.args.number (set_at c.args.kind c.args.self.now) = c.set_number.ensures ∙ ap (with_number c.args.number) (sym own ∙ ap (set_at c.args.kind) c.self.view_is) in
    write-place c.args.kind c.set_number.new.self c.self.inside.sets.items c.in-Some.place c.index_mut.result.now (sym c.in-Some.is ∙ c.place.ensures ∙ ap (position (λ own. same_kind own.kind c.args.kind)) (sym c.self.view_is)) c.index_mut.ensures.value
    ∙ (λ i. with_set c.args.kind (new i) (c.self.view_is i))

pub returns-in_default : goal.returns-in_default
returns-in_default c =
    let none : None ≡ position (λ own. same_kind own.kind c.args.kind) c.args.self.now = sym c.in_default.is ∙ c.place.ensures in
    stay-none c.args.kind (with_number c.args.number (set_at c.args.kind c.args.self.now)) c.args.self.now none (ap (λ (set : Content). is_empty (with_number c.args.number set).values) (at-none c.args.kind c.args.self.now none))
