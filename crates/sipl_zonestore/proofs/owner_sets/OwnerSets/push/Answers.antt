use Rattle.std.proofs.Common.{◌≡◌, None, [], ◌∷◌, ◌++◌, refl, sym, ap, ◌∙◌}
use Rattle.std.specs.List.{position}
use Rattle.indexmap.proofs.MapLemmas.{OnOk-map}
use Rattle.sipl_records.specs.Sets.{same_kind}
use Rattle.sipl_zonestore.specs.Content.{no_content, pushed}
use Rattle.sipl_zonestore.specs.SetTable.{has_kinds_once, set_at, with_set}
use Rattle.sipl_zonestore.proofs.OwnerSets.{add-none, at-none, at-place, once-with_set, write-place}
use Rattle.sipl_zonestore.proofs.owner_sets.OwnerSets.push.Goals as goal

pub invariant_of-self : goal.invariant_of-self
invariant_of-self c =
    ap has_kinds_once (write-place c.args.kind c.push.new.self c.self.inside.sets.items c.in-Some.place c.index_mut.result.now (sym c.in-Some.is ∙ c.place.ensures ∙ ap (position (λ own. same_kind own.kind c.args.kind)) (sym c.self.view_is)) c.index_mut.ensures.value)
    ∙ once-with_set c.args.kind c.push.new.self c.self.inside.sets.items c.self.invariant

pub returns-in-Some-clause-pushed : goal.returns-in-Some-clause-pushed
returns-in-Some-clause-pushed c =
    let own : set_at c.args.kind c.self.inside.sets.items ≡ c.index_mut.result.now.set = at-place c.args.kind c.self.inside.sets.items c.in-Some.place c.index_mut.result.now (sym c.in-Some.is ∙ c.place.ensures ∙ ap (position (λ own. same_kind own.kind c.args.kind)) (sym c.self.view_is)) c.index_mut.ensures.value in
    OnOk-map c.push.result _ _ (λ is.
    write-place c.args.kind c.push.new.self c.self.inside.sets.items c.in-Some.place c.index_mut.result.now (sym c.in-Some.is ∙ c.place.ensures ∙ ap (position (λ own. same_kind own.kind c.args.kind)) (sym c.self.view_is)) c.index_mut.ensures.value
    ∙ (λ i. with_set c.args.kind ((is ∙ ap (pushed c.args.number c.args.value) (sym own ∙ ap (set_at c.args.kind) c.self.view_is)) i) (c.self.view_is i)))
    c.push.ensures.pushed

pub invariant_of-self-2 : goal.invariant_of-self-2
invariant_of-self-2 c =
    let none : None ≡ position (λ own. same_kind own.kind c.args.kind) c.self.inside.sets.items = sym c.in_default.is ∙ c.place.ensures ∙ ap (position (λ own. same_kind own.kind c.args.kind)) (sym c.self.view_is) in
    let set : c.push-2.new.self ≡ pushed c.args.number c.args.value no_content = c.in_ok-push.ensures.pushed ∙ ap (pushed c.args.number c.args.value) c.new-set.ensures in
    let made : c.push_reserved.new.self.items ≡ with_set c.args.kind (pushed c.args.number c.args.value no_content) c.self.inside.sets.items =
    c.push_reserved.ensures.items ∙ (λ i. c.in_ok-reserve_exact.ensures.items i ++ record { kind = c.args.kind; set = set i } ∷ [])
    ∙ add-none c.args.kind (pushed c.args.number c.args.value no_content) c.self.inside.sets.items none refl
    in
    ap has_kinds_once made
    ∙ once-with_set c.args.kind (pushed c.args.number c.args.value no_content) c.self.inside.sets.items c.self.invariant

pub returns-clause-pushed : goal.returns-clause-pushed
returns-clause-pushed c =
    let none : None ≡ position (λ own. same_kind own.kind c.args.kind) c.self.inside.sets.items = sym c.in_default.is ∙ c.place.ensures ∙ ap (position (λ own. same_kind own.kind c.args.kind)) (sym c.self.view_is) in
    let set : c.push-2.new.self ≡ pushed c.args.number c.args.value no_content = c.in_ok-push.ensures.pushed ∙ ap (pushed c.args.number c.args.value) c.new-set.ensures in
    let made : c.push_reserved.new.self.items ≡ with_set c.args.kind (pushed c.args.number c.args.value no_content) c.self.inside.sets.items =
    c.push_reserved.ensures.items ∙ (λ i. c.in_ok-reserve_exact.ensures.items i ++ record { kind = c.args.kind; set = set i } ∷ [])
    ∙ add-none c.args.kind (pushed c.args.number c.args.value no_content) c.self.inside.sets.items none refl
    in
    let nothing : set_at c.args.kind c.self.inside.sets.items ≡ no_content = at-none c.args.kind c.self.inside.sets.items none in
    made ∙ (λ i. with_set c.args.kind (pushed c.args.number c.args.value ((sym nothing ∙ ap (set_at c.args.kind) c.self.view_is) i)) (c.self.view_is i))
