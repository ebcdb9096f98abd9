use Rattle.std.proofs.Common.{◌≡◌, true, false, not, is_some, ap, sym, refl, ◌∙◌}
use Rattle.sipl_evidence.specs.Places.{place_of}
use Rattle.sipl_evidence.proofs.Placing.{is_unknown-place, no_place}
use Rattle.sipl_evidence.proofs.evidence.Evidence.push.Goals as goal

pub returns-then-is_some-clause-already : goal.returns-then-is_some-clause-already
returns-then-is_some-clause-already c =
    let found = ap (place_of c.args.self.now) (sym c.key.ensures.key) ∙ sym c.find.ensures.place in
    (λ _. is_unknown-place c.args.self.now c.args.item.key ∙ ap (λ o. not (is_some o)) found ∙ ap not (sym c.is_some.ensures ∙ c.if-is_some.true), λ _. refl)

pub returns-in-Err-clause-already : goal.returns-in-Err-clause-already
returns-in-Err-clause-already c =
    let found = ap (place_of c.args.self.now) (sym c.key.ensures.key) ∙ sym c.find.ensures.place in
    let unknown = is_unknown-place c.args.self.now c.args.item.key ∙ ap (λ o. not (is_some o)) found ∙ ap not (sym c.is_some.ensures ∙ c.if-is_some.false) in
    let memory = c.from-fault.ensures in
    (λ e. cc, λ e. let never : true ≡ false = sym unknown ∙ e in cc)

pub reserve_item-requires : goal.reserve_item-requires
reserve_item-requires c =
    let items = c.self.inside.items.items in
    let found = ap (place_of items) (sym c.key.ensures.key) ∙ ap (λ xs. place_of xs c.key.result.now) c.self.view_is ∙ sym c.find.ensures.place in
    let none = found ∙ no_place c.find.result (sym c.is_some.ensures ∙ c.if-is_some.false) in
    record { evidence = c.self.invariant; new = ap (place_of items) c.key-key.ensures.key ∙ none }

pub invariant_of-self-2 : goal.invariant_of-self-2
invariant_of-self-2 c =
    rw (c.push_reserved.ensures.items, c.in_default.ensures.items) (c.in_default.ensures.ok c.args.item (sym c.key-key.ensures.key))

pub returns-clause-accepted : goal.returns-clause-accepted
returns-clause-accepted c =
    let found = ap (place_of c.args.self.now) (sym c.key.ensures.key) ∙ sym c.find.ensures.place in
    is_unknown-place c.args.self.now c.args.item.key ∙ ap (λ o. not (is_some o)) found ∙ ap not (sym c.is_some.ensures ∙ c.if-is_some.false)
