use Rattle.std.proofs.Common.{ℕ, ◌+◌, List, get_or, refl, sym, ap, subst, ◌∙◌, arith}
use Rattle.std.specs.Prelude.{vec_capacity}
use Rattle.sipl_book.specs.Entries.{EntryState}
use Rattle.sipl_book.specs.Indexed.{IndexedState}
use Rattle.sipl_book.proofs.Becoming.{AreAdded-refl, AreTouched, AreTouched-yes, AreTouched-no, added-length, any_default, some_current, touched-all}
use Rattle.sipl_book.proofs.outdating.outdate_candidates.Goals as goal
use Rattle.sipl_book.proofs.outdating.outdate_candidates.Goals.{then-outdate, else-outdate}

pub loop-id-init : goal.loop-id-init
loop-id-init c =
    (record { order = c.requires.order; change = refl; rest = c.requires.all; added = AreAdded-refl c.args.entries.now.entries c.args.ids.now.items }, refl, refl)

pub push_reserved-requires : goal.push_reserved-requires
push_reserved-requires c =
    let so = c.loop-id.invariant.0 in
    let some = some_current _ c.args.key.now c.loop-id.entries.entries so.order (sym c.outdate.ensures.needs ∙ c.if-outdate.true) in
    let all = added-length c.args.entries.now.entries c.loop-id.entries.entries c.args.ids.now.items c.loop-id.ids.items so.added in
    omega (arith, some, all, c.requires.space, c.loop-id.invariant.2)

pub loop-id-preserved : goal.loop-id-preserved
loop-id-preserved c =
    let key = c.args.key.now in
    let first = c.args.entries.now.entries in
    let old = c.args.ids.now.items in
    let i = c.loop-id.id-index in
    let es = c.loop-id.entries.entries in
    let ids = c.loop-id.ids.items in
    let candidates = c.args.candidates.now in
    let so = c.loop-id.invariant.0 in
    let id = get_or candidates i 0 in
    let at = any_default candidates i 0 id c.loop-id-test.true in
    let after = ap (λ (s : IndexedState). s.entries) c.outdate.ensures.after in
    let room = ap (λ (s : IndexedState). s.room) c.outdate.ensures.after ∙ c.loop-id.invariant.1 in
    elim c.if-outdate.branch [
      | then-outdate w ↦ (
        subst (λ (p : List EntryState × List ℕ). AreTouched candidates key first old (i + 1) p.0 p.1)
            (λ j. (sym after j, sym (ap (λ v. v.items) w.ids-is ∙ w.push_reserved.ensures.items) j))
            (AreTouched-yes candidates key first old i es ids id c.loop-id-test.true at so (sym c.outdate.ensures.needs ∙ w.if-outdate.true)),
        room,
        ap (λ v. vec_capacity v) w.ids-is ∙ w.push_reserved.ensures.capacity ∙ c.loop-id.invariant.2,
      )
      | else-outdate w ↦ (
        subst (λ (p : List EntryState × List ℕ). AreTouched candidates key first old (i + 1) p.0 p.1)
            (λ j. (sym after j, sym (ap (λ v. v.items) w.ids-is) j))
            (AreTouched-no candidates key first old i es ids id c.loop-id-test.true at so (sym c.outdate.ensures.needs ∙ w.if-outdate.false)),
        room,
        ap (λ v. vec_capacity v) w.ids-is ∙ c.loop-id.invariant.2,
      )
    ]

pub returns-clause-after : goal.returns-clause-after
returns-clause-after c =
    let all = touched-all c.args.candidates.now c.args.key.now c.args.entries.now.entries c.args.ids.now.items c.loop-id.id-index c.loop-id.entries.entries c.loop-id.ids.items
    (omega (arith, c.loop-id-test.false)) c.loop-id.invariant.0 in
    λ j. record { entries = all j; room = c.loop-id.invariant.1 j }
