use Rattle.std.proofs.Common.{◌≡◌, false, true, sym, ap, subst, ◌∙◌, arith}
use Rattle.std.specs.List.{All}
use Rattle.std.proofs.lemmas.List.{take_all}
use Rattle.std.proofs.lemmas.List.Elements.{All-more}
use Rattle.sipl_evidence.specs.Items.{Item}
use Rattle.sipl_zonestore.specs.Looks.{looked}
use Rattle.sipl_zonestore.specs.Store.{Store}
use Rattle.sipl_book.specs.Calls.{after_looks, is_stale}
use Rattle.sipl_book.proofs.Staleness.{compared-all, compared-first, looked_once, position-first, position-none}
use Rattle.sipl_book.proofs.checks.first_stale.Goals as goal

pub returns-then-is_stale-clause-place : goal.returns-then-is_stale-clause-place
returns-then-is_stale-clause-place c =
    let here = c.index-items-place.result in
    let stale : is_stale c.args.store.now here ≡ true =
    ap (λ (s : Store). is_stale s here) (sym c.loop-place.invariant.looks) ∙ sym c.if-is_stale.ensures.stale in
    sym (position-first (is_stale c.args.store.now) c.args.items.now c.loop-place.place here (omega arith) c.index-items-place.is c.loop-place.invariant.fresh stale)

pub returns-then-is_stale-clause-looks : goal.returns-then-is_stale-clause-looks
returns-then-is_stale-clause-looks c =
    let here = c.index-items-place.result in
    let store = c.args.store.now in
    let items = c.args.items.now in
    let stale : is_stale store here ≡ true =
    ap (λ (s : Store). is_stale s here) (sym c.loop-place.invariant.looks) ∙ sym c.if-is_stale.ensures.stale in
    let first = position-first (is_stale store) items c.loop-place.place here (omega arith) c.index-items-place.is c.loop-place.invariant.fresh stale in
    c.if-is_stale.ensures.looks ∙ ap looked c.loop-place.invariant.looks ∙ looked_once c.loop-place.place store
    ∙ ap (λ n. after_looks n store) (sym (compared-first store items c.loop-place.place first))

pub loop-place-preserved : goal.loop-place-preserved
loop-place-preserved c =
    let here = c.index-items-place.result in
    let fresh : is_stale c.args.store.now here ≡ false =
    ap (λ (s : Store). is_stale s here) (sym c.loop-place.invariant.looks) ∙ sym c.if-is_stale.ensures.stale in
    record {
      looks = c.is_stale.ensures.looks ∙ ap looked c.loop-place.invariant.looks ∙ looked_once c.loop-place.place c.args.store.now;
      fresh = All-more (λ (item : Item). is_stale c.args.store.now item ≡ false) c.args.items.now c.loop-place.place here (omega arith) c.loop-place.invariant.fresh
          (ap (is_stale c.args.store.now) (sym c.index-items-place.is) ∙ fresh);
    }

pub returns-clause-place : goal.returns-clause-place
returns-clause-place c =
    let store = c.args.store.now in
    let items = c.args.items.now in
    let Fresh : Item → Type 0 = λ item. is_stale store item ≡ false in
    sym (position-none (is_stale store) items (subst (All Fresh) (take_all c.loop-place.place items c.loop-place-test.false) c.loop-place.invariant.fresh))

pub returns-clause-looks : goal.returns-clause-looks
returns-clause-looks c =
    let store = c.args.store.now in
    let items = c.args.items.now in
    let Fresh : Item → Type 0 = λ item. is_stale store item ≡ false in
    let none = position-none (is_stale store) items (subst (All Fresh) (take_all c.loop-place.place items c.loop-place-test.false) c.loop-place.invariant.fresh) in
    c.loop-place.invariant.looks ∙ ap (λ n. after_looks n store) (omega (arith, compared-all store items none))
