use Rattle.std.proofs.Common.{◌≡◌, Some, true, false, length, ◌∙◌, refl, sym, ap, subst}
use Rattle.sipl_names.specs.Labels.{IsName, parent_of, wildcard_at, wildcard_beside}
use Rattle.sipl_records.specs.Sets.{exists_in, set_of}
use Rattle.sipl_evidence.specs.Answers.{at_encloser}
use Rattle.sipl_evidence.specs.Looks.{result_of}
use Rattle.sipl_plans.proofs.Synthesizing.{none-exists, all-enclosers, encloser-parent, encloser-above, beside-parent, parent-shorter, dropped-parent}
use Rattle.sipl_plans.proofs.look.source_of_synthesis.Goals as goal

pub returns-then-exists : goal.returns-then-exists
returns-then-exists c = λ next.
    none-exists c.args.records.now (λ encloser. next (wildcard_at encloser)) _ c.args.name.now (sym c.exists.ensures ∙ c.if-exists.true)

pub loop-alloc-init : goal.loop-alloc-init
loop-alloc-init c =
    let name = c.args.name.now in
    let same : c.in_ok-encloser.encloser ≡ name = c.in_ok-encloser.ensures.value in
    let valid : IsName name = subst IsName same c.in_ok-encloser.ensures.limits in
    let absent : exists_in c.args.records.now name ≡ false = sym c.exists.ensures ∙ c.if-exists.false in (
      c.in_ok-below.ensures.value ∙ sym same,
      λ next. all-enclosers c.args.records.now next name valid absent ∙ ap (λ e. result_of (set_of c.args.records.now) (at_encloser (length e) e next)) (sym same),
    )

pub returns-then-exists-2 : goal.returns-then-exists-2
returns-then-exists-2 c = λ next.
    let name = c.loop-alloc.encloser in
    let parent = c.pop_label.new.self in
    let is : parent_of name ≡ Some parent = c.loop-alloc-test.ensures.popped refl in
    let exists : exists_in c.args.records.now parent ≡ true = sym c.exists-in-loop-alloc.ensures ∙ c.if-exists-2.true in
    c.loop-alloc.invariant.1 (λ encloser. next (wildcard_at encloser))
    ∙ encloser-parent c.args.records.now (λ encloser. next (wildcard_at encloser)) name parent is exists
    ∙ ap (λ w. result_of (set_of c.args.records.now) (next w)) (sym (c.in_ok-wildcard.ensures.value ∙ ap wildcard_beside c.loop-alloc.invariant.0 ∙ beside-parent name parent is))

pub loop-alloc-smaller : goal.loop-alloc-smaller
loop-alloc-smaller c =
    parent-shorter c.loop-alloc.encloser c.pop_label.new.self (c.loop-alloc-test.ensures.popped refl)

pub loop-alloc-preserved : goal.loop-alloc-preserved
loop-alloc-preserved c =
    let name = c.loop-alloc.encloser in
    let parent = c.pop_label.new.self in
    let is : parent_of name ≡ Some parent = c.loop-alloc-test.ensures.popped refl in
    let absent : exists_in c.args.records.now parent ≡ false = sym c.exists-in-loop-alloc.ensures ∙ c.if-exists-2.false in
    let same : parent_of c.loop-alloc.below ≡ Some parent = ap parent_of c.loop-alloc.invariant.0 ∙ is in (
      dropped-parent c.loop-alloc.below parent c.pop_label-in-loop-alloc.new.self c.pop_label-in-loop-alloc.result same c.pop_label-in-loop-alloc.ensures.popped c.pop_label-in-loop-alloc.ensures.root,
      λ next. c.loop-alloc.invariant.1 next ∙ encloser-above c.args.records.now next name parent is absent,
    )

pub returns : goal.returns
returns c = λ next.
    let root = c.loop-alloc-test.ensures.root refl in
    c.loop-alloc.invariant.1 (λ encloser. next (wildcard_at encloser))
    ∙ ap (λ e. result_of (set_of c.args.records.now) (at_encloser (length e) e (λ encloser. next (wildcard_at encloser)))) root.0
