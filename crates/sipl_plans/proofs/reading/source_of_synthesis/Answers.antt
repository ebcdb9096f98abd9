use Rattle.std.proofs.Common.{◌≡◌, List, Some, [], length, if◌then◌else◌, ◌∙◌, refl, sym, ap, subst, arith}
use Rattle.sipl_names.specs.Labels.{Labels, IsName, parent_of, wildcard_at, wildcard_beside}
use Rattle.sipl_names.proofs.Public.{labels-at_most_127}
use Rattle.sipl_records.specs.declared.data.Data.{Data}
use Rattle.sipl_evidence.specs.Answers.{at_encloser, max_ancestors}
use Rattle.sipl_evidence.specs.Looks.{Asking, done}
use Rattle.sipl_evidence.proofs.Public.{at_encloser-all, max_ancestors-is}
use Rattle.sipl_plans.specs.Readings.{outcome}
use Rattle.sipl_plans.proofs.AnswersRead.{encloser-ask}
use Rattle.sipl_plans.proofs.Synthesizing.{beside-parent, dropped-parent}
use Rattle.sipl_plans.proofs.reading.source_of_synthesis.Goals as goal

pub returns-then-branch-clause-source : goal.returns-then-branch-clause-source
returns-then-branch-clause-source g c = λ next.
    let absent = at_encloser max_ancestors c.args.name.now (λ encloser. next (wildcard_at encloser)) in
    c.in_ok-exists.ensures.existence (done []) absent
    ∙ ap (λ found. outcome g.S.Sets.source (if found then done [] else absent) c.exists.new.evidence c.exists.new.sets) c.if-branch.true

pub loop-alloc-init : goal.loop-alloc-init
loop-alloc-init g c =
    let name = c.args.name.now in
    let same : c.in_ok-encloser.encloser ≡ name = c.in_ok-encloser.ensures.value in
    let valid : IsName name = subst IsName same c.in_ok-encloser.ensures.limits in
    record {
      below = c.in_ok-below.ensures.value ∙ sym same;
      leads = λ next.
          let absent = at_encloser max_ancestors name next in
          c.in_ok-exists.ensures.existence (done []) absent
          ∙ ap (λ found. outcome g.S.Sets.source (if found then done [] else absent) c.exists.new.evidence c.exists.new.sets) c.if-branch.false
          ∙ ap (λ a. outcome g.S.Sets.source a c.exists.new.evidence c.exists.new.sets) (at_encloser-all max_ancestors name next (omega (arith, labels-at_most_127 name valid, max_ancestors-is)))
          ∙ ap (λ e. outcome g.S.Sets.source (at_encloser (length e) e next) c.exists.new.evidence c.exists.new.sets) (sym same);
      looked = c.exists.ensures.looked;
    }

pub returns-then-branch-2-clause-source : goal.returns-then-branch-2-clause-source
returns-then-branch-2-clause-source g c = λ next.
    let source = g.S.Sets.source in
    let name = c.loop-alloc.encloser in
    let parent = c.pop_label.new.self in
    let is : parent_of name ≡ Some parent = c.loop-alloc-test.ensures.popped refl in
    let at : Labels → Asking (List Data) = λ encloser. next (wildcard_at encloser) in
    let absent = at_encloser (length parent) parent at in
    c.loop-alloc.invariant.leads at
    ∙ ap (λ a. outcome source a c.loop-alloc.evidence c.loop-alloc.sets) (encloser-ask at name parent is)
    ∙ c.in_ok-exists-2.ensures.existence (next (wildcard_at parent)) absent
    ∙ ap (λ found. outcome source (if found then next (wildcard_at parent) else absent) c.exists-in-loop-alloc.new.evidence c.exists-in-loop-alloc.new.sets) c.if-branch-2.true
    ∙ ap (λ w. outcome source (next w) c.exists-in-loop-alloc.new.evidence c.exists-in-loop-alloc.new.sets) (sym (c.in_ok-wildcard.ensures.value ∙ ap wildcard_beside c.loop-alloc.invariant.below ∙ beside-parent name parent is))

pub loop-alloc-preserved : goal.loop-alloc-preserved
loop-alloc-preserved g c =
    let source = g.S.Sets.source in
    let name = c.loop-alloc.encloser in
    let parent = c.pop_label.new.self in
    let is : parent_of name ≡ Some parent = c.loop-alloc-test.ensures.popped refl in
    let same : parent_of c.loop-alloc.below ≡ Some parent = ap parent_of c.loop-alloc.invariant.below ∙ is in
    record {
      below = dropped-parent c.loop-alloc.below parent c.pop_label-in-loop-alloc.new.self c.pop_label-in-loop-alloc.result same c.pop_label-in-loop-alloc.ensures.popped c.pop_label-in-loop-alloc.ensures.root;
      leads = λ next.
          let absent = at_encloser (length parent) parent next in
          c.loop-alloc.invariant.leads next
          ∙ ap (λ a. outcome source a c.loop-alloc.evidence c.loop-alloc.sets) (encloser-ask next name parent is)
          ∙ c.in_ok-exists-2.ensures.existence (next parent) absent
          ∙ ap (λ found. outcome source (if found then next parent else absent) c.exists-in-loop-alloc.new.evidence c.exists-in-loop-alloc.new.sets) c.if-branch-2.false;
      looked = λ start looked. c.exists-in-loop-alloc.ensures.looked start (c.loop-alloc.invariant.looked start looked);
    }

pub returns-clause-source : goal.returns-clause-source
returns-clause-source g c = λ next.
    let root = c.loop-alloc-test.ensures.root refl in
    let at : Labels → Asking (List Data) = λ encloser. next (wildcard_at encloser) in
    c.loop-alloc.invariant.leads at
    ∙ ap (λ e. outcome g.S.Sets.source (at_encloser (length e) e at) c.loop-alloc.evidence c.loop-alloc.sets) root.0
