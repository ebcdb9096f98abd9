use Rattle.std.proofs.Common.{◌≡◌, ◌≢◌, ◌-◌, true, false, [], ◌⊎◌, inl, inr, ap, sym, ◌∙◌, arith}
use Rattle.sipl_evidence.specs.Answers.{at_encloser, at_name, at_source}
use Rattle.sipl_evidence.specs.Known.{advance}
use Rattle.sipl_evidence.specs.Looks.{done}
use Rattle.sipl_evidence.proofs.Climbing.{climb-absent, climb-end, climb-found, climb-unknown, parent-popped, parent_or_root, wildcard-parent}
use Rattle.sipl_evidence.proofs.Walking.{none_from_length, some_from_length}
use Rattle.sipl_evidence.proofs.reach.climb_from.Goals as goal
use Rattle.sipl_evidence.proofs.reach.climb_from.Goals.{then-loop-more-test+else-not-is_root, else-loop-more-test}

pub returns-in_default-content_at : goal.returns-in_default-content_at
returns-in_default-content_at c = λ next kind.
    let name = c.loop-more.name in
    let some : name ≢ [] = λ at_root. let never : false ≡ true = sym c.if-not-is_root.true ∙ c.is_root.ensures.1 at_root in cc never in
    let unknown = climb-unknown c.args.evidence.now (at_source next kind) c.loop-more.more name c.loop-more.parent c.loop-more-test.true some c.loop-more.invariant.parent (sym c.in_default-content_at.ensures.content) in
    (unknown.0, c.loop-more.invariant.same next kind ∙ unknown.1)

pub returns-then-not-is_empty : goal.returns-then-not-is_empty
returns-then-not-is_empty c = λ next kind.
    let items = c.args.evidence.now in
    let name = c.loop-more.name in
    let parent = c.loop-more.parent in
    let found = c.in-Some-content_at.found.now in
    let some : name ≢ [] = λ at_root. let never : false ≡ true = sym c.if-not-is_root.true ∙ c.is_root.ensures.1 at_root in cc never in
    let there = some_from_length found (sym c.is_empty.ensures ∙ c.if-not-is_empty.true) in
    let wildcard = c.in_ok-wildcard.ensures.value ∙ wildcard-parent name parent some c.loop-more.invariant.parent in
    c.loop-more.invariant.same next kind
    ∙ climb-found items (at_source next kind) c.loop-more.more name parent found c.loop-more-test.true some c.loop-more.invariant.parent (sym c.in-Some-content_at.ensures.content) there
    ∙ ap (λ source. advance items (at_name next kind source (done []))) (sym wildcard)

pub loop-more-preserved : goal.loop-more-preserved
loop-more-preserved c =
    let items = c.args.evidence.now in
    let name = c.loop-more.name in
    let parent = c.loop-more.parent in
    let found = c.in-Some-content_at.found.now in
    let some : name ≢ [] = λ at_root. let never : false ≡ true = sym c.if-not-is_root.true ∙ c.is_root.ensures.1 at_root in cc never in
    let none = none_from_length found (sym c.is_empty.ensures ∙ c.if-not-is_empty.false) in
    let popped = parent-popped name c.pop_label.new.self c.pop_label.result c.pop_label.ensures.popped c.pop_label.ensures.root in
    let is : c.pop_label.new.self ≡ parent = sym popped ∙ c.loop-more.invariant.parent in
    record {
      parent = ap parent_or_root is ∙ parent-popped parent c.pop_label-in-loop-more.new.self c.pop_label-in-loop-more.result c.pop_label-in-loop-more.ensures.popped c.pop_label-in-loop-more.ensures.root;
      same = λ next kind.
          c.loop-more.invariant.same next kind
          ∙ climb-absent items (at_source next kind) c.loop-more.more name parent found c.loop-more-test.true some c.loop-more.invariant.parent (sym c.in-Some-content_at.ensures.content) none
          ∙ ap (λ n. advance items (at_encloser (c.loop-more.more - 1) n (at_source next kind))) (sym is);
    }

pub returns : goal.returns
returns c = λ next kind.
    let items = c.args.evidence.now in
    let end : (c.loop-more.more ≡ 0) ⊎ (c.loop-more.name ≡ []) = elim c.loop-more-test.branch [
      | then-loop-more-test+else-not-is_root w ↦ inr ((w.is_root.ensures).0 w.if-not-is_root.false)
      | else-loop-more-test w ↦ inl (omega (arith, w.loop-more-test.false))
    ] in
    c.loop-more.invariant.same next kind ∙ ap (advance items) (climb-end items (at_source next kind) c.loop-more.more c.loop-more.name end)
