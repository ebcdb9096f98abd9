use Rattle.std.proofs.Common.{◌≡◌, ◌≤◌, length, ap, ◌∙◌, arith}
use Rattle.sipl_names.specs.Labels.{is_within}
use Rattle.sipl_names.proofs.Within.{within_step, within_end, is_within-suffix}
use Rattle.sipl_names.proofs.name.Name.is_within.Goals as goal
use Rattle.sipl_names.proofs.name.Name.is_within.Goals.{in-Some+then-rest-suffix, in_default, After-eq}

pub loop-tail-preserved : goal.loop-tail-preserved
loop-tail-preserved c = record {
  wire = c.in-Some.ensures.rest;
  within = within_step _ _ _ _ _ _ _ c.loop-tail.invariant.within c.loop-tail.invariant.wire c.in-Some.ensures.labels c.as_slice-suffix.ensures.value c.apex.invariant.exact c.apex.view_is (omega arith);
}

short : (c : After-eq) → length c.loop-tail.rest.now ≤ length c.as_slice-suffix.result.now
short c = elim c.match-split_label.branch [ in-Some+then-rest-suffix w ↦ omega arith | in_default w ↦ let none = ap length w.in_default.ensures.none in omega arith ]

value : (c : After-eq) → c.eq.result ≡ is_within c.args.self.now c.args.apex.now
value c = c.eq.ensures ∙ within_end _ _ _ _ _ c.loop-tail.invariant.within c.loop-tail.invariant.wire c.as_slice-suffix.ensures.value c.apex.invariant.exact c.apex.view_is (short c)

pub returns-clause-value : goal.returns-clause-value
returns-clause-value c = value c

pub returns-clause-suffix : goal.returns-clause-suffix
returns-clause-suffix c = rw (value c) (is_within-suffix c.args.self.now c.args.apex.now)
