use Rattle.std.proofs.Common.{◌+◌, Some, sym, ap, ◌∙◌}
use Rattle.sipl_records.proofs.Groups.{rest_whole}
use Rattle.sipl_records.proofs.Ipv6Groups.{before_zeros-more, zeros_found}
use Rattle.sipl_records.proofs.address6.split_at_zeros.Goals as goal

pub returns-then-starts_with-clause-before : goal.returns-then-starts_with-clause-before
returns-then-starts_with-clause-before c =
    (zeros_found c.args.text.now c.loop-at.at c.loop-at.invariant c.loop-at-test.true (sym c.starts_with.ensures.value ∙ c.if-starts_with.true)).0

pub returns-then-starts_with-clause-after : goal.returns-then-starts_with-clause-after
returns-then-starts_with-clause-after c =
    ap (λ t. Some t) (rest_whole c.args.text.now (c.loop-at.at + 2)) ∙ (zeros_found c.args.text.now c.loop-at.at c.loop-at.invariant c.loop-at-test.true (sym c.starts_with.ensures.value ∙ c.if-starts_with.true)).1

pub loop-at-preserved : goal.loop-at-preserved
loop-at-preserved c =
    before_zeros-more c.args.text.now c.loop-at.at c.loop-at.invariant c.loop-at-test.true (sym c.starts_with.ensures.value ∙ c.if-starts_with.false)
