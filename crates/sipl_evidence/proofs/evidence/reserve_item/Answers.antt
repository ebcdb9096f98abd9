use Rattle.std.proofs.Common.{length, ap, ◌∙◌, arith}
use Rattle.sipl_evidence.specs.Places.{place_of}
use Rattle.sipl_evidence.proofs.Placing.{evidence-few}
use Rattle.sipl_evidence.proofs.evidence.reserve_item.Goals as goal

pub returns-then-len-lt-MAX_SEARCHED-clause-ok : goal.returns-then-len-lt-MAX_SEARCHED-clause-ok
returns-then-len-lt-MAX_SEARCHED-clause-ok c = λ item same.
    let items = c.args.items.now.items in
    let len = ap length c.reserve_one.ensures.items in
    evidence-few items item _ c.requires.evidence.distinct (ap (place_of items) same ∙ c.requires.new)
    (omega (arith, len, c.len-len.ensures, c.if-len-lt-MAX_SEARCHED.true))
