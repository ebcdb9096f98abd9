use Rattle.std.proofs.Common.{sym}
use Rattle.sipl_plans.specs.Readings.{contents_in}
use Rattle.sipl_plans.proofs.AnswersRead.{all-aliases-read}
use Rattle.sipl_plans.proofs.Outcomes.{leads}
use Rattle.sipl_plans.proofs.reading.answer.Goals as goal

pub returns-clause-answer : goal.returns-clause-answer
returns-clause-answer g c =
    leads c.answer_within.result (contents_in c.answer_within.new.evidence) _ _ c.answer_within.new.evidence c.answer_within.new.sets
    (sym (all-aliases-read g.S.Sets.source c.args.name.now c.args.kind c.args.evidence.now c.args.sets.now))
    c.answer_within.ensures.answer
