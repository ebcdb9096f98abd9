use Rattle.sipl_plans.proofs.reading.+answer_within.Given as goal

abbrev pub decreases-answer_within : goal.decreases-answer_within
decreases-answer_within g l = l.left
