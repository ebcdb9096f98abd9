use Rattle.sipl_evidence.proofs.reach.+reach_from.Given as goal

abbrev pub decreases-reach_from : goal.decreases-reach_from
decreases-reach_from l = l.place.left
