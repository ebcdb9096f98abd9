use Rattle.std.proofs.Common.{sym, subst}
use Rattle.sipl_evidence.specs.WalkPlaces.{IsReach}
use Rattle.sipl_evidence.specs.Walks.{walk_asking}
use Rattle.sipl_evidence.proofs.Reaching.{answered-known, lacking-known}
use Rattle.sipl_evidence.proofs.walk.Walk.result.Goals as goal

pub returns-in-Answer-clause-answer : goal.returns-in-Answer-clause-answer
returns-in-Answer-clause-answer c =
    let items = c.args.evidence.now in
    let walk = c.args.self.now in
    let reach = subst (IsReach items (walk_asking walk) walk.kind) c.in-Answer.is c.in_ok-set.ensures.reach in
    sym (answered-known items (walk_asking walk) c.in-Answer.set.now reach)

pub returns-in-Lacking-clause-answer : goal.returns-in-Lacking-clause-answer
returns-in-Lacking-clause-answer c =
    let items = c.args.evidence.now in
    let walk = c.args.self.now in
    let reach = subst (IsReach items (walk_asking walk) walk.kind) c.in-Lacking.is c.in_ok-set.ensures.reach in
    sym (lacking-known items (walk_asking walk) c.in-Lacking._place walk.kind reach.0 reach.1)
