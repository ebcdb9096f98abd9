use Rattle.std.proofs.Common.{◌-◌, ap, subst, ◌∙◌}
use Rattle.sipl_evidence.specs.Answers.{max_ancestors}
use Rattle.sipl_evidence.specs.Known.{advance}
use Rattle.sipl_evidence.specs.WalkPlaces.{IsLeg, place_asking}
use Rattle.sipl_evidence.specs.Walks.{asking_from}
use Rattle.sipl_evidence.specs.declared.walk_place.Stage.TheVariants.{Set}
use Rattle.sipl_evidence.proofs.AliasAnswers.{asking_within-is}
use Rattle.sipl_evidence.proofs.Legs.{IfOk-weaken, IsReach-same}
use Rattle.sipl_evidence.proofs.reach.+reach_from.Goals as goal

pub returns-in-Target-clause-reach : goal.returns-in-Target-clause-reach
returns-in-Target-clause-reach t c =
    let items = c.args.evidence.now in
    let kind = c.args.kind in
    let asking = place_asking c.args.place kind in
    let left = c.args.place.left - 1 in
    let target = c.in-Target.target.now in
    let leg = subst (IsLeg items asking c.args.place.left kind) c.in-Target.is c.in_ok-set.ensures.leg in
    let same = leg.1 ∙ ap (advance items) (asking_within-is max_ancestors left target kind) in
    IfOk-weaken c.reach_from.result _ _ (IsReach-same items asking (asking_from Set left kind target) same kind) c.reach_from.ensures.reach
