use Rattle.std.proofs.Common.{[], subst}
use Rattle.sipl_evidence.specs.Answers.{at_encloser, at_name, at_source, max_ancestors}
use Rattle.sipl_evidence.specs.Looks.{done}
use Rattle.sipl_evidence.specs.WalkPlaces.{IsClimb}
use Rattle.sipl_evidence.specs.Walks.{next_within}
use Rattle.sipl_evidence.proofs.Legs.{IsLeg-same, ancestor-asks}
use Rattle.sipl_evidence.proofs.reach.ancestor_leg.Goals as goal

pub returns-in-Wildcard : goal.returns-in-Wildcard
returns-in-Wildcard c =
    let items = c.args.evidence.now in
    let kind = c.args.kind in
    let next = next_within max_ancestors c.args.left kind in
    let asking = at_encloser c.args.more c.args.name (at_source next kind) in
    let source = at_name next kind c.in-Wildcard.name (done []) in
    IsLeg-same items asking source (subst (IsClimb items asking next kind) c.in-Wildcard.is (c.in_ok-name.ensures next kind)) c.args.left kind c.source_leg.result c.source_leg.ensures

pub returns-in-Lacking : goal.returns-in-Lacking
returns-in-Lacking c =
    let items = c.args.evidence.now in
    let kind = c.args.kind in
    let next = next_within max_ancestors c.args.left kind in
    let asking = at_encloser c.args.more c.args.name (at_source next kind) in
    let lacking = subst (IsClimb items asking next kind) c.in-Lacking.is (c.in_ok-name.ensures next kind) in
    (ancestor-asks items c.in-Lacking.name c.in-Lacking.more c.args.left kind lacking.0, lacking.1)

pub returns-in-Nothing : goal.returns-in-Nothing
returns-in-Nothing c =
    let kind = c.args.kind in
    let next = next_within max_ancestors c.args.left kind in
    let asking = at_encloser c.args.more c.args.name (at_source next kind) in
    subst (IsClimb c.args.evidence.now asking next kind) c.in-Nothing.is (c.in_ok-name.ensures next kind)
