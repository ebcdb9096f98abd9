use Rattle.std.proofs.Common.{[]}
use Rattle.sipl_evidence.specs.Looks.{done}
use Rattle.sipl_evidence.specs.Walks.{asking_from}
use Rattle.sipl_evidence.specs.declared.walk_place.Stage.TheVariants.{WildcardSet}
use Rattle.sipl_evidence.proofs.reach.source_leg.Goals as goal

pub returns : goal.returns
returns c =
    c.wildcard_leg.ensures c.args.evidence.now c.args.kind (asking_from WildcardSet c.args.left c.args.kind c.args.name) (c.visit_set-visit.ensures (done []))
