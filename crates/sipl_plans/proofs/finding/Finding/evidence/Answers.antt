use Rattle.std.proofs.Common.{◌≤◌, length, subst}
use Rattle.std.specs.Arc.{arc_value}
use Rattle.sipl_plans.proofs.Deciding.{few-items}
use Rattle.sipl_plans.proofs.finding.Finding.evidence.Goals as goal

pub returns-clause-few : goal.returns-clause-few
returns-clause-few c =
    let found = c.self.inside in
    subst (λ found. length found.items ≤ 80648) c.self.view_is (few-items found.question found.abilities found.layout (arc_value found.evidence) c.self.invariant)
