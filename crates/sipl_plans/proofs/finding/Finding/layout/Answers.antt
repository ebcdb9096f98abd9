use Rattle.std.proofs.Common.{◌≡◌, subst}
use Rattle.std.specs.Arc.{arc_value}
use Rattle.sipl_records.specs.Sets.{set_of}
use Rattle.sipl_evidence.specs.Known.{Agrees}
use Rattle.sipl_plans.specs.Route.{route}
use Rattle.sipl_plans.specs.Servers.{HasFewServers}
use Rattle.sipl_plans.proofs.Deciding.{few-found}
use Rattle.sipl_plans.proofs.finding.Finding.layout.Goals as goal

pub returns-clause-records : goal.returns-clause-records
returns-clause-records c = λ records.
    subst (λ found. Agrees (set_of records) found.items → route (set_of records) found.question found.client ≡ found.layout) c.self.view_is (c.self.invariant.route (set_of records))

pub returns-clause-few : goal.returns-clause-few
returns-clause-few c =
    let found = c.self.inside in
    subst (λ found. HasFewServers found.layout) c.self.view_is (few-found found.question found.abilities found.layout (arc_value found.evidence) c.self.invariant)
