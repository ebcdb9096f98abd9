use Rattle.std.proofs.Common.{sym, subst}
use Rattle.sipl_records.specs.Sets.{set_of}
use Rattle.sipl_plans.specs.Servers.{HasFewServers}
use Rattle.sipl_plans.proofs.FewServers.{route-few}
use Rattle.sipl_plans.proofs.plan.plan_of.Goals as goal

pub draw-requires : goal.draw-requires
draw-requires c =
    record {
      few = subst HasFewServers (sym c.in_ok-layout.ensures) (route-few (set_of c.args.records.now) c.args.question.now c.args.abilities.now c.requires.small_sets);
    }
