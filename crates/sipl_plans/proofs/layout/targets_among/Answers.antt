use Rattle.std.proofs.Common.{◌∙◌}
use Rattle.sipl_plans.proofs.FewTargets.{last-few, without-few}
use Rattle.sipl_plans.proofs.layout.targets_among.Goals.{in-Out, in-Last+in_ok-targets-in-Last}
use Rattle.sipl_plans.proofs.layout.targets_among.Goals as goal

pub returns-clause-few : goal.returns-clause-few
returns-clause-few c =
    let holds = c.args.board.now.holds in
    let endpoints = c.args.endpoints.items in
    let left = c.match-held.targets.items in
    elim c.match-held.branch [
      | in-Out w ↦
          without-few holds endpoints left c.in_ok-shared.shared
          ((λ k. (w.targets-is k).items) ∙ w.without_held-targets.ensures) c.in_ok-shared.ensures
      | in-Last+in_ok-targets-in-Last w ↦
          last-few holds endpoints left c.in_ok-shared.shared
          ((λ k. (w.targets-is k).items) ∙ w.in_ok-targets-in-Last.ensures) c.in_ok-shared.ensures
    ]
