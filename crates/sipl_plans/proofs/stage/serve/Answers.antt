use Rattle.std.proofs.Common.{◌≡◌, IfOk, subst, ◌∙◌}
use Rattle.sipl_choice.specs.FamilyKinds.{address_kinds}
use Rattle.sipl_plans.specs.Stages.{step_asking}
use Rattle.sipl_plans.proofs.ServersLeft.{asking_later-served}
use Rattle.sipl_plans.proofs.stage.serve.Goals as goal

pub returns : goal.returns
returns c =
    let client = c.args.domain.abilities.now in
    let all = c.start.ensures (address_kinds client.families) ∙ asking_later-served client c.args.transport c.args.picks in
    subst (λ asking. IfOk c.read_addresses.result (λ step. step_asking c.args.domain step ≡ asking)) all c.read_addresses.ensures
