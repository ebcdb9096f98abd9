use Rattle.std.proofs.Common.{◌≡◌, ◌≤◌, IfOk, length, subst, arith}
use Rattle.std.proofs.lemmas.Result.{IfOk-weaker}
use Rattle.sipl_plans.specs.Servers.{target_count}
use Rattle.sipl_plans.proofs.FewTargets.{endpoints-few}
use Rattle.sipl_plans.proofs.FreeTargets.{draw-among}
use Rattle.sipl_plans.proofs.layout.draw.Goals as goal

pub returns-clause-answer : goal.returns-clause-answer
returns-clause-answer c =
    subst (λ drawn. IfOk c.targets_among.result (λ answer. answer ≡ drawn))
    (draw-among c.args.layout.now c.in-Servers.transport c.in-Servers.servers c.as_slice.result.now c.args.board.now.holds c.args.draws.now c.args.held c.in_ok-endpoints.endpoints.items
    c.in-Servers.is c.as_slice.ensures c.in_ok-endpoints.ensures)
    c.targets_among.ensures.answer

pub returns-clause-few : goal.returns-clause-few
returns-clause-few c =
    let endpoints = c.in_ok-endpoints.endpoints.items in
    let few =
    endpoints-few c.args.layout.now c.in-Servers.transport c.in-Servers.servers c.as_slice.result.now c.args.draws.now endpoints
    c.requires.few c.in-Servers.is c.as_slice.ensures c.in_ok-endpoints.ensures in
    IfOk-weaker c.targets_among.result (λ answer. target_count answer ≤ length endpoints) (λ answer. target_count answer ≤ 2048) (λ answer within. omega (arith, few, within)) c.targets_among.ensures.few
