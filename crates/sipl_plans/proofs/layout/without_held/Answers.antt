use Rattle.std.proofs.Common.{not, rules}
use Rattle.std.proofs.lemmas.Fn.{filter_same}
use Rattle.sipl_choice.specs.declared.endpoint.Endpoint.{Endpoint}
use Rattle.sipl_outages.specs.Holds.{is_held}
use Rattle.sipl_plans.proofs.FreeTargets.{free-without, none-held}
use Rattle.sipl_plans.proofs.layout.without_held.Goals as goal

pub returns-then-is_empty : goal.returns-then-is_empty
returns-then-is_empty c =
    let holds = c.args.board.now.holds in
    free-without holds (none-held holds (c.is_empty.ensures.empty.0 c.if-is_empty.true)) c.args.endpoints.items

pub returns : goal.returns
returns c = filter_same _ (λ (e : Endpoint). not (is_held c.args.board.now.holds e)) _ (λ x b f k. search rules) _ _ c.retain.ensures.filtered
