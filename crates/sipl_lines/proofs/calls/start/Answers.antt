use Rattle.std.proofs.Common.{◌++◌, List, length, rules, ap, ◌∙◌, arith}
use Rattle.std.proofs.lemmas.List.{length-take}
use Rattle.sipl_choice.specs.declared.endpoint.Endpoint.{Endpoint}
use Rattle.sipl_lines.specs.Calls.{steps_text}
use Rattle.sipl_lines.proofs.Calling.{opened}
use Rattle.sipl_lines.proofs.calls.start.Goals as goal

pub start-requires-clause-targets : goal.start-requires-clause-targets
start-requires-clause-targets c =
    omega (arith, ap (λ (targets : List Endpoint). length targets) c.first_targets.ensures, length-take 2048 c.args.targets.now)

pub returns-in-Ok-clause-done : goal.returns-in-Ok-clause-done
returns-in-Ok-clause-done c =
    opened c.args.kind c.args.base c.args.now c.args.targets.now c.first_targets.result.items c.args.call.now c.in-Ok.failover c.in-Ok.steps c.args.out.now.items c.write_steps.new.out.items c.write_done.new.out.items
    c.first_targets.ensures c.in-Ok.ensures.run c.in-Ok.ensures.steps
    (λ none. search rules)
    (c.write_steps.ensures.ok ∙ ap (λ steps. c.args.out.now.items ++ steps_text c.in-Ok.failover steps) c.as_slice.ensures.value)
    c.write_done.ensures.ok
