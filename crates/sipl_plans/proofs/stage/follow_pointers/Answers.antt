use Rattle.std.proofs.Common.{ap, ◌∙◌}
use Rattle.sipl_records.specs.declared.kind.Kind.TheVariants.{Service}
use Rattle.sipl_choice.specs.Pointers.{chosen}
use Rattle.sipl_evidence.specs.Answers.{asking}
use Rattle.sipl_evidence.specs.Walks.{walk_asking}
use Rattle.sipl_plans.proofs.ServiceWalks.{chosen-walk}
use Rattle.sipl_plans.proofs.stage.follow_pointers.Goals as goal

pub returns : goal.returns
returns c =
    let domain = c.args.domain in
    let client = domain.abilities.now in
    let secure = domain.question.now.secure in
    chosen-walk client domain.name.now secure (chosen secure client c.args.set.now) c.in-Some.transport c.in-Some.service.now (walk_asking c.start-walk.result) c.in-Some.ensures (c.start-walk.ensures ∙ ap (λ name. asking name Service) c.in_ok-dup.ensures.value)
