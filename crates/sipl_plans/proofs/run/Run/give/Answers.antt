use Rattle.std.proofs.Common.{◌++◌, ◌∷◌, [], ap, sym, subst, ◌∙◌}
use Rattle.std.specs.Arc.{arc_value}
use Rattle.sipl_evidence.specs.Items.{Item}
use Rattle.sipl_plans.specs.Runs.{IsWanted, wanted}
use Rattle.sipl_plans.proofs.Reaching.{never-wanted, key-wanted, set-wanted, given}
use Rattle.sipl_plans.proofs.run.Run.give.Goals as goal

pub unreachable-requires : goal.unreachable-requires
unreachable-requires c =
    let run = c.self.inside in
    let set = subst (λ run. IsWanted (wanted run) c.args.number c.args.content) (sym c.self.view_is) c.requires.set in
    never-wanted run.question run.abilities (arc_value run.evidence) run.progress c.in_default-replace.field-0 c.args.number c.args.content c.self.invariant.1 (sym c.replace.ensures.value ∙ c.in_default-replace.is) set

pub invariant_of-self-in-Ok : goal.invariant_of-self-in-Ok
invariant_of-self-in-Ok c =
    let run = c.self.inside in
    let wanting = c.in-Wanting in
    let number = c.args.number in
    let content = c.args.content in
    let at = sym c.replace.ensures.value ∙ wanting.is in
    let reached = key-wanted run.question run.abilities (arc_value run.evidence) run.progress wanting.key wanting.stage c.self.invariant.1 at in
    let required = subst (λ run. IsWanted (wanted run) number content) (sym c.self.view_is) c.requires.set in
    let set = set-wanted run.question run.abilities (arc_value run.evidence) run.progress wanting.key wanting.stage number content c.self.invariant.1 at required in
    given run.question run.abilities (arc_value run.evidence) c.push.new.self wanting.key number content wanting.stage c.in-Ok.progress c.self.invariant.0 reached set
    (c.in_default-push.ensures.ok ∙ ap (λ items. items ++ c.new-item.result ∷ []) c.in-Some.ensures.value ∙ ap (λ (item : Item). arc_value run.evidence ++ item ∷ []) c.new-item.ensures) c.in-Ok.ensures
