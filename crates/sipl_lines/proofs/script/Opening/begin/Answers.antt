use Rattle.std.proofs.Common.{◌≡◌, [], rules, sym, subst, append-nil}
use Rattle.sipl_lines.specs.Script.{Begins}
use Rattle.sipl_lines.specs.ScriptLines.{workers_in}
use Rattle.sipl_lines.specs.declared.script.Script.TheVariants.{Playing}
use Rattle.sipl_lines.proofs.Scripts.{begun}
use Rattle.sipl_lines.proofs.script.Opening.begin.Goals as goal

pub returns-in-Ok : goal.returns-in-Ok
returns-in-Ok c =
    let is : c.self.inside.settings ≡ c.args.self = search rules in
    let begins = begun c.self.inside.settings c.in-Some.workers c.limits-limits.result c.in-Ok.world c.new-in-Ok.result c.limits-limits.ensures c.in-Ok.ensures c.new-in-Ok.ensures in (
      [],
      subst (λ s. Begins s (workers_in c.args.line.now) [] (Playing c.new-in-Ok.result)) is
          (subst (λ w. Begins c.self.inside.settings w [] (Playing c.new-in-Ok.result)) c.in-Some.ensures.workers begins),
      sym (append-nil c.args.out.now.items),
    )
