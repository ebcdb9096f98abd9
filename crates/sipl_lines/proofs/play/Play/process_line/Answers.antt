use Rattle.std.proofs.Common.{◌≡◌, ◌++◌, Option, None, ap, subst, ◌∙◌}
use Rattle.sipl_lines.specs.Script.{Obeys, PlaysLine}
use Rattle.sipl_lines.specs.ScriptLines.{script_request_of}
use Rattle.sipl_lines.specs.declared.gather.Gathering.{Gathering}
use Rattle.sipl_lines.specs.declared.play.Play.{Play}
use Rattle.sipl_lines.proofs.play.Play.process_line.Goals as goal

pub returns-in-None-clause-ok : goal.returns-in-None-clause-ok
returns-in-None-clause-ok c =
    let same : record { world = c.args.self.now.world; gathering = c.take.new.self } ≡ c.args.self.now =
    λ i. record { world = c.args.self.now.world; gathering = (c.in-None.ensures.after ∙ c.in-None.ensures.value) i } in
    let obeys = subst (λ (before : Play). Obeys (script_request_of c.args.line.now) before c.obey.ensures.0 c.obey.new.self) same c.obey.ensures.1 in (
      c.obey.ensures.0,
      subst (λ (gathering : Option Gathering). PlaysLine gathering c.args.line.now c.args.self.now c.obey.ensures.0 c.obey.new.self) c.in-None.ensures.value obeys,
      c.obey.ensures.2 ∙ ap (λ octets. octets ++ c.obey.ensures.0) c.in_ok-reserve.ensures.items,
    )
