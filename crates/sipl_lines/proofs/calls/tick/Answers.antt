use Rattle.std.proofs.Common.{[], ◌∷◌, codes, Some}
use Rattle.sipl_failover.specs.FailoverRun.Event.{Ticked}
use Rattle.sipl_lines.specs.ReplyText.{counts_line}
use Rattle.sipl_lines.proofs.Calling.{goes_on}
use Rattle.sipl_lines.proofs.calls.tick.Goals as goal

pub returns-in-Ok-clause-done : goal.returns-in-Ok-clause-done
returns-in-Ok-clause-done g c =
    goes_on g.D.Desk.rules (counts_line (codes "ok clock") (c.args.to ∷ [])) c.args.failover.now c.tick.new.self (Ticked c.args.to) c.in-Ok.steps (Some c.args.failover.now) c.args.desk.now c.report.new.desk c.args.out.now.items c.report.new.out.items
    c.in-Ok.ensures.accepted c.in-Ok.ensures.next c.in-Ok.ensures.steps c.report.ensures.done
