use Rattle.std.proofs.Common.{[], codes, Some}
use Rattle.sipl_failover.specs.FailoverRun.Event.{Received}
use Rattle.sipl_lines.specs.Calls.{with_call}
use Rattle.sipl_lines.specs.ReplyText.{counts_line}
use Rattle.sipl_lines.proofs.Calling.{goes_on, heard}
use Rattle.sipl_lines.proofs.calls.hear_response.Goals as goal

pub returns-in-Ok-clause-done : goal.returns-in-Ok-clause-done
returns-in-Ok-clause-done g c =
    let event = Received c.args.attempt c.args.code c.args.retry_after in
    let reply = counts_line (codes "ok got") [] in
    heard g.D.Desk.rules reply c.args.call.now c.in-Some.failover event c.args.desk.now (with_call c.report.new.desk (Some c.receive.new.self)) c.args.out.now.items c.report.new.out.items
    c.in-Some.is
    (goes_on g.D.Desk.rules reply c.in-Some.failover c.receive.new.self event c.in-Ok.steps (Some c.in-Some.failover) c.args.desk.now c.report.new.desk c.args.out.now.items c.report.new.out.items
    c.in-Ok.ensures.accepted c.in-Ok.ensures.next c.in-Ok.ensures.steps c.report.ensures.done)
