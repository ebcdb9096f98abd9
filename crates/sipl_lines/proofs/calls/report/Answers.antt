use Rattle.std.proofs.Common.{◌++◌, sym, ap, ◌∙◌}
use Rattle.sipl_lines.specs.Calls.{hold_in, steps_text}
use Rattle.sipl_lines.specs.Requests.{ok_words}
use Rattle.sipl_lines.specs.ReplyText.{counts_line}
use Rattle.sipl_lines.proofs.Calling.{reported, reported_hold}
use Rattle.sipl_lines.proofs.calls.report.Goals as goal

pub returns-in-None-clause-done : goal.returns-in-None-clause-done
returns-in-None-clause-done g c =
    reported g.D.Desk.rules (counts_line (ok_words c.args.word) c.args.numbers.now) c.args.failover.now c.args.steps.now c.args.desk.now c.args.out.now.items c.write_steps.new.out.items c.write_done.new.out.items
    (ap hold_in (sym c.as_slice-steps.ensures.value) ∙ sym c.hold_of.ensures ∙ c.in-None.is)
    (c.write_steps.ensures.ok ∙ ap (λ steps. c.args.out.now.items ++ steps_text c.args.failover.now steps) c.as_slice-steps.ensures.value)
    c.write_done.ensures.ok

pub returns-in-Some-clause-done : goal.returns-in-Some-clause-done
returns-in-Some-clause-done g c =
    reported_hold g.D.Desk.rules (counts_line (ok_words c.args.word) c.args.numbers.now) c.args.failover.now c.args.steps.now (c.in-Some.endpoint, c.in-Some.ms) c.hold.result c.args.desk.now c.hold.new.self c.args.out.now.items c.write_steps.new.out.items c.reply_moved.new.out.items
    (ap hold_in (sym c.as_slice-steps.ensures.value) ∙ sym c.hold_of.ensures ∙ c.in-Some.is)
    c.hold.ensures
    (c.write_steps.ensures.ok ∙ ap (λ steps. c.args.out.now.items ++ steps_text c.args.failover.now steps) c.as_slice-steps.ensures.value)
    c.reply_moved.ensures.done
