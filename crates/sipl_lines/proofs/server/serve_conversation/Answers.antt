use Rattle.std.proofs.Common.{◌∙◌, sym, subst, arith}
use Rattle.std.proofs.lemmas.Result.{err_from_is_err_and}
use Rattle.sipl_lines.specs.Tapped.{tapped_inner}
use Rattle.sipl_lines.specs.Turns.{CompletesTurn}
use Rattle.sipl_lines.proofs.Exits.{exit_without_space, exit_ended, exit_failed, exit_at_end, exit_too_many, progress_more, progress_paused}
use Rattle.sipl_lines.proofs.server.serve_conversation.Goals as goal

pub returns-in_err-server : goal.returns-in_err-server
returns-in_err-server g c =
    let p = err_from_is_err_and c.from_residual.result c.from_residual.ensures.1 in
    rw (p.1, p.2) (exit_without_space g.C.Conversation.protocol c.args.limit g.R.Read.remaining g.W.Write.contents (g.C.Conversation.state c.args.desk.now c.args.conversation.now) c.args.reader.now c.args.writer.now)

pub returns-then-has_ended : goal.returns-then-has_ended
returns-then-has_ended g c =
    exit_ended g.met.C.Conversation.is_line_protocol c.args.limit (omega arith) c.loop-made.invariant (sym c.has_ended.ensures ∙ c.if-has_ended.true)

pub returns-in_err-turn : goal.returns-in_err-turn
returns-in_err-turn g c =
    let p = err_from_is_err_and c.from_residual-in_err-turn.result c.from_residual-in_err-turn.ensures.1 in
    rw (p.1, p.2) (exit_failed c.in_err-turn.field-0.0 g.met.C.Conversation.is_line_protocol c.args.limit (omega arith) (g.C.Conversation.state c.turn.new.desk c.turn.new.conversation) c.turn.new.reader c.turn.new.writer
    (progress_paused (g.C.Conversation.state c.pause.new.desk c.loop-made.conversation) c.loop-made.invariant c.pause.ensures)
    (g.met.C.Conversation.is_line_protocol.paused (g.C.Conversation.state c.loop-made.desk c.loop-made.conversation) (g.C.Conversation.state c.pause.new.desk c.loop-made.conversation) c.pause.ensures ∙ sym c.has_ended.ensures ∙ c.if-has_ended.false)
    c.in_err-turn.ensures.err c.in_err-turn.ensures.reader_failed c.in_err-turn.ensures.writer_failed c.turn.ensures.counted)

pub returns-then-not-branch : goal.returns-then-not-branch
returns-then-not-branch g c =
    exit_at_end c.end_of.result g.met.C.Conversation.is_line_protocol c.args.limit (omega arith) (g.C.Conversation.state c.turn.new.desk c.turn.new.conversation) c.turn.new.self c.turn.new.reader c.turn.new.writer
    (progress_paused (g.C.Conversation.state c.pause.new.desk c.loop-made.conversation) c.loop-made.invariant c.pause.ensures)
    (subst (λ more. CompletesTurn g.C.Conversation.protocol more (g.C.Conversation.state c.pause.new.desk c.loop-made.conversation) c.loop-made.server (g.R.Read.remaining (tapped_inner c.loop-made.reader)) (g.R.Read.remaining (tapped_inner c.turn.new.reader)) (g.W.Write.contents (tapped_inner c.loop-made.writer)) (g.C.Conversation.state c.turn.new.desk c.turn.new.conversation) c.turn.new.self (g.W.Write.contents (tapped_inner c.turn.new.writer))) c.if-not-branch.true c.in_ok-turn.ensures.ok)
    c.in_ok-turn.ensures.reader_failed c.in_ok-turn.ensures.writer_failed c.turn.ensures.counted c.end_of.ensures

pub loop-made-preserved : goal.loop-made-preserved
loop-made-preserved g c =
    progress_more g.met.C.Conversation.is_line_protocol (g.C.Conversation.state c.turn.new.desk c.turn.new.conversation) c.turn.new.self c.turn.new.reader c.turn.new.writer
    (progress_paused (g.C.Conversation.state c.pause.new.desk c.loop-made.conversation) c.loop-made.invariant c.pause.ensures)
    (subst (λ more. CompletesTurn g.C.Conversation.protocol more (g.C.Conversation.state c.pause.new.desk c.loop-made.conversation) c.loop-made.server (g.R.Read.remaining (tapped_inner c.loop-made.reader)) (g.R.Read.remaining (tapped_inner c.turn.new.reader)) (g.W.Write.contents (tapped_inner c.loop-made.writer)) (g.C.Conversation.state c.turn.new.desk c.turn.new.conversation) c.turn.new.self (g.W.Write.contents (tapped_inner c.turn.new.writer))) c.if-not-branch.false c.in_ok-turn.ensures.ok)
    c.in_ok-turn.ensures.reader_failed c.in_ok-turn.ensures.writer_failed c.turn.ensures.counted

pub returns-then-has_ended-2 : goal.returns-then-has_ended-2
returns-then-has_ended-2 g c =
    exit_ended g.met.C.Conversation.is_line_protocol c.args.limit (omega arith) c.loop-made.invariant (sym c.has_ended-2.ensures ∙ c.if-has_ended-2.true)

pub returns : goal.returns
returns g c =
    exit_too_many c.args.limit (omega arith) c.loop-made.invariant (sym c.has_ended-2.ensures ∙ c.if-has_ended-2.false)
