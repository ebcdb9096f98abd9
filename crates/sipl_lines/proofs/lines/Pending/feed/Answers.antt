use Rattle.std.proofs.Common.{◌≡◌, true, false, is_err, sym, subst, rules}
use Rattle.sipl_lines.proofs.Replies.{FedTo, fed_all, fed_before, fed_more}
use Rattle.sipl_lines.proofs.Results.{at_error, at_success}
use Rattle.sipl_lines.proofs.lines.Pending.feed.Goals as goal

pub returns-then-is_err-clause-err : goal.returns-then-is_err-clause-err
returns-then-is_err-clause-err g c =
    let failed : is_err c.end_line.result ≡ true = search rules in
    let ended = c.end_line.ensures in
    fed_before c.in-Some.piece.now c.in-Some.tail.now (g.C.Conversation.state c.end_line.new.desk c.end_line.new.conversation) c.end_line.new.self c.end_line.new.out.items
    c.loop-piece.invariant c.in-Some.ensures (at_error c.end_line.result _ failed ended.err) (at_error c.end_line.result _ failed ended.err_kept) (at_error c.end_line.result _ failed ended.err_out) ended.limit

pub loop-piece-preserved : goal.loop-piece-preserved
loop-piece-preserved g c =
    let fine : is_err c.end_line.result ≡ false = search rules in
    let ended = c.end_line.ensures in
    let later = g.C.Conversation.state c.count_line-lines.new.desk c.end_line.new.conversation in
    subst (λ pending. FedTo g.C.Conversation.protocol (g.C.Conversation.state c.args.desk.now c.args.conversation.now) c.args.self.now c.args.chunk.now c.args.out.now.items later pending c.in-Some.tail.now c.end_line.new.out.items)
    (sym (at_success c.end_line.result _ fine ended.emptied))
    (fed_more c.in-Some.piece.now c.in-Some.tail.now (g.C.Conversation.state c.end_line.new.desk c.end_line.new.conversation) later c.end_line.new.out.items
    c.loop-piece.invariant c.in-Some.ensures (at_success c.end_line.result _ fine ended.ok) c.count_line-lines.ensures)

pub returns-clause-ok : goal.returns-clause-ok
returns-clause-ok g c =
    fed_all c.keep.new.self c.loop-piece.invariant c.in_default.ensures c.keep.ensures.kept c.keep.ensures.limit
