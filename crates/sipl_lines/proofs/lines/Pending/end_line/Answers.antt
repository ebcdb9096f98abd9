use Rattle.std.proofs.Common.{◌≡◌, [], ◌++◌, ◌∙◌, take, length, sym, ap, vec_len, arith, rules}
use Rattle.std.proofs.lemmas.List.{nil_from_length}
use Rattle.std.proofs.lemmas.Result.{on_ok_weaker}
use Rattle.sipl_lines.specs.Machine.{kept_prefix}
use Rattle.sipl_lines.proofs.Cutting.{kept-take}
use Rattle.sipl_lines.proofs.Replies.{replies_kept, replies_whole}
use Rattle.sipl_lines.proofs.lines.Pending.end_line.Goals as goal

pub returns-then-is_empty-clause-ok : goal.returns-then-is_empty-clause-ok
returns-then-is_empty-clause-ok g c =
    let none : vec_len c.self.inside.kept ≡ 0 = search rules in
    let empty : c.args.self.now ≡ [] = sym c.self.view_is ∙ nil_from_length c.self.inside.kept.items (omega (arith, c.self.inside.kept.ok.0)) in
    on_ok_weaker c.process_line.result
    (replies_whole g.C.Conversation.protocol (g.C.Conversation.state c.args.desk.now c.args.conversation.now) c.trim_cr.result.now c.args.piece.now c.args.self.now c.args.out.now.items (g.C.Conversation.state c.process_line.new.desk c.process_line.new.self) c.process_line.new.out.items c.trim_cr.ensures empty)
    c.process_line.ensures.ok

pub returns-clause-ok : goal.returns-clause-ok
returns-clause-ok g c =
    replies_kept g.C.Conversation.protocol g.met.C.Conversation.is_line_protocol (g.C.Conversation.state c.args.desk.now c.args.conversation.now) c.trim_cr-2.result.now c.deref.result.now (c.args.self.now ++ c.args.piece.now) c.args.out.now.items
    (g.C.Conversation.state c.process_line-2.new.desk c.process_line-2.new.self) c.process_line-2.new.out.items c.trim_cr-2.ensures (c.deref.ensures.value ∙ c.self-2.view_is ∙ c.keep.ensures.kept) c.in_default.ensures.ok

pub returns-in-Err-clause-err_kept : goal.returns-in-Err-clause-err_kept
returns-in-Err-clause-err_kept g c =
    let old = c.args.self.now in
    let count : c.len-before.result ≡ length old = omega (arith, c.len-before.ensures, c.self.inside.kept.ok.0, ap length c.self.view_is) in
    c.truncate.ensures.items ∙ ap (take c.len-before.result) (c.self-2.view_is ∙ c.keep.ensures.kept)
    ∙ ap (λ n. take n (kept_prefix (old ++ c.args.piece.now))) count ∙ kept-take old c.args.piece.now c.keep.ensures.limit
