use Rattle.std.proofs.Common.{◌≡◌, [], ◌∙◌, sym, ap, length, subst, vec_len, arith, rules}
use Rattle.std.proofs.lemmas.List.{nil_from_length}
use Rattle.std.proofs.lemmas.Result.{on_ok_weaker}
use Rattle.sipl_names.specs.Labels.{Octets}
use Rattle.sipl_lines.specs.Items.{line}
use Rattle.sipl_lines.specs.Replies.{AppendsReply}
use Rattle.sipl_lines.proofs.Results.{on_err_both}
use Rattle.sipl_lines.proofs.Replies.{replies_end, replies_last, first_line}
use Rattle.sipl_lines.proofs.lines.Pending.finish.Goals as goal

pub returns-then-is_empty-clause-ok : goal.returns-then-is_empty-clause-ok
returns-then-is_empty-clause-ok g c =
    let none : vec_len c.self.inside.kept ≡ 0 = search rules in
    let empty : c.args.self.now ≡ [] = sym c.self.view_is ∙ nil_from_length c.self.inside.kept.items (omega (arith, c.self.inside.kept.ok.0)) in
    on_ok_weaker c.finish.result
    (replies_end g.C.Conversation.protocol (g.C.Conversation.state c.args.desk.now c.args.conversation.now) c.args.self.now c.args.out.now.items (g.C.Conversation.state c.finish.new.desk c.finish.new.self) c.finish.new.out.items empty)
    c.finish.ensures.ok

pub returns-clause-ok : goal.returns-clause-ok
returns-clause-ok g c =
    let some : vec_len c.self.inside.kept ≡ 0 → ⊥ = search rules in
    let same : c.deref.result.now ≡ c.args.self.now = c.deref.ensures.value ∙ c.self.view_is in
    let P : Octets → Type 0 = λ octets. AppendsReply g.C.Conversation.protocol (g.C.Conversation.state c.args.desk.now c.args.conversation.now) (line octets) c.args.out.now.items (g.C.Conversation.state c.process_line.new.desk c.process_line.new.self) c.process_line.new.out.items in
    on_ok_weaker c.finish-2.result
    (λ last. replies_last g.C.Conversation.protocol (g.C.Conversation.state c.args.desk.now c.args.conversation.now) c.args.self.now c.args.out.now.items (g.C.Conversation.state c.process_line.new.desk c.process_line.new.self) c.process_line.new.out.items (g.C.Conversation.state c.finish-2.new.desk c.finish-2.new.self) c.finish-2.new.out.items
    (λ none. some (omega (arith, c.self.inside.kept.ok.0, ap length c.self.view_is))) (subst P same c.in_ok-process_line.ensures.ok) last)
    c.finish-2.ensures.ok

pub returns-clause-err : goal.returns-clause-err
returns-clause-err g c =
    let some : vec_len c.self.inside.kept ≡ 0 → ⊥ = search rules in
    let same : c.deref.result.now ≡ c.args.self.now = c.deref.ensures.value ∙ c.self.view_is in
    let P : Octets → Type 0 = λ octets. AppendsReply g.C.Conversation.protocol (g.C.Conversation.state c.args.desk.now c.args.conversation.now) (line octets) c.args.out.now.items (g.C.Conversation.state c.process_line.new.desk c.process_line.new.self) c.process_line.new.out.items in
    on_err_both c.finish-2.result
    (λ kept_state kept_out. first_line g.C.Conversation.protocol (g.C.Conversation.state c.args.desk.now c.args.conversation.now) c.args.self.now c.args.out.now.items (g.C.Conversation.state c.process_line.new.desk c.process_line.new.self) c.process_line.new.out.items (g.C.Conversation.state c.finish-2.new.desk c.finish-2.new.self) c.finish-2.new.out.items
    (λ none. some (omega (arith, c.self.inside.kept.ok.0, ap length c.self.view_is))) (subst P same c.in_ok-process_line.ensures.ok) kept_state kept_out)
    c.finish-2.ensures.err c.finish-2.ensures.err_out
