use Rattle.std.proofs.Common.{◌≡◌, length, subst, rules}
use Rattle.sipl_lines.specs.Replies.{AppendsFirstReplies}
use Rattle.sipl_lines.proofs.Cutting.{read_items-some}
use Rattle.sipl_lines.proofs.Replies.{first_taken}
use Rattle.sipl_lines.proofs.lines.Pending.process.Goals as goal

pub returns-in-Err-clause-err : goal.returns-in-Err-clause-err
returns-in-Err-clause-err g c =
    let octets = c.args.octets.now in
    let some : length octets ≡ 0 → ⊥ = search rules in
    let before = g.C.Conversation.state c.args.desk.now c.args.conversation.now in
    let after = g.C.Conversation.state c.feed.new.desk c.feed.new.conversation in
    subst (λ items. AppendsFirstReplies g.C.Conversation.protocol before items c.args.out.now.items after c.feed.new.out.items)
    (read_items-some c.args.self.now octets some)
    (first_taken g.C.Conversation.protocol c.in-Err.field-0.taken before c.args.self.now octets c.args.out.now.items after c.feed.new.self c.feed.new.out.items c.in-Err.ensures.err)
