use Rattle.std.proofs.Common.{length}
use Rattle.sipl_lines.proofs.Replies.{FedTo}
use Rattle.sipl_lines.proofs.lines.Pending.feed.Given as goal

abbrev pub invariant-loop-piece : goal.invariant-loop-piece
invariant-loop-piece g l = FedTo g.C.Conversation.protocol (g.C.Conversation.state l.fn.desk l.fn.conversation) l.fn.self l.chunk l.fn.out.items (g.C.Conversation.state l.desk l.conversation) l.self l.rest l.out.items

abbrev pub decreases-loop-piece : goal.decreases-loop-piece
decreases-loop-piece g l = length l.rest
