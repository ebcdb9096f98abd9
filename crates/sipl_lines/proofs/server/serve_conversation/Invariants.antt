use Rattle.sipl_lines.proofs.Exits.{Progress}
use Rattle.sipl_lines.proofs.server.serve_conversation.Given as goal

abbrev pub invariant-loop-made : goal.invariant-loop-made
invariant-loop-made g l =
    Progress g.C.Conversation.protocol g.R.Read.remaining g.W.Write.contents (g.C.Conversation.state l.fn.desk l.fn.conversation) (g.C.Conversation.state l.desk l.conversation) l.server l.fn.reader l.reader l.fn.writer l.writer l._made
