use Rattle.std.proofs.Common.{refl}
use Rattle.sipl_lines.specs.Session.{at_desk}
use Rattle.sipl_lines.proofs.server.serve_within.Goals as goal

pub returns : goal.returns
returns g c =
    record {
      session = at_desk c.serve_conversation.new.desk c.serve_conversation.new.conversation;
      desk = refl;
      serves = rw c.new.ensures at c.serve_conversation.ensures;
    }
