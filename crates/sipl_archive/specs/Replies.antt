-- The replies to the lines of a file.
use Rattle.std.specs.Prelude.{◌≡◌}
use Rattle.sipl_names.specs.Labels.{Octets}
use Rattle.sipl_lines.specs.Desk.{DeskRules}
use Rattle.sipl_lines.specs.Items.{items_of}
use Rattle.sipl_lines.specs.Replies.{Serves}
use Rattle.sipl_lines.specs.Session.{SessionState, new_session, session_protocol}

-- The octets are the replies to a session whose whole input is the text, and which leads a desk from one
-- state to another.
pub record AreReplies {D F : Type 0} (rules : DeskRules D F) (text : Octets) (before after : D)
    (replies : Octets) : Type 0 where
  pub session : SessionState D
  pub desk : session.desk ≡ after
  pub serves : Serves (session_protocol rules) (new_session before) (items_of text) replies session
