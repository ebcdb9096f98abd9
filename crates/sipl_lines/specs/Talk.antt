-- What is kept of a talk.
use Rattle.std.specs.Prelude.{[], None, false}
use Rattle.sipl_names.specs.Labels.{Octets}
use Rattle.sipl_lines.specs.declared.session.Session.{Session}

-- the octets of a line whose end did not come yet, of which 65,538 are kept, and the session
pub record TalkState : Type 0 where
  pub pending : Octets
  pub session : Session

-- a talk that had no octets
abbrev pub new_talk : TalkState
new_talk =
    record {
      pending = [];
      session = record { gathering = None; call = None; ended = false };
    }
