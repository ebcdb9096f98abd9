-- What serving a session between octets and a vector gives.
use Rattle.std.specs.Prelude.{◌≡◌, ◌^◌, [], Option, Some, Result, Ok, Err, OnOk, OnErr}
use Rattle.std.proofs.Common.{sym, subst}
use Rattle.sipl_names.specs.Labels.{Octets}
use Rattle.sipl_lines.specs.Items.{items_of}
use Rattle.sipl_lines.specs.PlainDesk.{PlainState, plain_rules}
use Rattle.sipl_lines.specs.Replies.{Serves}
use Rattle.sipl_lines.specs.Serving.{ServesDesk}
use Rattle.sipl_lines.specs.Session.{SessionState, new_session, session_protocol}
use Rattle.sipl_lines.specs.Streams.{ServesAll, ServesPrefix}
use Rattle.sipl_lines.specs.Tapped.{tapped_inner}
use Rattle.sipl_lines.specs.declared.server.Ended.{Ended}
use Rattle.sipl_lines.specs.declared.server.ServeFault.{ServeFault}
use Rattle.sipl_lines.specs.declared.tapped.Tapped.{Tapped}
use Rattle.siploc_c.specs.Whole.{HasReplies}

-- a fact on the octets of a reader and of a writer, where these are known
known : (P : Option Octets → Option Octets → Option Octets → Type 0) {a b c : Option Octets}
    {input old text : Octets} → a ≡ Some input → b ≡ Some old → c ≡ Some text → P a b c
    → P (Some input) (Some old) (Some text)
known P {b = b} {c = c} {input = input} {old = old} e f g fact =
    subst (λ (z : Option Octets). P (Some input) (Some old) z) g
    (subst (λ (y : Option Octets). P (Some input) y c) f (subst (λ (x : Option Octets). P x b c) e fact))

all_served : (before session : SessionState PlainState) (input text : Octets)
    → ServesAll (session_protocol plain_rules) before (Some input) (Some []) session (Some text)
    → Serves (session_protocol plain_rules) before (items_of input) text session
all_served before session input text h =
    subst (λ t. Serves (session_protocol plain_rules) before (items_of input) t session) (sym h.2) h.1

served : (before session : SessionState PlainState) (input text : Octets) (ending : Result Ended ServeFault)
    → OnOk ending (ServesAll (session_protocol plain_rules) before (Some input) (Some []) session (Some text))
    → OnOk ending (Serves (session_protocol plain_rules) before (items_of input) text session)
served before session input text (Ok ended) h = all_served before session input text h
served before session input text (Err fault) h = tt

-- the replies to an input, of what serving says of them
pub has_replies : {A B : Type 0} {remaining : A → Option Octets} {contents : B → Option Octets}
    {ending : Result Ended ServeFault} {before after : PlainState} {reader reader' : Tapped A}
    {writer writer' : Tapped B} {input text : Octets}
    → ServesDesk plain_rules (2 ^ 32) ending remaining contents before after reader reader' writer writer'
    → remaining (tapped_inner reader) ≡ Some input → contents (tapped_inner writer) ≡ Some []
    → contents (tapped_inner writer') ≡ Some text → HasReplies before after input ending text
has_replies {ending = ending} {before = before} {input = input} {text = text} s e f g =
    record {
      session = s.session;
      desk = s.desk;
      served = served (new_session before) s.session input text ending
          (known (λ a b c. OnOk ending (ServesAll (session_protocol plain_rules) (new_session before) a b s.session c)) e f g s.serves.served);
      prefix = known (λ a b c. OnErr ending (ServesPrefix (session_protocol plain_rules) (new_session before) a b s.session c)) e f g s.serves.prefix;
    }
