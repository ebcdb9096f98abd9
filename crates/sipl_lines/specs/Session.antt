-- A session: what each of its lines does, and the replies.
use Rattle.std.specs.Prelude.{◌≡◌, ◌⊎◌, ◌≤◌, ℕ, Bool, true, false, [], ◌++◌, Option, None, Some, Result, OnOk, OnErr, Vec, vec_capacity, IsTrue}
use Rattle.std.specs.Bool.{OnTrue, OnFalse}
use Rattle.sipl_names.specs.Labels.{Octets}
use Rattle.sipl_failover.specs.FailoverRun.{FailoverRun}
use Rattle.sipl_lines.specs.Commands.{Keeps, Fails, Asks, zone_asked, Act, says, takes_zone, asks, in_call, quits, task_of}
use Rattle.sipl_lines.specs.Calls.{DoesInCall, CallDesk, with_call}
use Rattle.sipl_lines.specs.Desk.{DeskRules}
use Rattle.sipl_lines.specs.Items.{Item, line, end_of_input}
use Rattle.sipl_lines.specs.Protocol.{Protocol}
use Rattle.sipl_lines.specs.Requests.{Request, request_of}
use Rattle.sipl_lines.specs.Gathering.{Gathers, GathersOrLoses, Loader, gathering_of, after_line, at_end, lost}
use Rattle.sipl_lines.specs.declared.gather.Gathering.{Gathering}
use Rattle.sipl_lines.specs.declared.session.Session.{Session}

-- the state of a session: the desk, the zone whose lines are being taken, the last call, and whether
-- the session has ended
pub record SessionState (D : Type 0) : Type 0 where
  pub desk : D
  pub gathering : Option Gathering
  pub call : Option FailoverRun
  pub ended : Bool

-- the state of a session at a desk
abbrev pub at_desk : {D : Type 0} → D → Session → SessionState D
at_desk desk session =
    record {
      desk = desk;
      gathering = session.gathering;
      call = session.call;
      ended = session.ended;
    }

-- a session at a desk that has had no line
abbrev pub new_session : {D : Type 0} → D → SessionState D
new_session desk = record { desk = desk; gathering = None; call = None; ended = false }

-- the state with another desk
abbrev pub with_desk : {D : Type 0} → D → SessionState D → SessionState D
with_desk desk state = record state { desk = desk }

-- lines are taken from now on, or none
abbrev pub with_gathering : {D : Type 0} → Option Gathering → SessionState D → SessionState D
with_gathering gathering state = record state { gathering = gathering }

-- what happens at the desk; all else is as it was
abbrev pub AtDesk : {D : Type 0} → (D → Octets → D → Type 0) → SessionState D → Octets
    → SessionState D → Type 0
AtDesk Acts before text after =
    Acts before.desk text after.desk × (after ≡ with_desk after.desk before)

-- what happens at the desk and with the call; all else is as it was
abbrev pub AtCall : {D : Type 0} → (CallDesk D → Octets → CallDesk D → Type 0) → SessionState D
    → Octets → SessionState D → Type 0
AtCall Acts before text after =
    Acts (with_call before.desk before.call) text (with_call after.desk after.call)
    × (after ≡ record before { desk = after.desk; call = after.call })

-- the desk loads the zones whose lines a session takes
abbrev pub session_loader : {D F : Type 0} → DeskRules D F → Loader (SessionState D)
session_loader rules =
    record { keep = with_gathering; Loads = λ loaded. AtDesk (Asks rules (zone_asked loaded)) }

-- what an act does
abbrev pub DoesAct : {D F : Type 0} → DeskRules D F → Act → SessionState D → Octets → SessionState D
    → Type 0
DoesAct rules (says reply) before text after = Keeps reply before text after
DoesAct rules (takes_zone apex lines) before text after =
    Gathers (session_loader rules) (gathering_of apex lines (rules.zone_octets before.desk)) before text
    after
    ⊎ Gathers (session_loader rules) (lost lines) before text after
DoesAct rules (asks asked) before text after = AtDesk (Asks rules asked) before text after
DoesAct rules (in_call act) before text after = AtCall (DoesInCall rules act) before text after
DoesAct rules (quits reply) before text after = (text ≡ reply) × (after ≡ record before { ended = true })

-- what a request does once its fields are read
abbrev pub Performs : {D F : Type 0} → DeskRules D F → Request → SessionState D → Octets
    → SessionState D → Type 0
Performs rules request before text after = DoesAct rules (task_of request).act before text after

-- whether an allocation may fail while the fields of a request are read, which then changes nothing
abbrev pub MayFail : Request → Type 0
MayFail request = IsTrue (task_of request).may_fail

-- what a request does; where an allocation for its fields fails, nothing happens
abbrev pub Obeys : {D F : Type 0} → DeskRules D F → Request → SessionState D → Octets
    → SessionState D → Type 0
Obeys rules request before text after =
    Performs rules request before text after ⊎ (MayFail request × Fails before text after)

-- what a line does: it is a command, or one of the lines that a zone takes
abbrev pub TakesLine : {D F : Type 0} → DeskRules D F → Option Gathering → Octets → SessionState D
    → Octets → SessionState D → Type 0
TakesLine rules None octets before text after = Obeys rules (request_of octets) before text after
TakesLine rules (Some gathering) octets before text after =
    GathersOrLoses (session_loader rules) (after_line octets gathering) before text after

-- what the end of the input does: a zone whose lines are being taken has its reply
abbrev pub TakesEnd : {D F : Type 0} → DeskRules D F → Option Gathering → SessionState D → Octets
    → SessionState D → Type 0
TakesEnd rules None before text after = Keeps [] before text after
TakesEnd rules (Some gathering) before text after =
    GathersOrLoses (session_loader rules) (at_end gathering) before text after

-- what an item does in a session that has not ended
abbrev pub TakesItem : {D F : Type 0} → DeskRules D F → Item → SessionState D → Octets
    → SessionState D → Type 0
TakesItem rules (line octets) before text after =
    TakesLine rules before.gathering octets before text after
TakesItem rules end_of_input before text after = TakesEnd rules before.gathering before text after

-- the replies and the states after an item: once a session has ended, no reply and the same state
abbrev pub MayReply : {D F : Type 0} → DeskRules D F → SessionState D → Item → Octets
    → SessionState D → Type 0
MayReply rules before item text after =
    OnTrue before.ended (Keeps [] before text after)
    × OnFalse before.ended (TakesItem rules item before text after)

-- the states after a pause: the desk does its part, and all else is as it was
abbrev pub MayPause : {D F : Type 0} → DeskRules D F → SessionState D → SessionState D → Type 0
MayPause rules before after =
    rules.Pauses before.desk after.desk × (after ≡ with_desk after.desk before)

-- the protocol of a session
abbrev pub session_protocol : {D F : Type 0} → DeskRules D F → Protocol
session_protocol {D} rules =
    record {
      State = SessionState D;
      MayReply = MayReply rules;
      MayPause = MayPause rules;
      has_ended = λ state. state.ended;
    }

-- something is done, and its reply appended
abbrev pub AppendsText : {S : Type 0} → (S → Octets → S → Type 0) → S → Octets → S → Octets → Type 0
AppendsText Acts before old after new =
    (text : Octets) × Acts before text after × (new ≡ old ++ text)

-- A command ended so: its reply was appended to an output; or an allocation failed, and nothing
-- changed. The output's capacity does not shrink.
pub record Replies {S X E : Type 0} (Acts : S → Octets → S → Type 0) (before : S) (out : Vec ℕ X)
    (result : Result (Unit {0}) E) (after : S) (out' : Vec ℕ X) : Type 0 where
  pub replied : OnOk result (AppendsText Acts before out.items after out'.items)
  pub unchanged : OnErr result (after ≡ before)
  pub unwritten : OnErr result (out'.items ≡ out.items)
  pub capacity : vec_capacity out ≤ vec_capacity out'
