-- A session at a desk whose states are seen as those of another desk: where each rule of the one
-- implies that of the other, the same text is that of a session at the other.
use Rattle.std.proofs.Common.{◌≡◌, ℕ, List, [], ◌∷◌, map, take, Bool, true, false, Option, None, Some, Result, Ok, Err, OnOk, OnErr, ◌==◌, ◌++◌, ap, subst, ◌∙◌, inl, inr, codes}
use Rattle.std.specs.Bool.{OnTrue, OnFalse}
use Rattle.sipl_names.specs.Labels.{Octets}
use Rattle.sipl_choice.specs.declared.endpoint.Endpoint.{Endpoint}
use Rattle.sipl_srv.specs.declared.fault.DrawsFault.{DrawsFault}
use Rattle.sipl_uri.specs.Uris.{question_of}
use Rattle.sipl_uri.specs.declared.fault.UriFault.{UriFault}
use Rattle.sipl_uri.specs.declared.question.Question.{Question}
use Rattle.sipl_outages.specs.Holds.BoardEvent.{Hold, Advance}
use Rattle.sipl_tx.specs.declared.parts.Kind.{Kind}
use Rattle.sipl_failover.specs.FailoverRun.{FailoverRun, Event, has_ended}
use Rattle.sipl_failover.specs.FailoverRun.Event.{Ticked}
use Rattle.sipl_failover.specs.Rules.{after as after_event, refusal_of}
use Rattle.sipl_failover.specs.declared.fault.FailoverFault.{FailoverFault}
use Rattle.sipl_book.specs.declared.outcome.Handed.{Handed}
use Rattle.sipl_masterfile.specs.Zones.{Zone}
use Rattle.sipl_lines.specs.declared.gather.Gathering.{Gathering}
use Rattle.sipl_lines.specs.declared.gather.LoadFault.{LoadFault}
use Rattle.sipl_lines.specs.declared.server.Ended.{Ended}
use Rattle.sipl_lines.specs.declared.server.ServeFault.{ServeFault}
use Rattle.sipl_lines.specs.declared.server.ServeFault.TheVariants.{Read, Write, TooManyTurns, Memory}
use Rattle.sipl_lines.specs.declared.tapped.Tapped.{Tapped}
use Rattle.sipl_lines.specs.Tapped.{tapped_inner}
use Rattle.sipl_lines.specs.Commands.{Keeps, Asks, moves, zone_asked, CallAct, hear, set_clock, open_call, Act, says, takes_zone, asks, in_call, quits, task_of}
use Rattle.sipl_lines.specs.Calls.{CallDesk, with_call, hold_in, DoesInCall, MakesHold, GoesOn, Hears, Ticks, TellsTime, SetsClock, OpensFor, is_open, CallsUnlessOpen, CallsUri}
use Rattle.sipl_lines.specs.Desk.{DeskRules}
use Rattle.sipl_lines.specs.Gathering.{Gathers, GathersOrLoses, LoadsOrRefuses, gathering_of, after_line, at_end, load_fault_text, lost, zone_gathered}
use Rattle.sipl_lines.specs.Items.{Item, line, end_of_input, items_of, complete_items}
use Rattle.sipl_lines.specs.Machine.{items_from}
use Rattle.sipl_lines.specs.Replies.{AppendsReplies, Pauses, Serves, Waits}
use Rattle.sipl_lines.specs.ReplyText.{counts_line, refusal_line}
use Rattle.sipl_lines.specs.Requests.{Request, request_of}
use Rattle.sipl_lines.specs.Serving.{ServesWithin, ServesDesk}
use Rattle.sipl_lines.specs.ServeFault.{OnReadFault, OnTooManyTurns}
use Rattle.sipl_lines.specs.Session.{SessionState, with_gathering, AtCall, AtDesk, DoesAct, MayPause, MayReply, Obeys, TakesEnd, TakesItem, TakesLine, new_session, session_loader, session_protocol}
use Rattle.sipl_lines.specs.Streams.{ServesAll, ServesPrefix, ServesRead}
use Rattle.sipl_lines.specs.Takes.{Takes, TakesFirst}
use Rattle.sipl_lines.proofs.DeskCalls.{Carries, Implies, asks_seen, keeps}
use Rattle.sipl_lines.proofs.Results.{on_err, on_ok}

-- the session's state with its desk as it is seen; all else is the same
abbrev pub session_seen : {D E : Type 0} → (D → E) → SessionState D → SessionState E
session_seen seen state = record { desk = seen state.desk; gathering = state.gathering; call = state.call; ended = state.ended }

on_desk : {D E : Type 0} (seen : D → E) (Acts : D → Octets → D → Type 0) (Acts' : E → Octets → E → Type 0) → Carries seen Acts Acts'
    → Carries (session_seen seen) (AtDesk Acts) (AtDesk Acts')
on_desk seen Acts Acts' carries before text after done = (carries before.desk text after.desk done.0, ap (session_seen seen) done.1)

-- a desk with its call, as the desk is seen
abbrev call_seen : {D E : Type 0} → (D → E) → CallDesk D → CallDesk E
call_seen seen at = with_call (seen at.desk) at.call

on_call : {D E : Type 0} (seen : D → E) (Acts : CallDesk D → Octets → CallDesk D → Type 0) (Acts' : CallDesk E → Octets → CallDesk E → Type 0) → Carries (call_seen seen) Acts Acts'
    → Carries (session_seen seen) (AtCall Acts) (AtCall Acts')
on_call seen Acts Acts' carries before text after done =
    (carries (with_call before.desk before.call) text (with_call after.desk after.call) done.0, ap (session_seen seen) done.1)

-- ---- facts of a case

on_true : {P Q : Type 0} (b : Bool) → (P → Q) → OnTrue b P → OnTrue b Q
on_true true weaker fact = weaker fact
on_true false weaker fact = tt

on_false : {P Q : Type 0} (b : Bool) → (P → Q) → OnFalse b P → OnFalse b Q
on_false true weaker fact = tt
on_false false weaker fact = weaker fact

on_read_fault : {T P Q : Type 0} (r : Result T ServeFault) → (P → Q) → OnReadFault r P → OnReadFault r Q
on_read_fault (Ok value) weaker fact = tt
on_read_fault (Err Read) weaker fact = weaker fact
on_read_fault (Err Write) weaker fact = tt
on_read_fault (Err TooManyTurns) weaker fact = tt
on_read_fault (Err Memory) weaker fact = tt

on_too_many_turns : {T P Q : Type 0} (r : Result T ServeFault) → (P → Q) → OnTooManyTurns r P → OnTooManyTurns r Q
on_too_many_turns (Ok value) weaker fact = tt
on_too_many_turns (Err Read) weaker fact = tt
on_too_many_turns (Err Write) weaker fact = tt
on_too_many_turns (Err TooManyTurns) weaker fact = weaker fact
on_too_many_turns (Err Memory) weaker fact = tt

module _ {D E F : Type 0} (seen : D → E) (R : DeskRules D F) (R' : DeskRules E F) (implies : Implies seen R R') where
  -- ---- what a command does with the call

  makes_hold : (reply : Octets) (asked : Option (Endpoint × ℕ)) → Carries seen (MakesHold R reply asked) (MakesHold R' reply asked)
  makes_hold reply None before text after kept = (kept.0, ap seen kept.1)
  makes_hold reply (Some asked) before text after done = asks_seen seen R R' implies (moves reply (Hold asked.0 asked.1)) before text after done

  goes_on : (reply : Octets) (run : FailoverRun) (event : Event) (fault : Option FailoverFault)
      → Carries (call_seen seen) (GoesOn R reply run event fault) (GoesOn R' reply run event fault)
  goes_on reply run event (Some fault) before text after kept = (kept.0, ap (call_seen seen) kept.1)
  goes_on reply run event None before text after done =
      ((done.0.0, makes_hold reply (hold_in (after_event run event).steps) before.desk done.0.0 after.desk done.0.1, done.0.2), done.1)

  hears : (reply : Octets) (event : Event) (heard : Option FailoverRun) → Carries (call_seen seen) (Hears R reply event heard) (Hears R' reply event heard)
  hears reply event None before text after kept = (kept.0, ap (call_seen seen) kept.1)
  hears reply event (Some run) before text after done = goes_on reply run event (refusal_of run event) before text after done

  ticks : (reply : Octets) (ms : ℕ) (told : Option FailoverRun) → Carries (call_seen seen) (Ticks R reply ms told) (Ticks R' reply ms told)
  ticks reply ms None before text after kept = (kept.0, ap (call_seen seen) kept.1)
  ticks reply ms (Some run) before text after done = (
    on_true (has_ended run) (λ kept. keeps (call_seen seen) reply before text after kept) done.0,
    on_false (has_ended run) (λ goes. goes_on reply run (Ticked ms) (refusal_of run (Ticked ms)) before text after goes) done.1,
  )

  tells_time : (ms : ℕ) (outcome : Result ℕ F) → Carries (call_seen seen) (TellsTime R ms outcome) (TellsTime R' ms outcome)
  tells_time ms (Err fault) before text after kept = (kept.0 ∙ ap refusal_line (implies.fault fault), ap (call_seen seen) kept.1)
  tells_time ms (Ok number) before text after done = ticks (counts_line (codes "ok clock") (ms ∷ [])) ms before.call before text after done

  sets_clock : (ms : ℕ) → Carries (call_seen seen) (SetsClock R ms) (SetsClock R' ms)
  sets_clock ms before text after done =
      (done.0, seen done.1, implies.moves (Advance ms) before.desk done.0 done.1 done.2, tells_time ms done.0 (with_call done.1 before.call) text after done.3)

  opens_for : (kind : Kind) (base : ℕ) (outcome : Result Handed F) (earlier : Option FailoverRun) (text : Octets) (after : CallDesk D)
      → OpensFor R kind base outcome earlier text after → OpensFor R' kind base outcome earlier text (call_seen seen after)
  opens_for kind base (Err fault) earlier text after kept = (kept.0 ∙ ap refusal_line (implies.fault fault), kept.1)
  opens_for kind base (Ok handed) earlier text after opens = (opens.0, implies.time after.desk opens.0 opens.1, opens.2)

  calls_unless_open : (kind : Kind) (base : ℕ) (question : Question) (words : List ℕ)
      → Carries (call_seen seen) (CallsUnlessOpen R kind base question words) (CallsUnlessOpen R' kind base question words)
  calls_unless_open kind base question words before text after done = (
    on_true (is_open before.call) (λ refused. (refused.0, ap (call_seen seen) refused.1)) done.0,
    on_false (is_open before.call)
        (λ opened. (opened.0, implies.finds question words before.desk opened.0 after.desk opened.1, opens_for kind base opened.0 before.call text after opened.2)) done.1,
  )

  calls_uri : (kind : Kind) (base : ℕ) (asked : Result Question UriFault) (draws : Result (List ℕ) DrawsFault)
      → Carries (call_seen seen) (CallsUri R kind base asked draws) (CallsUri R' kind base asked draws)
  calls_uri kind base (Err fault) draws before text after kept = (kept.0, ap (call_seen seen) kept.1)
  calls_uri kind base (Ok question) (Err fault) before text after kept = (kept.0, ap (call_seen seen) kept.1)
  calls_uri kind base (Ok question) (Ok words) before text after done = calls_unless_open kind base question words before text after done

  -- ---- what a line does in the session

  loads : (read : Result Zone LoadFault) → Carries (session_seen seen) (LoadsOrRefuses (session_loader R) read) (LoadsOrRefuses (session_loader R') read)
  loads (Ok loaded) before text after done = on_desk seen (Asks R (zone_asked loaded)) (Asks R' (zone_asked loaded)) (asks_seen seen R R' implies (zone_asked loaded)) before text after done
  loads (Err fault) before text after kept = keeps (session_seen seen) (load_fault_text fault) before text after kept

  gathers : (gathering : Gathering) → Carries (session_seen seen) (Gathers (session_loader R) gathering) (Gathers (session_loader R') gathering)
  gathers gathering before text after done = (
    on_true (gathering.left == 0) (λ loaded. loads (zone_gathered gathering.gathered) (with_gathering None before) text after loaded) done.0,
    on_false (gathering.left == 0) (λ kept. keeps (session_seen seen) [] (with_gathering (Some gathering) before) text after kept) done.1,
  )

  gathers_or_loses : (gathering : Gathering) → Carries (session_seen seen) (GathersOrLoses (session_loader R) gathering) (GathersOrLoses (session_loader R') gathering)
  gathers_or_loses gathering before text after (inl done) = inl (gathers gathering before text after done)
  gathers_or_loses gathering before text after (inr done) = inr (done.0, gathers (lost gathering.left) before text after done.1)

  does_in_call : (act : CallAct) → Carries (call_seen seen) (DoesInCall R act) (DoesInCall R' act)
  does_in_call (hear words event) before text after done = hears (counts_line words []) event before.call before text after done
  does_in_call (set_clock ms) before text after done = sets_clock ms before text after done
  does_in_call (open_call kind base asked draws) before text after done = calls_uri kind base asked draws before text after done

  does_act : (act : Act) → Carries (session_seen seen) (DoesAct R act) (DoesAct R' act)
  does_act (says reply) before text after kept = (kept.0, ap (session_seen seen) kept.1)
  does_act (takes_zone apex lines) before text after (inl done) =
      inl (subst (λ limit. Gathers (session_loader R') (gathering_of apex lines limit) (session_seen seen before) text (session_seen seen after)) (implies.zone_octets before.desk)
      (gathers (gathering_of apex lines (R.zone_octets before.desk)) before text after done))
  does_act (takes_zone apex lines) before text after (inr done) = inr (gathers (lost lines) before text after done)
  does_act (asks asked) before text after done = on_desk seen (Asks R asked) (Asks R' asked) (asks_seen seen R R' implies asked) before text after done
  does_act (in_call act) before text after done = on_call seen (DoesInCall R act) (DoesInCall R' act) (does_in_call act) before text after done
  does_act (quits reply) before text after done = (done.0, ap (session_seen seen) done.1)

  obeys : (request : Request) → Carries (session_seen seen) (Obeys R request) (Obeys R' request)
  obeys request before text after (inl done) = inl (does_act (task_of request).act before text after done)
  obeys request before text after (inr fails) = inr (fails.0, (fails.1.0, ap (session_seen seen) fails.1.1))

  takes_line : (gathering : Option Gathering) (octets : Octets) → Carries (session_seen seen) (TakesLine R gathering octets) (TakesLine R' gathering octets)
  takes_line None octets before text after done = obeys (request_of octets) before text after done
  takes_line (Some gathering) octets before text after done = gathers_or_loses (after_line octets gathering) before text after done

  takes_end : (gathering : Option Gathering) → Carries (session_seen seen) (TakesEnd R gathering) (TakesEnd R' gathering)
  takes_end None before text after kept = (kept.0, ap (session_seen seen) kept.1)
  takes_end (Some gathering) before text after done = gathers_or_loses (at_end gathering) before text after done

  takes_item : (item : Item) → Carries (session_seen seen) (TakesItem R item) (TakesItem R' item)
  takes_item (line octets) before text after done = takes_line before.gathering octets before text after done
  takes_item end_of_input before text after done = takes_end before.gathering before text after done

  may_reply : (before : SessionState D) (item : Item) (text : Octets) (after : SessionState D)
      → MayReply R before item text after → MayReply R' (session_seen seen before) item text (session_seen seen after)
  may_reply before item text after reply = (
    on_true before.ended (λ kept. keeps (session_seen seen) [] before text after kept) reply.0,
    on_false before.ended (λ taken. takes_item item before text after taken) reply.1,
  )

  -- ---- what a session writes

  may_pause : (before after : SessionState D) → MayPause R before after → MayPause R' (session_seen seen before) (session_seen seen after)
  may_pause before after pause = (implies.pauses before.desk after.desk pause.0, ap (session_seen seen) pause.1)

  pauses : (before : SessionState D) (states : List (SessionState D)) (after : SessionState D)
      → Pauses (session_protocol R) before states after → Pauses (session_protocol R') (session_seen seen before) (map (session_seen seen) states) (session_seen seen after)
  pauses before [] after same = ap (session_seen seen) same
  pauses before (next ∷ others) after paused = (may_pause before next paused.0, pauses next others after paused.1)

  waits : (before after : SessionState D) → Waits (session_protocol R) before after → Waits (session_protocol R') (session_seen seen before) (session_seen seen after)
  waits before after waited = (map (session_seen seen) waited.0, pauses before waited.0 after waited.1)

  serves : (items : List Item) (before : SessionState D) (text : Octets) (after : SessionState D)
      → Serves (session_protocol R) before items text after → Serves (session_protocol R') (session_seen seen before) items text (session_seen seen after)
  serves [] before text after done = (done.0, waits before after done.1)
  serves (item ∷ items) before text after done =
      record {
        reply = done.reply;
        replies = done.replies;
        between = session_seen seen done.between;
        first = (session_seen seen done.first.0, waits before done.first.0 done.first.1, may_reply done.first.0 item done.reply done.between done.first.2);
        others = serves items done.between done.replies after done.others;
        joined = done.joined;
      }

  appends_replies : (items : List Item) (before : SessionState D) (old : Octets) (after : SessionState D) (new : Octets)
      → AppendsReplies (session_protocol R) before items old after new → AppendsReplies (session_protocol R') (session_seen seen before) items old (session_seen seen after) new
  appends_replies items before old after new done = (done.0, serves items before done.0 after done.1, done.2)

  pub takes : (before after : SessionState D) (pending taken old pending' new : Octets)
      → Takes (session_protocol R) before pending taken old after pending' new → Takes (session_protocol R') (session_seen seen before) pending taken old (session_seen seen after) pending' new
  takes before after pending taken old pending' new t =
      record {
        replies = appends_replies (items_from pending taken) before old after new t.replies;
        pending_is = t.pending_is;
        same_state = λ none. ap (session_seen seen) (t.same_state none);
        same_pending = t.same_pending;
      }

  pub takes_first : (count : ℕ) (before after : SessionState D) (pending octets old pending' new : Octets)
      → TakesFirst (session_protocol R) count before pending octets old after pending' new → TakesFirst (session_protocol R') count (session_seen seen before) pending octets old (session_seen seen after) pending' new
  takes_first count before after pending octets old pending' new t =
      record {
        takes = takes before after pending (take count octets) old pending' new t.takes;
        ends = t.ends;
        line = t.line;
        within = t.within;
      }

  serves_all : (before : SessionState D) (unread old : Option Octets) (after : SessionState D) (new : Option Octets)
      → ServesAll (session_protocol R) before unread old after new → ServesAll (session_protocol R') (session_seen seen before) unread old (session_seen seen after) new
  serves_all before None old after new done = tt
  serves_all before (Some input) old after new done = (done.0, serves (items_of input) before done.0 after done.1, done.2)

  serves_prefix : (before : SessionState D) (unread old : Option Octets) (after : SessionState D) (new : Option Octets)
      → ServesPrefix (session_protocol R) before unread old after new → ServesPrefix (session_protocol R') (session_seen seen before) unread old (session_seen seen after) new
  serves_prefix before None old after new first = tt
  serves_prefix before (Some input) old after new first =
      record {
        done = first.done;
        rest = first.rest;
        sent = first.sent;
        unsent = first.unsent;
        split = first.split;
        serves = serves first.done before (first.sent ++ first.unsent) after first.serves;
        appended = first.appended;
      }

  serves_read : (before : SessionState D) (unread left old : Option Octets) (after : SessionState D) (new : Option Octets)
      → ServesRead (session_protocol R) before unread left old after new → ServesRead (session_protocol R') (session_seen seen before) unread left old (session_seen seen after) new
  serves_read before unread left old after new read =
      record {
        got = read.got;
        text = read.text;
        consumed = read.consumed;
        serves = serves (complete_items read.got) before read.text after read.serves;
        appended = read.appended;
      }

  serves_within : {A B : Type 0} (limit : ℕ) (result : Result Ended ServeFault) (remaining : A → Option Octets) (contents : B → Option Octets) (before after : SessionState D)
      (reader reader' : Tapped A) (writer writer' : Tapped B)
      → ServesWithin (session_protocol R) limit result remaining contents before after reader reader' writer writer'
      → ServesWithin (session_protocol R') limit result remaining contents (session_seen seen before) (session_seen seen after) reader reader' writer writer'
  serves_within limit result remaining contents before after reader reader' writer writer' s =
      let unread : Option Octets = remaining (tapped_inner reader) in
      let left : Option Octets = remaining (tapped_inner reader') in
      let old : Option Octets = contents (tapped_inner writer) in
      let new : Option Octets = contents (tapped_inner writer') in
      record {
        served = on_ok result (λ done. serves_all before unread old after new done) s.served;
        quit = s.quit;
        end_of_input = s.end_of_input;
        prefix = on_err result (λ first. serves_prefix before unread old after new first) s.prefix;
        interactive = on_read_fault result (λ read. serves_read before unread left old after new read) s.interactive;
        all_turns = on_too_many_turns result (λ read. serves_read before unread left old after new read) s.all_turns;
        reads_until_ended = s.reads_until_ended;
        turns_until_ended = s.turns_until_ended;
        reader_failed = s.reader_failed;
        writer_failed = s.writer_failed;
        too_many = s.too_many;
        at_most = s.at_most;
      }

  pub serves_desk : {A B : Type 0} (limit : ℕ) (result : Result Ended ServeFault) (remaining : A → Option Octets) (contents : B → Option Octets) (before after : D)
      (reader reader' : Tapped A) (writer writer' : Tapped B)
      → ServesDesk R limit result remaining contents before after reader reader' writer writer'
      → ServesDesk R' limit result remaining contents (seen before) (seen after) reader reader' writer writer'
  serves_desk limit result remaining contents before after reader reader' writer writer' s =
      record {
        session = session_seen seen s.session;
        desk = ap seen s.desk;
        serves = serves_within limit result remaining contents (new_session before) s.session reader reader' writer writer' s.serves;
      }
