-- A session at the plain machine: where no allocation fails, each item has one reply and leaves one state.
use Rattle.std.proofs.Common.{◌≡◌, ◌⊎◌, ℕ, List, [], ◌∷◌, ◌++◌, Bool, true, false, Option, None, Some, Result, Ok, Err, ◌==◌, refl, sym, ap, ◌∙◌, subst, inl, inr, append_assoc, codes}
use Rattle.std.specs.Bool.{OnTrue, OnFalse}
use Rattle.sipl_names.specs.Labels.{Octets}
use Rattle.sipl_choice.specs.declared.endpoint.Endpoint.{Endpoint}
use Rattle.sipl_srv.specs.declared.fault.DrawsFault.{DrawsFault}
use Rattle.sipl_uri.specs.declared.fault.UriFault.{UriFault}
use Rattle.sipl_uri.specs.declared.question.Question.{Question}
use Rattle.sipl_outages.specs.Holds.BoardEvent.{Hold, Advance}
use Rattle.sipl_plans.specs.declared.answer.Answer.{Answer}
use Rattle.sipl_plans.specs.declared.answer.Answer.TheVariants.{Targets, None as NoTarget}
use Rattle.sipl_tx.specs.declared.parts.Kind.{Kind}
use Rattle.sipl_failover.specs.FailoverRun.{FailoverRun, Event, has_ended}
use Rattle.sipl_failover.specs.FailoverRun.Event.{Ticked}
use Rattle.sipl_failover.specs.Rules.{after as after_event, refusal_of}
use Rattle.sipl_failover.specs.declared.fault.FailoverFault.{FailoverFault}
use Rattle.sipl_failover.specs.declared.step.Step.{Step}
use Rattle.sipl_book.specs.declared.fault.BookFault.{BookFault}
use Rattle.sipl_book.specs.declared.fault.BookFault.TheVariants.{Memory}
use Rattle.sipl_book.specs.declared.outcome.Handed.{Handed}
use Rattle.sipl_masterfile.specs.Zones.{Zone}
use Rattle.sipl_lines.specs.declared.gather.Gathering.{Gathering}
use Rattle.sipl_lines.specs.declared.gather.LoadFault.{LoadFault}
use Rattle.sipl_lines.specs.Commands.{Keeps, Asks, moves, zone_asked, CallAct, hear, set_clock, open_call, Act, says, takes_zone, asks, in_call, quits, task_of}
use Rattle.sipl_lines.specs.Calls.{CallDesk, with_call, hold_in, DoesInCall, MakesHold, Reports, GoesOn, Hears, Ticks, TellsTime, SetsClock, OpensOver, Opens, OpensFor, is_open, CallsTargets, CallsUnlessOpen, CallsUri, steps_text}
use Rattle.sipl_lines.specs.Gathering.{Gathers, GathersOrLoses, LoadsOrRefuses, gathering_of, after_line, at_end, load_fault_text, lost, zone_gathered}
use Rattle.sipl_lines.specs.Items.{Item, line, end_of_input}
use Rattle.sipl_lines.specs.OneReply.{AreEqualOrLost, EndsInMemory, with_lines_lost}
use Rattle.sipl_lines.specs.PlainDesk.{PlainState, find_ending, move_ending, plain_rules}
use Rattle.sipl_lines.specs.ReplyText.{counts_line, refusal_line}
use Rattle.sipl_lines.specs.Requests.{Request, request_of}
use Rattle.sipl_lines.specs.Session.{SessionState, with_desk, with_gathering, AtCall, AtDesk, DoesAct, MayReply, Obeys, TakesEnd, TakesItem, TakesLine, session_loader}
use Rattle.sipl_lines.proofs.DeskCalls.{HasOne, asks_one, ends_one, same_reply}

-- of two facts of a case the same one is known
split : {P P' Q Q' R : Type 0} (b : Bool) → (P → P' → R) → (Q → Q' → R) → OnTrue b P × OnFalse b Q → OnTrue b P' × OnFalse b Q' → R
split true so otherwise first second = so first.0 second.0
split false so otherwise first second = otherwise first.1 second.1

-- ---- what a command does with the call

makes_hold : (reply : Octets) (asked : Option (Endpoint × ℕ)) → HasOne (MakesHold plain_rules reply asked)
makes_hold reply None before t u a b kept kept' well well' = (kept.0 ∙ sym kept'.0, kept.1 ∙ sym kept'.1)
makes_hold reply (Some asked) before t u a b done done' well well' = asks_one (moves reply (Hold asked.0 asked.1)) before t u a b done done' well well'

-- a text whose last part ends so ends so
ends_after : (steps last text : Octets) → text ≡ steps ++ last → EndsInMemory last → EndsInMemory text
ends_after steps last text is ends =
    (steps ++ ends.0, is ∙ ap (λ rest. steps ++ rest) ends.1 ∙ sym (append_assoc steps ends.0 (refusal_line (codes "Memory"))))

reports : (reply : Octets) (run : FailoverRun) (steps : List Step) → HasOne (Reports plain_rules reply run steps)
reports reply run steps before t u a b done done' well well' =
    let told = makes_hold reply (hold_in steps) before done.0 done'.0 a b done.1 done'.1
    (λ ends. well (ends_after (steps_text run steps) done.0 t done.2 ends)) (λ ends. well' (ends_after (steps_text run steps) done'.0 u done'.2 ends)) in
    (done.2 ∙ ap (λ last. steps_text run steps ++ last) told.0 ∙ sym done'.2, told.1)

-- a desk with its call is the same where both are
same_call : {D : Type 0} (a b : CallDesk D) → a.desk ≡ b.desk → a.call ≡ b.call → a ≡ b
same_call a b desks calls = λ i. record { desk = desks i; call = calls i }

goes_on : (reply : Octets) (run : FailoverRun) (event : Event) (fault : Option FailoverFault) → HasOne (GoesOn plain_rules reply run event fault)
goes_on reply run event (Some fault) before t u a b kept kept' well well' = (kept.0 ∙ sym kept'.0, kept.1 ∙ sym kept'.1)
goes_on reply run event None before t u a b done done' well well' =
    let told = reports reply (after_event run event).run (after_event run event).steps before.desk t u a.desk b.desk done.0 done'.0 well well' in
    (told.0, same_call a b told.1 (done.1 ∙ sym done'.1))

hears : (reply : Octets) (event : Event) (heard : Option FailoverRun) → HasOne (Hears plain_rules reply event heard)
hears reply event None before t u a b kept kept' well well' = (kept.0 ∙ sym kept'.0, kept.1 ∙ sym kept'.1)
hears reply event (Some run) before t u a b done done' well well' = goes_on reply run event (refusal_of run event) before t u a b done done' well well'

ticks : (reply : Octets) (ms : ℕ) (told : Option FailoverRun) → HasOne (Ticks plain_rules reply ms told)
ticks reply ms None before t u a b kept kept' well well' = (kept.0 ∙ sym kept'.0, kept.1 ∙ sym kept'.1)
ticks reply ms (Some run) before t u a b done done' well well' =
    split (has_ended run)
    (λ kept kept'. same_reply reply before t u a b kept kept' well well')
    (λ goes goes'. goes_on reply run (Ticked ms) (refusal_of run (Ticked ms)) before t u a b goes goes' well well')
    done done'

tells_time : (ms : ℕ) (outcome : Result ℕ BookFault) → HasOne (TellsTime plain_rules ms outcome)
tells_time ms (Err fault) before t u a b kept kept' well well' = (kept.0 ∙ sym kept'.0, kept.1 ∙ sym kept'.1)
tells_time ms (Ok number) before t u a b done done' well well' = ticks (counts_line (codes "ok clock") (ms ∷ [])) ms before.call before t u a b done done' well well'

-- a clock that failed to be set for memory says so
time_memory : (ms : ℕ) (outcome : Result ℕ BookFault) (before : CallDesk PlainState) (t : Octets) (a : CallDesk PlainState) → outcome ≡ Err Memory → TellsTime plain_rules ms outcome before t a → EndsInMemory t
time_memory ms outcome before t a failed tells =
    let P : Result ℕ BookFault → Type 0 = λ o. TellsTime plain_rules ms o before t a in
    ([], (subst P failed tells).0)

sets_clock : (ms : ℕ) → HasOne (SetsClock plain_rules ms)
sets_clock ms before t u a b done done' well well' =
    let told = ends_one (move_ending (Advance ms)) before.desk done.0 done'.0 done.1 done'.1 done.2 done'.2
    (λ failed. well (time_memory ms done.0 (with_call done.1 before.call) t a failed done.3))
    (λ failed. well' (time_memory ms done'.0 (with_call done'.1 before.call) u b failed done'.3)) in
    let P : Result ℕ BookFault → Type 0 = λ o. TellsTime plain_rules ms o (with_call done'.1 before.call) u b in
    let Q : PlainState → Type 0 = λ m. TellsTime plain_rules ms done.0 (with_call m before.call) u b in
    tells_time ms done.0 (with_call done.1 before.call) t u a b done.3 (subst Q (sym told.1) (subst P (sym told.0) done'.3)) well well'

opens_over : (kind : Kind) (base moment : ℕ) (targets : List Endpoint) → HasOne (OpensOver kind base moment targets)
opens_over kind base moment [] before t u a b kept kept' well well' = (kept.0 ∙ sym kept'.0, kept.1 ∙ sym kept'.1)
opens_over kind base moment (first ∷ others) before t u a b opened opened' well well' = (opened.0 ∙ sym opened'.0, opened.1 ∙ sym opened'.1)

opens : (kind : Kind) (base moment : ℕ) (answer : Answer) → HasOne (Opens kind base moment answer)
opens kind base moment (NoTarget reason) before t u a b kept kept' well well' = (kept.0 ∙ sym kept'.0, kept.1 ∙ sym kept'.1)
opens kind base moment (Targets targets) before t u a b opened opened' well well' = opens_over kind base moment targets before t u a b opened opened' well well'

-- the call that an answer opens, at the time of one desk
opens_for : (kind : Kind) (base : ℕ) (outcome : Result Handed BookFault) (earlier : Option FailoverRun) (t u : Octets) (a b : CallDesk PlainState) → a.desk ≡ b.desk
    → OpensFor plain_rules kind base outcome earlier t a → OpensFor plain_rules kind base outcome earlier u b → (EndsInMemory t → ⊥) → (EndsInMemory u → ⊥) → (t ≡ u) × (a.call ≡ b.call)
opens_for kind base (Err fault) earlier t u a b desk kept kept' well well' = (kept.0 ∙ sym kept'.0, kept.1 ∙ sym kept'.1)
opens_for kind base (Ok handed) earlier t u a b desk opened opened' well well' =
    let moment : opened.0 ≡ opened'.0 = opened.1 ∙ ap (λ d. d.holds.now) desk ∙ sym opened'.1 in
    let P : ℕ → Type 0 = λ m. Opens kind base m handed.answer earlier u b.call in
    opens kind base opened.0 handed.answer earlier t u a.call b.call opened.2 (subst P (sym moment) opened'.2) well well'

-- an answer that failed for memory opens no call, and the reply says so
call_memory : (kind : Kind) (base : ℕ) (outcome : Result Handed BookFault) (earlier : Option FailoverRun) (t : Octets) (a : CallDesk PlainState) → outcome ≡ Err Memory → OpensFor plain_rules kind base outcome earlier t a → EndsInMemory t
call_memory kind base outcome earlier t a failed opened =
    let P : Result Handed BookFault → Type 0 = λ o. OpensFor plain_rules kind base o earlier t a in
    ([], (subst P failed opened).0)

calls_targets : (kind : Kind) (base : ℕ) (question : Question) (words : List ℕ) → HasOne (CallsTargets plain_rules kind base question words)
calls_targets kind base question words before t u a b done done' well well' =
    let told = ends_one (find_ending question words) before.desk done.0 done'.0 a.desk b.desk done.1 done'.1
    (λ failed. well (call_memory kind base done.0 before.call t a failed done.2))
    (λ failed. well' (call_memory kind base done'.0 before.call u b failed done'.2)) in
    let P : Result Handed BookFault → Type 0 = λ o. OpensFor plain_rules kind base o before.call u b in
    let opened = opens_for kind base done.0 before.call t u a b told.1 done.2 (subst P (sym told.0) done'.2) well well' in
    (opened.0, same_call a b told.1 opened.1)

calls_unless_open : (kind : Kind) (base : ℕ) (question : Question) (words : List ℕ) → HasOne (CallsUnlessOpen plain_rules kind base question words)
calls_unless_open kind base question words before t u a b done done' well well' =
    split (is_open before.call)
    (λ kept kept'. (kept.0 ∙ sym kept'.0, kept.1 ∙ sym kept'.1))
    (λ opened opened'. calls_targets kind base question words before t u a b opened opened' well well')
    done done'

calls_uri : (kind : Kind) (base : ℕ) (asked : Result Question UriFault) (draws : Result (List ℕ) DrawsFault) → HasOne (CallsUri plain_rules kind base asked draws)
calls_uri kind base (Err fault) draws before t u a b kept kept' well well' = (kept.0 ∙ sym kept'.0, kept.1 ∙ sym kept'.1)
calls_uri kind base (Ok question) (Err fault) before t u a b kept kept' well well' = (kept.0 ∙ sym kept'.0, kept.1 ∙ sym kept'.1)
calls_uri kind base (Ok question) (Ok words) before t u a b done done' well well' = calls_unless_open kind base question words before t u a b done done' well well'

does_in_call : (act : CallAct) → HasOne (DoesInCall plain_rules act)
does_in_call (hear words event) before t u a b done done' well well' = hears (counts_line words []) event before.call before t u a b done done' well well'
does_in_call (set_clock ms) before t u a b done done' well well' = sets_clock ms before t u a b done done' well well'
does_in_call (open_call kind base asked draws) before t u a b done done' well well' = calls_uri kind base asked draws before t u a b done done' well well'

-- ---- what a line does in the session

-- the session at the plain machine
abbrev pub State : Type 0
State = SessionState PlainState

on_desk : (Acts : PlainState → Octets → PlainState → Type 0) → HasOne Acts → HasOne {S = State} (AtDesk Acts)
on_desk Acts one before t u a b done done' well well' =
    let told = one before.desk t u a.desk b.desk done.0 done'.0 well well' in
    (told.0, done.1 ∙ ap (λ desk. with_desk desk before) told.1 ∙ sym done'.1)

on_call : (Acts : CallDesk PlainState → Octets → CallDesk PlainState → Type 0) → HasOne Acts → HasOne {S = State} (AtCall Acts)
on_call Acts one before t u a b done done' well well' =
    let told = one (with_call before.desk before.call) t u (with_call a.desk a.call) (with_call b.desk b.call) done.0 done'.0 well well' in
    (told.0, done.1 ∙ ap (λ at. record before { desk = at.desk; call = at.call }) told.1 ∙ sym done'.1)

loads : (read : Result Zone LoadFault) → HasOne {S = State} (LoadsOrRefuses (session_loader plain_rules) read)
loads (Ok loaded) = on_desk (Asks plain_rules (zone_asked loaded)) (asks_one (zone_asked loaded))
loads (Err fault) = same_reply (load_fault_text fault)

gathers : (gathering : Gathering) → HasOne {S = State} (Gathers (session_loader plain_rules) gathering)
gathers gathering before t u a b done done' well well' =
    split (gathering.left == 0)
    (λ loaded loaded'. loads (zone_gathered gathering.gathered) (with_gathering None before) t u a b loaded loaded' well well')
    (λ kept kept'. (kept.0 ∙ sym kept'.0, kept.1 ∙ sym kept'.1))
    done done'

-- the first state is the second one with the lines lost, of which so many are left
pub record IsLost (before a b : State) : Type 0 where
  pub lines : a ≡ with_lines_lost b
  pub left : ℕ
  pub taken : a ≡ with_gathering (Some (lost left)) before

-- the states are equal, or the lines are lost in one of them
abbrev pub OneOrLost : State → State → State → Type 0
OneOrLost before a b = (a ≡ b) ⊎ (IsLost before a b ⊎ IsLost before b a)

-- what is done has one text, and leaves one state but for lines that are lost
abbrev HasOneOrLost : (State → Octets → State → Type 0) → Type 0
HasOneOrLost Acts = (before : State) (t u : Octets) (a b : State) → Acts before t a → Acts before u b → (EndsInMemory t → ⊥) → (EndsInMemory u → ⊥) → (t ≡ u) × OneOrLost before a b

-- the lines are lost after the one, and not after the other: the reply to lost ones is `err Memory`
gathers_lost : (gathering : Gathering) (before : State) (t u : Octets) (a b : State) → Gathers (session_loader plain_rules) gathering before t a → Gathers (session_loader plain_rules) (lost gathering.left) before u b
    → (EndsInMemory u → ⊥) → (t ≡ u) × IsLost before b a
gathers_lost gathering before t u a b done lost_done well =
    split (gathering.left == 0)
    (λ loaded failed. absurd (well ([], failed.0)))
    (λ kept kept'. (kept.0 ∙ sym kept'.0, record { lines = kept'.1 ∙ ap (λ s. with_lines_lost s) (sym kept.1); left = gathering.left; taken = kept'.1 }))
    done lost_done

either_gathers : (gathering : Gathering) (before : State) (t u : Octets) (a b : State)
    → Gathers (session_loader plain_rules) gathering before t a ⊎ Gathers (session_loader plain_rules) (lost gathering.left) before t a
    → Gathers (session_loader plain_rules) gathering before u b ⊎ Gathers (session_loader plain_rules) (lost gathering.left) before u b
    → (EndsInMemory t → ⊥) → (EndsInMemory u → ⊥) → (t ≡ u) × OneOrLost before a b
either_gathers gathering before t u a b (inl done) (inl done') well well' =
    let one = gathers gathering before t u a b done done' well well' in (one.0, inl one.1)
either_gathers gathering before t u a b (inl done) (inr done') well well' =
    let one = gathers_lost gathering before t u a b done done' well' in (one.0, inr (inr one.1))
either_gathers gathering before t u a b (inr done) (inl done') well well' =
    let one = gathers_lost gathering before u t b a done' done well in (sym one.0, inr (inl one.1))
either_gathers gathering before t u a b (inr done) (inr done') well well' =
    let one = gathers (lost gathering.left) before t u a b done done' well well' in (one.0, inl one.1)

forget_cause : {P Q R : Type 0} → P ⊎ (Q × R) → P ⊎ R
forget_cause (inl done) = inl done
forget_cause (inr done) = inr done.1

gathers_or_loses : (gathering : Gathering) → HasOneOrLost (GathersOrLoses (session_loader plain_rules) gathering)
gathers_or_loses gathering before t u a b done done' well well' = either_gathers gathering before t u a b (forget_cause done) (forget_cause done') well well'

one : (Acts : State → Octets → State → Type 0) → HasOne Acts → HasOneOrLost Acts
one Acts has before t u a b done done' well well' = let is = has before t u a b done done' well well' in (is.0, inl is.1)

does_act : (act : Act) → HasOneOrLost (DoesAct plain_rules act)
does_act (says reply) = one (Keeps reply) (same_reply reply)
does_act (takes_zone apex lines) = either_gathers (gathering_of apex lines None)
does_act (asks asked) = one (AtDesk (Asks plain_rules asked)) (on_desk (Asks plain_rules asked) (asks_one asked))
does_act (in_call act) = one (AtCall (DoesInCall plain_rules act)) (on_call (DoesInCall plain_rules act) (does_in_call act))
does_act (quits reply) = λ before t u a b done done' well well'. (done.0 ∙ sym done'.0, inl (done.1 ∙ sym done'.1))

obeys : (request : Request) → HasOneOrLost (Obeys plain_rules request)
obeys request before t u a b (inl done) (inl done') well well' = does_act (task_of request).act before t u a b done done' well well'
obeys request before t u a b (inl done) (inr fails) well well' = absurd (well' ([], fails.1.0))
obeys request before t u a b (inr fails) done well well' = absurd (well ([], fails.1.0))

takes_line : (gathering : Option Gathering) (octets : Octets) → HasOneOrLost (TakesLine plain_rules gathering octets)
takes_line None octets before t u a b done done' well well' = obeys (request_of octets) before t u a b done done' well well'
takes_line (Some gathering) octets before t u a b done done' well well' = gathers_or_loses (after_line octets gathering) before t u a b done done' well well'

takes_end : (gathering : Option Gathering) → HasOneOrLost (TakesEnd plain_rules gathering)
takes_end None before t u a b kept kept' well well' = (kept.0 ∙ sym kept'.0, inl (kept.1 ∙ sym kept'.1))
takes_end (Some gathering) before t u a b done done' well well' = gathers_or_loses (at_end gathering) before t u a b done done' well well'

takes_item : (item : Item) → HasOneOrLost (TakesItem plain_rules item)
takes_item (line octets) before t u a b done done' well well' = takes_line before.gathering octets before t u a b done done' well well'
takes_item end_of_input before t u a b done done' well well' = takes_end before.gathering before t u a b done done' well well'

-- what is done in a case that is known
split_known : {P P' Q Q' R : Type 0} (b : Bool) → (b ≡ true → P → P' → R) → (b ≡ false → Q → Q' → R) → OnTrue b P × OnFalse b Q → OnTrue b P' × OnFalse b Q' → R
split_known true so otherwise first second = so refl first.0 second.0
split_known false so otherwise first second = otherwise refl first.1 second.1

-- the states are equal, or the session has not ended and the lines are lost in one of them
abbrev pub OneOrLosing : State → State → State → Type 0
OneOrLosing before a b = (a ≡ b) ⊎ ((before.ended ≡ false) × (IsLost before a b ⊎ IsLost before b a))

losing : (before a b : State) → before.ended ≡ false → OneOrLost before a b → OneOrLosing before a b
losing before a b ongoing (inl same) = inl same
losing before a b ongoing (inr lost_one) = inr (ongoing, lost_one)

pub reply_once : (item : Item) (before : State) (t u : Octets) (a b : State) → MayReply plain_rules before item t a → MayReply plain_rules before item u b
    → (EndsInMemory t → ⊥) → (EndsInMemory u → ⊥) → (t ≡ u) × OneOrLosing before a b
reply_once item before t u a b reply reply' well well' =
    split_known before.ended
    (λ ended kept kept'. (kept.0 ∙ sym kept'.0, inl (kept.1 ∙ sym kept'.1)))
    (λ ongoing taken taken'. let done = takes_item item before t u a b taken taken' well well' in (done.0, losing before a b ongoing done.1))
    reply reply'

either_lost : (before a b : State) → IsLost before a b ⊎ IsLost before b a → AreEqualOrLost a b
either_lost before a b (inl first) = inr (inl first.lines)
either_lost before a b (inr second) = inr (inr second.lines)

equal_or_lost : (before a b : State) → OneOrLosing before a b → AreEqualOrLost a b
equal_or_lost before a b (inl same) = inl same
equal_or_lost before a b (inr known) = either_lost before a b known.1

pub may_reply : (item : Item) (before : State) (t u : Octets) (a b : State) → MayReply plain_rules before item t a → MayReply plain_rules before item u b
    → (EndsInMemory t → ⊥) → (EndsInMemory u → ⊥) → (t ≡ u) × AreEqualOrLost a b
may_reply item before t u a b reply reply' well well' =
    let done = reply_once item before t u a b reply reply' well well' in (done.0, equal_or_lost before a b done.1)

-- ---- the end of the input

end_gathers : (gathering : Gathering) (before : State) (t u : Octets) (a b : State)
    → Gathers (session_loader plain_rules) (at_end gathering) before t a ⊎ Gathers (session_loader plain_rules) (lost 0) before t a
    → Gathers (session_loader plain_rules) (at_end gathering) before u b ⊎ Gathers (session_loader plain_rules) (lost 0) before u b
    → (EndsInMemory t → ⊥) → (EndsInMemory u → ⊥) → (t ≡ u) × (a ≡ b)
end_gathers gathering before t u a b (inl done) (inl done') well well' = gathers (at_end gathering) before t u a b done done' well well'
end_gathers gathering before t u a b (inl done) (inr failed) well well' = absurd (well' ([], failed.0.0))
end_gathers gathering before t u a b (inr failed) done well well' = absurd (well ([], failed.0.0))

ends : (gathering : Option Gathering) → HasOne {S = State} (TakesEnd plain_rules gathering)
ends None before t u a b kept kept' well well' = (kept.0 ∙ sym kept'.0, kept.1 ∙ sym kept'.1)
ends (Some gathering) before t u a b done done' well well' = end_gathers gathering before t u a b (forget_cause done) (forget_cause done') well well'

-- the end of the input leaves one state: no line is left to be taken
pub end_once : (before : State) (t u : Octets) (a b : State) → MayReply plain_rules before end_of_input t a → MayReply plain_rules before end_of_input u b
    → (EndsInMemory t → ⊥) → (EndsInMemory u → ⊥) → (t ≡ u) × (a ≡ b)
end_once before t u a b reply reply' well well' =
    split before.ended
    (λ kept kept'. (kept.0 ∙ sym kept'.0, kept.1 ∙ sym kept'.1))
    (λ taken taken'. ends before.gathering before t u a b taken taken' well well')
    reply reply'
