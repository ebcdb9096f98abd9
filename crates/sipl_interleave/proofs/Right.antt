-- That each answer is right, by the plain machine alone.
use Rattle.std.proofs.Common.{◌≡◌, ◌≢◌, ◌⊎◌, ℕ, ◌<◌, Bool, true, false, List, [], ◌∷◌, ◌++◌, set, length, Option, Some, None, option_map, Result, Ok, Err, IfSome, inl, inr, refl, sym, ap, subst, ◌∙◌}
use Rattle.std.proofs.lemmas.Bool.{cond-true, cond-false, eq-eqb}
use Rattle.std.proofs.lemmas.Option.{none-some, same_Some}
use Rattle.sipl_choice.specs.Abilities.{Client}
use Rattle.sipl_choice.specs.declared.endpoint.Endpoint.{Endpoint}
use Rattle.sipl_uri.specs.declared.question.Question.{Question}
use Rattle.sipl_outages.specs.declared.held.Held.{Held}
use Rattle.sipl_evidence.specs.Items.{Item}
use Rattle.sipl_outages.specs.Holds.BoardEvent.{Hold as HoldFor, Release as ReleaseOf, Advance as AdvanceTo}
use Rattle.sipl_plans.specs.Findings.{Found, IsFound}
use Rattle.sipl_book.specs.Book.{BookState, state_of}
use Rattle.sipl_book.specs.Calls.{IsChanged, MovesBoard, IsHanded, IsCommitted, IsSettled, IsForgotten, after_give_back, is_renumbered}
use Rattle.sipl_book.specs.Machine.{State, answer_in}
use Rattle.sipl_book.specs.Pages.{IsTurned, PageState, extent_of}
use Rattle.sipl_book.specs.declared.edit.Edit.{Edit}
use Rattle.sipl_book.specs.declared.event.Event.{Event}
use Rattle.sipl_book.specs.declared.event.Event.TheVariants.{Answer as Answers}
use Rattle.sipl_book.specs.declared.fault.BookFault.{BookFault}
use Rattle.sipl_book.specs.declared.fault.BookFault.TheVariants.{Gone, Memory}
use Rattle.sipl_book.specs.declared.outcome.Done.{Done}
use Rattle.sipl_book.specs.declared.outcome.Handed.{Handed}
use Rattle.sipl_book.specs.declared.outcome.Uncommitted.{Uncommitted}
use Rattle.sipl_book.proofs.Public.{differ}
use Rattle.sipl_interleave.specs.Jobs.{Job, job_at, lease_of, new_run, with_item}
use Rattle.sipl_interleave.specs.Plays.{AnswersAreRight, Asked, IsRightAnswer, Plays, after_event, asked_after, asked_by, event_of, journal_after, journal_with, with_event}
use Rattle.sipl_interleave.specs.Steps.{CallsBook, IsLeasedBy, IsMade, IsRead, IsStarted, IsStep, after_commit_by, commit_reply, is_memory, reply_of, settle_reply, worker_refusal}
use Rattle.sipl_interleave.specs.World.{IsWorld, WorldState, after_give_back_of}
use Rattle.sipl_interleave.specs.declared.act.Act.TheVariants.{Start as ToStart, Read as ToRead, Commit as ToCommit, Settle as ToSettle, Abandon as ToAbandon}
use Rattle.sipl_interleave.specs.declared.fault.WorldFault.{WorldFault}
use Rattle.sipl_interleave.specs.declared.fault.WorldFault.TheVariants.{Book as OfBook}
use Rattle.sipl_interleave.specs.declared.reply.Reply.{Reply}
use Rattle.sipl_interleave.specs.declared.reply.Reply.TheVariants.{Changed, Moved, Answered, Started, Read as ReadSet, Leased, Settled, Abandoned, Forgotten, Paged, Uncommitted as NotCommitted, Refused}
use Rattle.sipl_interleave.specs.declared.step.Step.{Step}
use Rattle.sipl_interleave.specs.declared.step.Step.TheVariants.{Change, Hold, Release, Advance, Hand, Start, Read, Commit, Lease, Settle, Abandon, Forget, Page}
use Rattle.sipl_interleave.proofs.Jobs.{allowed, commit-job, own_or_other}
use Rattle.sipl_interleave.proofs.Working.{IsSpent, gone_or_not, spent-refused}

-- the questions of the runs that are to be committed are those that were asked
abbrev pub Knows : Asked → List (Option Job) → Type 0
Knows asked workers = (w : ℕ) (job : Job) → job_at workers w ≡ Some job → job.lease ≡ None → asked w ≡ Some job.run.question

-- what a step shows of the plain machine
pub record IsRight (asked : Asked) (step : Step) (old new : WorldState) (reply : Reply) : Type 0 where
  pub client : new.book.client ≡ old.book.client
  pub held : new.book.held ≡ old.book.held
  pub state : state_of new.book ≡ after_event (event_of asked step reply) (state_of old.book)
  pub journal : new.book.journal ≡ journal_with asked step reply old.book.journal
  pub answer : IsRightAnswer old.book.client old.book.held (state_of old.book) asked step reply
  pub knows : Knows (asked_after step reply asked) new.workers

-- ---- a step that changes nothing of the plain machine

-- a reply that shows no event
pub record IsQuiet (asked : Asked) (step : Step) (old : WorldState) (reply : Reply) : Type 0 where
  pub event : event_of asked step reply ≡ None
  pub journal : (events : List Event) → journal_with asked step reply events ≡ events
  pub answer : IsRightAnswer old.book.client old.book.held (state_of old.book) asked step reply
  pub asking : asked_after step reply asked ≡ asked

quiet : (asked : Asked) (step : Step) (old new : WorldState) (reply : Reply) → IsQuiet asked step old reply → new.book.client ≡ old.book.client → new.book.held ≡ old.book.held
    → state_of new.book ≡ state_of old.book → new.book.journal ≡ old.book.journal → Knows asked new.workers → IsRight asked step old new reply
quiet asked step old new reply none client held state journal knows =
    record {
      client = client;
      held = held;
      state = state ∙ ap (λ (e : Option Event). after_event e (state_of old.book)) (sym none.event);
      journal = journal ∙ sym (none.journal old.book.journal);
      answer = none.answer;
      knows = subst (λ (a : Asked). Knows a new.workers) (sym none.asking) knows;
    }

-- nothing has changed
same : (asked : Asked) (step : Step) (old new : WorldState) (reply : Reply) → IsQuiet asked step old reply → Knows asked old.workers → new ≡ old
    → IsRight asked step old new reply
same asked step old new reply none knows is =
    quiet asked step old new reply none (ap (λ (x : WorldState). x.book.client) is) (ap (λ (x : WorldState). x.book.held) is) (ap (λ (x : WorldState). state_of x.book) is)
    (ap (λ (x : WorldState). x.book.journal) is) (subst (λ (ws : List (Option Job)). Knows asked ws) (ap (λ (x : WorldState). x.workers) (sym is)) knows)

refused : (asked : Asked) (step : Step) (old : WorldState) (fault : WorldFault) → IsQuiet asked step old (Refused fault)
refused asked step old fault = record { event = refl; journal = λ _. refl; answer = tt; asking = refl }

-- ---- the workers

keeps-idle : (asked : Asked) (workers : List (Option Job)) (w : ℕ) → Knows asked workers → w < length workers → Knows asked (set workers w None)
keeps-idle asked workers w knows within = λ v job is own. elim (own_or_other workers w v None within) [
  | inl here ↦ absurd (none-some job (sym here.1 ∙ is))
  | inr other ↦ knows v job (sym other.1 ∙ is) own
]

keeps-lent : (asked : Asked) (workers : List (Option Job)) (w : ℕ) (new : Job) (id : ℕ) → Knows asked workers → w < length workers → new.lease ≡ Some id
    → Knows asked (set workers w (Some new))
keeps-lent asked workers w new id knows within lent = λ v job is own. elim (own_or_other workers w v (Some new) within) [
  | inl here ↦ absurd (none-some id (sym own ∙ ap (λ (j : Job). j.lease) (sym (same_Some new job (sym here.1 ∙ is))) ∙ lent))
  | inr other ↦ knows v job (sym other.1 ∙ is) own
]

keeps-read : (asked : Asked) (workers : List (Option Job)) (w : ℕ) (item : Item) → Knows asked workers → w < length workers
    → Knows asked (set workers w (with_item item (job_at workers w)))
keeps-read asked workers w item knows within = λ v job is own. elim (own_or_other workers w v (with_item item (job_at workers w)) within) [
  | inl here ↦ ap asked here.0 ∙ read (job_at workers w) refl job (sym here.1 ∙ is) own
  | inr other ↦ knows v job (sym other.1 ∙ is) own
] where
  read : (worker : Option Job) → job_at workers w ≡ worker → (job : Job) → with_item item worker ≡ Some job → job.lease ≡ None → asked w ≡ Some job.run.question
  read None at job is own = absurd (none-some job is)
  read (Some was) at job is own =
      let with : Job = record { run = record { question = was.run.question; client = was.run.client; items = was.run.items ++ item ∷ [] }; lease = was.lease } in
      let here : with ≡ job = same_Some with job is in
      knows w was at (ap (λ (j : Job). j.lease) here ∙ own) ∙ ap (λ (j : Job). Some j.run.question) here

keeps-start : (asked : Asked) (workers : List (Option Job)) (w : ℕ) (question : Question) (client : Client) → Knows asked workers → w < length workers
    → Knows (asked_after (Start w question) Started asked) (set workers w (Some (record { run = new_run question client; lease = None })))
keeps-start asked workers w question client knows within = λ v job is own. elim (own_or_other workers w v (Some begun) within) [
  | inl here ↦ cond-true _ _ _ (eq-eqb v w here.0) ∙ ap (λ (j : Job). Some j.run.question) (same_Some begun job (sym here.1 ∙ is))
  | inr other ↦ cond-false _ _ _ (differ v w other.0) ∙ knows v job (sym other.1 ∙ is) own
] where
  begun : Job
  begun = record { run = new_run question client; lease = None }

-- ---- the steps that the book answers

module _ (asked : Asked) (old new : WorldState) (knows : Knows asked old.workers) where
  with-workers : new.workers ≡ old.workers → Knows asked new.workers
  with-workers same = subst (λ (ws : List (Option Job)). Knows asked ws) (sym same) knows

  changed : (edit : Edit) (result : Result Done BookFault) → CallsBook (IsChanged edit) old new result → IsRight asked (Change edit) old new (reply_of Changed result)
  changed edit (Ok done) made =
      let change = made.call in
      record {
        client = change.client;
        held = change.held;
        state = λ i. record { zones = change.zones i; holds = (change.board i).holds };
        journal = change.journal;
        answer = tt;
        knows = with-workers made.workers;
      }
  changed edit (Err fault) made =
      quiet asked (Change edit) old new (Refused (OfBook fault)) (refused asked (Change edit) old (OfBook fault)) (ap (λ (b : BookState). b.client) made.call.unchanged) (ap (λ (b : BookState). b.held) made.call.unchanged)
      (ap state_of made.call.unchanged) (ap (λ (b : BookState). b.journal) made.call.unchanged) (with-workers made.workers)

  unmoved : (step : Step) (fault : BookFault) → new.book ≡ old.book → new.workers ≡ old.workers → IsRight asked step old new (Refused (OfBook fault))
  unmoved step fault book workers =
      quiet asked step old new (Refused (OfBook fault)) (refused asked step old (OfBook fault)) (ap (λ (b : BookState). b.client) book) (ap (λ (b : BookState). b.held) book)
      (ap state_of book) (ap (λ (b : BookState). b.journal) book) (with-workers workers)

  held : (endpoint : Endpoint) (ms : ℕ) (result : Result ℕ BookFault) → CallsBook (MovesBoard (HoldFor endpoint ms)) old new result
      → IsRight asked (Hold endpoint ms) old new (reply_of Moved result)
  held endpoint ms (Ok number) made =
      record {
        client = ap (λ (b : BookState). b.client) made.call.after;
        held = ap (λ (b : BookState). b.held) made.call.after;
        state = ap state_of made.call.after;
        journal = ap (λ (b : BookState). b.journal) made.call.after;
        answer = tt;
        knows = with-workers made.workers;
      }
  held endpoint ms (Err fault) made = unmoved (Hold endpoint ms) fault made.call.unchanged made.workers

  released : (endpoint : Endpoint) (result : Result ℕ BookFault) → CallsBook (MovesBoard (ReleaseOf endpoint)) old new result
      → IsRight asked (Release endpoint) old new (reply_of Moved result)
  released endpoint (Ok number) made =
      record {
        client = ap (λ (b : BookState). b.client) made.call.after;
        held = ap (λ (b : BookState). b.held) made.call.after;
        state = ap state_of made.call.after;
        journal = ap (λ (b : BookState). b.journal) made.call.after;
        answer = tt;
        knows = with-workers made.workers;
      }
  released endpoint (Err fault) made = unmoved (Release endpoint) fault made.call.unchanged made.workers

  advanced : (to : ℕ) (result : Result ℕ BookFault) → CallsBook (MovesBoard (AdvanceTo to)) old new result
      → IsRight asked (Advance to) old new (reply_of Moved result)
  advanced to (Ok number) made =
      record {
        client = ap (λ (b : BookState). b.client) made.call.after;
        held = ap (λ (b : BookState). b.held) made.call.after;
        state = ap state_of made.call.after;
        journal = ap (λ (b : BookState). b.journal) made.call.after;
        answer = tt;
        knows = with-workers made.workers;
      }
  advanced to (Err fault) made = unmoved (Advance to) fault made.call.unchanged made.workers

  handed : (question : Question) (words : List ℕ) (result : Result Handed BookFault) → CallsBook (IsHanded question words) old new result
      → IsRight asked (Hand question words) old new (reply_of Answered result)
  handed question words (Ok given) made =
      record {
        client = ap (λ (b : BookState). b.client) made.call.after;
        held = ap (λ (b : BookState). b.held) made.call.after;
        state = ap state_of made.call.after;
        journal = ap (λ (b : BookState). b.journal) made.call.after ∙ ap (λ answer. old.book.journal ++ Answers question words answer ∷ []) (sym made.call.answer);
        answer = ap (λ answer. Some answer) (sym made.call.answer);
        knows = with-workers made.workers;
      }
  handed question words (Err fault) made = unmoved (Hand question words) fault made.call.unchanged made.workers

  forgotten : (question : Question) (result : Result (Unit {0}) BookFault) → CallsBook (IsForgotten question) old new result
      → IsRight asked (Forget question) old new (reply_of (λ _. Forgotten) result)
  forgotten question (Ok done) made =
      quiet asked (Forget question) old new Forgotten (record { event = refl; journal = λ _. refl; answer = tt; asking = refl }) (ap (λ (b : BookState). b.client) made.call.after) (ap (λ (b : BookState). b.held) made.call.after)
      (ap state_of made.call.after) (ap (λ (b : BookState). b.journal) made.call.after) (with-workers made.workers)
  forgotten question (Err fault) made = unmoved (Forget question) fault made.call.unchanged made.workers

  turned : (result : Result PageState BookFault) → CallsBook IsTurned old new result → IsRight asked Page old new (reply_of (λ page. Paged (extent_of page)) result)
  turned (Ok page) made =
      record {
        client = ap (λ (b : BookState). b.client) made.call.after;
        held = ap (λ (b : BookState). b.held) made.call.after;
        state = ap state_of made.call.after;
        journal = ap (λ (b : BookState). b.journal) made.call.after;
        answer = tt;
        knows = with-workers made.workers;
      }
  turned (Err fault) made = unmoved Page fault made.call.unchanged made.workers

  -- ---- the steps of a worker

  started : (w : ℕ) (question : Question) (result : Result (Unit {0}) BookFault) → w < length old.workers → IsStarted w question old new result
      → IsRight asked (Start w question) old new (reply_of (λ _. Started) result)
  started w question (Ok done) within made =
      record {
        client = ap (λ (b : BookState). b.client) made.book;
        held = ap (λ (b : BookState). b.held) made.book;
        state = ap state_of made.book;
        journal = ap (λ (b : BookState). b.journal) made.book;
        answer = tt;
        knows = subst (λ (ws : List (Option Job)). Knows (asked_after (Start w question) Started asked) ws) (sym made.workers)
            (keeps-start asked old.workers w question old.book.client knows within);
      }
  started w question (Err fault) within made = same asked (Start w question) old new (Refused (OfBook fault)) (refused asked (Start w question) old (OfBook fault)) knows made.unchanged

  read : (w : ℕ) (result : Result Item BookFault) → w < length old.workers → IsRead w old new result → IsRight asked (Read w) old new (reply_of ReadSet result)
  read w (Ok item) within made =
      quiet asked (Read w) old new (ReadSet item) (record { event = refl; journal = λ _. refl; answer = tt; asking = refl }) (ap (λ (b : BookState). b.client) made.book) (ap (λ (b : BookState). b.held) made.book)
      (ap state_of made.book) (ap (λ (b : BookState). b.journal) made.book)
      (subst (λ (ws : List (Option Job)). Knows asked ws) (sym made.workers) (keeps-read asked old.workers w item knows within))
  read w (Err fault) within made =
      quiet asked (Read w) old new (Refused (OfBook fault)) (refused asked (Read w) old (OfBook fault)) (ap (λ (b : BookState). b.client) made.book) (ap (λ (b : BookState). b.held) made.book)
      (ap state_of made.book) (ap (λ (b : BookState). b.journal) made.book) (with-workers made.unchanged)

  lent : (w : ℕ) (result : Result (ℕ × Question) BookFault) → w < length old.workers → IsLeasedBy w old new result
      → IsRight asked (Lease w) old new (reply_of (λ leased. Leased leased.1) result)
  lent w (Ok leased) within made =
      quiet asked (Lease w) old new (Leased leased.1) (record { event = refl; journal = λ _. refl; answer = tt; asking = refl }) (ap (λ (b : BookState). b.client) made.lease.after) (ap (λ (b : BookState). b.held) made.lease.after)
      (ap state_of made.lease.after) (ap (λ (b : BookState). b.journal) made.lease.after)
      (subst (λ (ws : List (Option Job)). Knows asked ws) (sym made.workers)
      (keeps-lent asked old.workers w (record { run = new_run leased.1 old.book.client; lease = Some leased.0 }) leased.0 knows within refl))
  lent w (Err fault) within made = unmoved (Lease w) fault made.lease.unchanged made.unchanged

  committed : (w : ℕ) (words : List ℕ) (job : Job) (found : Found) (result : Result Handed Uncommitted) → w < length old.workers
      → job_at old.workers w ≡ Some job → job.lease ≡ None → IsFound job.run found
      → IsCommitted is_renumbered found words old.book old.book new.book result → new.workers ≡ after_commit_by w result old.workers
      → IsRight asked (Commit w words) old new (commit_reply result)
  committed w words job found (Ok given) within at own found_is commit workers =
      let question : asked w ≡ Some found.question = knows w job at own ∙ ap (λ (q : Question). Some q) (sym found_is.question) in
      let event : event_of asked (Commit w words) (Answered given) ≡ Some (Answers found.question words given.answer) =
      ap (λ (o : Option Question). option_map (λ (question : Question × List ℕ). Answers question.0 question.1 given.answer) (option_map (λ (q : Question). (q, words)) o)) question in
      record {
        client = ap (λ (b : BookState). b.client) commit.after;
        held = ap (λ (b : BookState). b.held) commit.after;
        state = ap state_of commit.after ∙ ap (λ (e : Option Event). after_event e (state_of old.book)) (sym event);
        journal = ap (λ (b : BookState). b.journal) commit.after ∙ ap (λ answer. old.book.journal ++ Answers found.question words answer ∷ []) (sym commit.answer)
            ∙ ap (λ (e : Option Event). with_event e old.book.journal) (sym event);
        answer = ap (λ (o : Option Question). option_map (λ (question : Question × List ℕ). answer_in (state_of old.book) question.0 old.book.client old.book.held question.1) (option_map (λ (q : Question). (q, words)) o)) question
            ∙ ap (λ answer. Some answer) (sym commit.answer);
        knows = subst (λ (ws : List (Option Job)). Knows asked ws) (sym workers) (keeps-idle asked old.workers w knows within);
      }
  committed w words job found (Err refusal) within at own found_is commit workers = by (is_memory refusal.fault) refl where
    by : (b : Bool) → is_memory refusal.fault ≡ b → IsRight asked (Commit w words) old new (commit_reply (Err refusal))
    by true is =
        subst (IsRight asked (Commit w words) old new) (sym (cond-true _ _ _ is))
        (unmoved (Commit w words) Memory commit.unchanged (workers ∙ cond-true _ _ _ is))
    by false is =
        subst (IsRight asked (Commit w words) old new) (sym (cond-false _ _ _ is))
        (quiet asked (Commit w words) old new (NotCommitted refusal) (record { event = refl; journal = λ _. refl; answer = tt; asking = refl }) (ap (λ (b : BookState). b.client) commit.unchanged) (ap (λ (b : BookState). b.held) commit.unchanged)
        (ap state_of commit.unchanged) (ap (λ (b : BookState). b.journal) commit.unchanged)
        (subst (λ (ws : List (Option Job)). Knows asked ws) (sym (workers ∙ cond-false _ _ _ is)) (keeps-idle asked old.workers w knows within)))

  settled : (w id : ℕ) (found : Found) (result : Result (Unit {0}) Uncommitted) → w < length old.workers
      → IsSettled is_renumbered id found old.book old.book new.book result → new.workers ≡ set old.workers w None
      → IsRight asked (Settle w) old new (settle_reply result)
  settled w id found (Ok done) within settle workers =
      quiet asked (Settle w) old new Settled (record { event = refl; journal = λ _. refl; answer = tt; asking = refl }) (ap (λ (b : BookState). b.client) settle.after) (ap (λ (b : BookState). b.held) settle.after)
      (ap state_of settle.after) (ap (λ (b : BookState). b.journal) settle.after)
      (subst (λ (ws : List (Option Job)). Knows asked ws) (sym workers) (keeps-idle asked old.workers w knows within))
  settled w id found (Err refusal) within settle workers =
      let after = spent-refused id found old.book new.book refusal settle in
      quiet asked (Settle w) old new (NotCommitted refusal) (record { event = refl; journal = λ _. refl; answer = tt; asking = refl }) after.client after.held
      (after_state after) after.journal
      (subst (λ (ws : List (Option Job)). Knows asked ws) (sym workers) (keeps-idle asked old.workers w knows within))
    where
      after_state : IsSpent id old.book new.book → state_of new.book ≡ state_of old.book
      after_state after = by (gone_or_not refusal.fault) where
        by : (refusal.fault ≡ Gone) ⊎ (refusal.fault ≢ Gone) → state_of new.book ≡ state_of old.book
        by (inl gone) = ap state_of (settle.gone gone)
        by (inr other) = ap state_of (settle.stale other)

  returned-book : (worker : Option Job) (book : BookState) → (P : BookState → Type 0) → P book → ((id : ℕ) → P (after_give_back id book)) → P (after_give_back_of worker book)
  returned-book worker book P none some = by (lease_of worker) where
    by : (o : Option ℕ) → P (elim o [ Some id ↦ after_give_back id book | None ↦ book ])
    by None = none
    by (Some id) = some id

  abandoned : (w : ℕ) → w < length old.workers → new.book ≡ after_give_back_of (job_at old.workers w) old.book → new.workers ≡ set old.workers w None
      → IsRight asked (Abandon w) old new Abandoned
  abandoned w within book workers =
      let worker = job_at old.workers w in
      quiet asked (Abandon w) old new Abandoned (record { event = refl; journal = λ _. refl; answer = tt; asking = refl })
      (ap (λ (b : BookState). b.client) book ∙ returned-book worker old.book (λ b. b.client ≡ old.book.client) refl (λ id. refl))
      (ap (λ (b : BookState). b.held) book ∙ returned-book worker old.book (λ b. b.held ≡ old.book.held) refl (λ id. refl))
      (ap state_of book ∙ returned-book worker old.book (λ b. state_of b ≡ state_of old.book) refl (λ id. refl))
      (ap (λ (b : BookState). b.journal) book ∙ returned-book worker old.book (λ b. b.journal ≡ old.book.journal) refl (λ id. refl))
      (subst (λ (ws : List (Option Job)). Knows asked ws) (sym workers) (keeps-idle asked old.workers w knows within))

-- ---- any step

made-right : (asked : Asked) (step : Step) (old new : WorldState) (reply : Reply) → Knows asked old.workers → worker_refusal step old.workers ≡ None
    → IsMade step old new reply → IsRight asked step old new reply
made-right asked (Change edit) old new reply knows none made = subst (IsRight asked (Change edit) old new) (sym made.shown) (changed asked old new knows edit made.result made.holds)
made-right asked (Hold endpoint ms) old new reply knows none made = subst (IsRight asked (Hold endpoint ms) old new) (sym made.shown) (held asked old new knows endpoint ms made.result made.holds)
made-right asked (Release endpoint) old new reply knows none made = subst (IsRight asked (Release endpoint) old new) (sym made.shown) (released asked old new knows endpoint made.result made.holds)
made-right asked (Advance to) old new reply knows none made = subst (IsRight asked (Advance to) old new) (sym made.shown) (advanced asked old new knows to made.result made.holds)
made-right asked (Hand question words) old new reply knows none made = subst (IsRight asked (Hand question words) old new) (sym made.shown) (handed asked old new knows question words made.result made.holds)
made-right asked (Forget question) old new reply knows none made = subst (IsRight asked (Forget question) old new) (sym made.shown) (forgotten asked old new knows question made.result made.holds)
made-right asked Page old new reply knows none made = subst (IsRight asked Page old new) (sym made.shown) (turned asked old new knows made.result made.holds)
made-right asked (Start w question) old new reply knows none made =
    subst (IsRight asked (Start w question) old new) (sym made.shown) (started asked old new knows w question made.result (allowed ToStart old.workers w none).within made.holds)
made-right asked (Read w) old new reply knows none made =
    subst (IsRight asked (Read w) old new) (sym made.shown) (read asked old new knows w made.result (allowed ToRead old.workers w none).within made.holds)
made-right asked (Lease w) old new reply knows none made =
    subst (IsRight asked (Lease w) old new) (sym made.shown) (lent asked old new knows w made.result (allowed ToStart old.workers w none).within made.holds)
made-right asked (Commit w words) old new reply knows none made =
    let may = allowed ToCommit old.workers w none in
    let p = commit-job (job_at old.workers w) may.job in
    let found_is : IsFound p.0.run made.found = subst (λ (o : Option Job). IfSome o (λ job. IsFound job.run made.found)) p.1.is made.of_run in
    subst (IsRight asked (Commit w words) old new) (sym made.shown)
    (committed asked old new knows w words p.0 made.found made.result may.within p.1.is p.1.lease found_is made.commit made.workers)
made-right asked (Settle w) old new reply knows none made =
    subst (IsRight asked (Settle w) old new) (sym made.shown) (settled asked old new knows w made.id made.found made.result (allowed ToSettle old.workers w none).within made.settle made.workers)
made-right asked (Abandon w) old new reply knows none made =
    subst (IsRight asked (Abandon w) old new) (sym made.shown) (abandoned asked old new knows w (allowed ToAbandon old.workers w none).within made.book made.workers)

pub step-right : (asked : Asked) (step : Step) (old new : WorldState) (reply : Reply) → Knows asked old.workers → IsStep step old new reply → IsRight asked step old new reply
step-right asked step old new reply knows made = by (worker_refusal step old.workers) refl where
  by : (o : Option WorldFault) → worker_refusal step old.workers ≡ o → IsRight asked step old new reply
  by None is = made-right asked step old new reply knows is (made.made is)
  by (Some fault) is =
      let nothing = made.refused fault is in
      subst (IsRight asked step old new) (sym nothing.0) (same asked step old new (Refused fault) (refused asked step old fault) knows nothing.1)

-- ---- steps one after the other

pub plays-push : (steps : List Step) (old mid new : WorldState) (replies : List Reply) (step : Step) (reply : Reply) → Plays steps old replies mid → IsStep step mid new reply → IsWorld new
    → Plays (steps ++ step ∷ []) old (replies ++ reply ∷ []) new
plays-push [] old mid new [] step reply before last good = (new, subst (λ (w : WorldState). IsStep step w new reply) before last, good, refl)
plays-push [] old mid new (r ∷ replies) step reply before last good = absurd before
plays-push (s ∷ steps) old mid new [] step reply before last good = absurd before
plays-push (s ∷ steps) old mid new (r ∷ replies) step reply before last good =
    (before.0, before.1, before.2, plays-push steps before.0 mid new replies step reply before.3 last good)

pub all-right : (asked : Asked) (steps : List Step) (old new : WorldState) (replies : List Reply) → Knows asked old.workers → Plays steps old replies new
    → AnswersAreRight old.book.client old.book.held (state_of old.book) asked steps replies
all-right asked [] old new replies knows plays = tt
all-right asked (step ∷ steps) old new [] knows plays = absurd plays
all-right asked (step ∷ steps) old new (reply ∷ replies) knows plays =
    let right = step-right asked step old plays.0 reply knows plays.1 in (
      right.answer,
      subst (λ (p : Client × Held × State). AnswersAreRight p.0 p.1 p.2 (asked_after step reply asked) steps replies) (λ i. (right.client i, right.held i, right.state i))
          (all-right (asked_after step reply asked) steps plays.0 new replies right.knows plays.3),
    )

pub all-journal : (asked : Asked) (steps : List Step) (old new : WorldState) (replies : List Reply) → Knows asked old.workers → Plays steps old replies new
    → new.book.journal ≡ journal_after asked steps replies old.book.journal
all-journal asked [] old new [] knows plays = ap (λ (w : WorldState). w.book.journal) plays
all-journal asked [] old new (reply ∷ replies) knows plays = absurd plays
all-journal asked (step ∷ steps) old new [] knows plays = absurd plays
all-journal asked (step ∷ steps) old new (reply ∷ replies) knows plays =
    let right = step-right asked step old plays.0 reply knows plays.1 in
    all-journal (asked_after step reply asked) steps plays.0 new replies right.knows plays.3
    ∙ ap (journal_after (asked_after step reply asked) steps replies) right.journal

pub asked-knows : (workers : List (Option Job)) → Knows (asked_by workers) workers
asked-knows workers w job is own = ap (λ (o : Option Job). option_map (λ (j : Job). j.run.question) o) is
