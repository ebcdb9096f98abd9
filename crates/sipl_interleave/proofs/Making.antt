-- That the steps of workers are made as they are to be.
use Rattle.std.proofs.Common.{◌≡◌, ◌≢◌, ℕ, ◌<◌, leb, true, false, ◌||◌, List, [], ◌∷◌, zero, suc, length, set, Option, Some, None, option_map, Result, Ok, Err, IfSome, OnOk, inl, inr, refl, sym, ap, subst, ◌∙◌}
use Rattle.std.specs.List.{position}
use Rattle.std.proofs.lemmas.Bool.{cases_Bool, cond-true, cond-false, eq-eqb, leb-false}
use Rattle.std.proofs.lemmas.List.{set-get_or}
use Rattle.std.proofs.lemmas.Option.{none-some, same_Some}
use Rattle.sipl_records.specs.declared.data.Data.{Data}
use Rattle.sipl_records.specs.declared.record.Key.{Key}
use Rattle.std.specs.FinSet as fin_set
use Rattle.std.specs.Ordering.{nat_cmp}
use Rattle.sipl_repair.specs.QueueState.{QueueState, after_give_back, after_lease, after_settle, first_of, is_leased, with_first_leased}
use Rattle.sipl_repair.proofs.Public.{contains-insert, remove-insert}
use Rattle.sipl_uri.specs.declared.question.Question.{Question}
use Rattle.sipl_plans.specs.Findings.{Found, IsFound, IsSound}
use Rattle.sipl_plans.specs.Runs.{RunState}
use Rattle.sipl_book.specs.Book.{BookState, IsConsistent}
use Rattle.sipl_book.specs.Calls.{IsCommitted, IsLeased, IsSettled, after_commit, after_give_back as give_back, after_look, is_renumbered, with_looks}
use Rattle.sipl_book.specs.Honesty.{AreCurrent, WereRead}
use Rattle.sipl_book.specs.Repairs.{is_leased_for, is_outdated}
use Rattle.sipl_book.specs.declared.fault.BookFault.TheVariants.{JournalFull, Stale, Gone, Memory}
use Rattle.sipl_book.specs.declared.outcome.Handed.{Handed}
use Rattle.sipl_book.specs.declared.outcome.Uncommitted.{Uncommitted}
use Rattle.sipl_book.proofs.Public.{consistent_committed, current-numbered, space}
use Rattle.sipl_interleave.specs.Jobs.{Job, job_at, lease_of, new_run, refusal_of, run_of, with_item}
use Rattle.sipl_interleave.specs.Steps.{IsCommittedBy, IsLeasedBy, IsMade, IsRead, IsSettledBy, IsStarted, IsStep, Replies, worker_refusal, after_commit_by, commit_reply, is_memory, settle_reply}
use Rattle.sipl_interleave.specs.World.{IsWorld, WorldState}
use Rattle.sipl_interleave.specs.declared.act.Act.TheVariants.{Commit, Settle}
use Rattle.sipl_interleave.specs.declared.fault.WorldFault.TheVariants.{Book as OfBook}
use Rattle.sipl_interleave.specs.declared.reply.Reply.{Reply}
use Rattle.sipl_interleave.specs.declared.reply.Reply.TheVariants.{Answered, Leased, Started, Refused}
use Rattle.sipl_interleave.specs.declared.step.Step.{Step}
use Rattle.sipl_interleave.proofs.Jobs.{allowed, commit-job, settle-job}

-- ---- a run is begun

pub started-by : (old : WorldState) (w : ℕ) (question : Question) (run : RunState) (workers : List (Option Job))
    → workers ≡ set old.workers w (Some (record { run = run; lease = None })) → run ≡ new_run question old.book.client
    → Replies (λ _. Started) (IsStarted w question old (record { book = old.book; workers = workers })) Started
started-by old w question run workers after is =
    record {
      result = Ok tt;
      shown = refl;
      holds = record {
        workers = after ∙ ap (λ (r : RunState). set old.workers w (Some (record { run = r; lease = None }))) is;
        book = refl;
        memory = tt;
        unchanged = tt;
      };
    }

pub not_started : (old : WorldState) (w : ℕ) (question : Question) → Replies (λ _. Started) (IsStarted w question old old) (Refused (OfBook Memory))
not_started old w question =
    record { result = Err Memory; shown = refl; holds = record { workers = tt; book = refl; memory = refl; unchanged = refl } }

-- ---- a finding

-- a worker's run led to a finding, whose sets were read from the book
pub record IsFoundBy (old : WorldState) (w : ℕ) (found : Found) : Type 0 where
  pub within : w < length old.workers
  pub of_run : IfSome (job_at old.workers w) (λ job. IsFound job.run found)
  pub client : found.client ≡ old.book.client
  pub read : WereRead old.book.store found.items
  pub sound : IsSound found

pub found-by : (old : WorldState) (w : ℕ) (found : Found) (job : Job) → IsWorld old → w < length old.workers → job_at old.workers w ≡ Some job
    → IfSome (job_at old.workers w) (λ job. IsFound job.run found) → IsFoundBy old w found
found-by old w found job good within is of_run =
    let found_is : IsFound job.run found = subst (λ (o : Option Job). IfSome o (λ job. IsFound job.run found)) is of_run in
    let fresh = good.jobs w job is in
    record {
      within = within;
      of_run = of_run;
      client = found_is.client ∙ fresh.client;
      read = subst (WereRead old.book.store) (sym found_is.items) fresh.read;
      sound = found_is.sound;
    }

-- a worker that commits, without a lease
pub record Commits (old : WorldState) (w : ℕ) (found : Found) : Type 0 where
  pub finding : IsFoundBy old w found
  pub lease : lease_of (job_at old.workers w) ≡ None
  pub worker : job_at old.workers w ≡ Some (record { run = run_of found; lease = None })

pub commits : (old : WorldState) (w : ℕ) (found : Found) → IsWorld old → refusal_of w Commit old.workers ≡ None
    → IfSome (job_at old.workers w) (λ job. IsFound job.run found) → Commits old w found
commits old w found good none of_run =
    let may = allowed Commit old.workers w none in
    let p = commit-job (job_at old.workers w) may.job in
    let own = p.1 in
    let found_is : IsFound p.0.run found = subst (λ (o : Option Job). IfSome o (λ job. IsFound job.run found)) own.is of_run in
    record {
      finding = found-by old w found p.0 good may.within own.is of_run;
      lease = ap lease_of own.is ∙ own.lease;
      worker = own.is ∙ (λ i. Some (record {
        run = record { question = sym found_is.question i; client = sym found_is.client i; items = sym found_is.items i };
        lease = own.lease i;
      }));
    }

pub settles : (old : WorldState) (w : ℕ) (found : Found) → IsWorld old → refusal_of w Settle old.workers ≡ None
    → IfSome (job_at old.workers w) (λ job. IsFound job.run found) → IsFoundBy old w found
settles old w found good none of_run =
    let may = allowed Settle old.workers w none in
    let p = settle-job (job_at old.workers w) may.job in
    found-by old w found p.0 good may.within p.1.is of_run

-- ---- what is accepted is current

no_place : (o : Option ℕ) → option_map Stale o ≡ None → o ≡ None
no_place None none = refl
no_place (Some place) none = cc

pub commit-current : (old : WorldState) (book : BookState) (w : ℕ) (words : List ℕ) (found : Found) (handed : Handed) → IsFoundBy old w found
    → IsCommitted is_renumbered found words old.book old.book book (Ok handed) → AreCurrent old.book.store found.items
commit-current old book w words found handed finding commit =
    current-numbered old.book.store found.items finding.read.honest (elim (cases_Bool (leb old.book.max_events (length old.book.journal))) [
      | inl full ↦ let never : Some JournalFull ≡ None = sym (cond-true _ _ _ full) ∙ commit.accepted in cc
      | inr space ↦ no_place (position (is_renumbered old.book.store) found.items) (sym (cond-false _ _ _ space) ∙ commit.accepted)
    ])

pub settle-current : (old : WorldState) (book : BookState) (w id : ℕ) (found : Found) (result : Result (Unit {0}) Uncommitted) → IsFoundBy old w found
    → IsSettled is_renumbered id found old.book old.book book result → OnOk result (AreCurrent old.book.store found.items)
settle-current old book w id found (Err refused) finding settle = tt
settle-current old book w id found (Ok done) finding settle =
    current-numbered old.book.store found.items finding.read.honest (elim (cases_Bool (is_leased_for old.book.entries old.book.queue id found.question)) [
      | inl own ↦ no_place (position (is_renumbered old.book.store) found.items) (sym (cond-true _ _ _ own) ∙ settle.accepted)
      | inr other ↦ let never : Some Gone ≡ None = sym (cond-false _ _ _ other) ∙ settle.accepted in cc
    ])

-- ---- a commit

-- what always holds of a book holds after a commit
pub consistent-commit : (old : WorldState) (book : BookState) (w : ℕ) (words : List ℕ) (found : Found) (handed : Handed) → IsWorld old → IsFoundBy old w found
    → IsCommitted is_renumbered found words old.book old.book book (Ok handed) → IsConsistent (after_commit found words old.book)
consistent-commit old book w words found handed good finding commit =
    consistent_committed old.book found words good.book finding.sound finding.client (leb-false _ _ (space old.book _ commit.accepted).0)
    (commit-current old book w words found handed finding commit)

pub committed-by : (old : WorldState) (book : BookState) (w : ℕ) (words : List ℕ) (found : Found) (handed : Handed) (workers : List (Option Job))
    → IsFoundBy old w found → IsCommitted is_renumbered found words old.book old.book book (Ok handed) → workers ≡ set old.workers w None
    → IsCommittedBy w words old (record { book = book; workers = workers }) (Answered handed)
committed-by old book w words found handed workers finding commit after =
    record {
      found = found;
      result = Ok handed;
      of_run = finding.of_run;
      commit = commit;
      current = commit-current old book w words found handed finding commit;
      shown = refl;
      workers = after;
    }

pub not_committed-by : (old : WorldState) (book : BookState) (w : ℕ) (words : List ℕ) (found : Found) (refused : Uncommitted) (workers : List (Option Job)) (reply : Reply)
    → IsFoundBy old w found → IsCommitted is_renumbered found words old.book old.book book (Err refused)
    → reply ≡ commit_reply (Err refused) → workers ≡ after_commit_by w (Err refused) old.workers
    → IsCommittedBy w words old (record { book = book; workers = workers }) reply
not_committed-by old book w words found refused workers reply finding commit shown after =
    record {
      found = found;
      result = Err refused;
      of_run = finding.of_run;
      commit = commit;
      current = tt;
      shown = shown;
      workers = after;
    }

-- a worker that is idle and is given its finding back is as it was
pub as_before : (old : WorldState) (w : ℕ) (found kept : Found) (idle workers : List (Option Job)) → Commits old w found → kept ≡ found
    → idle ≡ set old.workers w None → workers ≡ set idle w (Some (record { run = run_of kept; lease = None })) → workers ≡ old.workers
as_before old w found kept idle workers was same emptied given =
    given
    ∙ (λ i. set (emptied i) w (Some (record { run = run_of (same i); lease = None })))
    ∙ set-set old.workers w None (Some (record { run = run_of found; lease = None }))
    ∙ ap (set old.workers w) (sym was.worker)
    ∙ set-get_or old.workers w None
  where
    set-set : (ws : List (Option Job)) (k : ℕ) (a b : Option Job) → set (set ws k a) k b ≡ set ws k b
    set-set [] k a b = refl
    set-set (x ∷ ws) zero a b = refl
    set-set (x ∷ ws) (suc k) a b = ap (λ xs. x ∷ xs) (set-set ws k a b)

pub memory-by : (old : WorldState) (book : BookState) (w : ℕ) (words : List ℕ) (found kept : Found) (refused : Uncommitted) (idle workers : List (Option Job))
    → Commits old w found → IsCommitted is_renumbered found words old.book old.book book (Err refused) → refused.fault ≡ Memory
    → refused.finding ≡ kept → idle ≡ set old.workers w None → workers ≡ set idle w (Some (record { run = run_of kept; lease = None }))
    → IsCommittedBy w words old (record { book = book; workers = workers }) (Refused (OfBook Memory))
memory-by old book w words found kept refused idle workers was commit fault is emptied given =
    let memory = ap is_memory fault in
    not_committed-by old book w words found refused workers (Refused (OfBook Memory)) was.finding commit (sym (cond-true _ _ _ memory))
    (as_before old w found kept idle workers was (sym is ∙ commit.finding) emptied given ∙ sym (cond-true _ _ _ memory))

-- ---- a settlement

pub settled-by : (old : WorldState) (book : BookState) (w id : ℕ) (found : Found) (result : Result (Unit {0}) Uncommitted) (workers : List (Option Job)) (reply : Reply)
    → IsFoundBy old w found → lease_of (job_at old.workers w) ≡ Some id → IsSettled is_renumbered id found old.book old.book book result
    → reply ≡ settle_reply result → workers ≡ set old.workers w None
    → IsSettledBy w old (record { book = book; workers = workers }) reply
settled-by old book w id found (Ok done) workers reply finding lease settle shown after =
    record { found = found; id = id; result = Ok done; of_run = finding.of_run; lease = lease; settle = settle; current = settle-current old book w id found (Ok done) finding settle; shown = shown; workers = after }
settled-by old book w id found (Err refused) workers reply finding lease settle shown after =
    record { found = found; id = id; result = Err refused; of_run = finding.of_run; lease = lease; settle = settle; current = tt; shown = shown; workers = after }

-- ---- a set is read

-- the workers after one was given the set of the key that it wants
pub given-set : (workers new : List (Option Job)) (w : ℕ) (wants : Option Key) (k own : Key) (number : ℕ) (slice content : List Data)
    → Some own ≡ wants → k ≡ own → slice ≡ content
    → option_map (λ (key : Key). set workers w (with_item (record { key = key; number = number; content = slice }) (job_at workers w))) wants ≡ Some new
    → new ≡ set workers w (with_item (record { key = k; number = number; content = content }) (job_at workers w))
given-set workers new w wants k own number slice content is same value given =
    let at = λ (key : Key) (set_data : List Data). set workers w (with_item (record { key = key; number = number; content = set_data }) (job_at workers w)) in
    sym (same_Some (at own slice) new (ap (option_map (λ (key : Key). at key slice)) is ∙ given)) ∙ (λ i. at (sym same i) (value i))

-- ---- a lease

leased-first : (s : fin_set.FinSet nat_cmp) (id : ℕ) → fin_set.contains (fin_set.insert s id) id ≡ true
leased-first s id = contains-insert s id id ∙ ap (λ b. b || fin_set.contains s id) (eq-eqb id id refl)

-- a lease that is given back at once leaves the queue as it was
lent-back : (q : QueueState) (id : ℕ) → first_of q.queued ≡ Ok id → is_leased q id ≡ false → after_give_back (after_lease q) id ≡ q
lent-back q id first idle = by q.queued refl first where
  with : (x : ℕ) (rest : List ℕ) → q.queued ≡ x ∷ rest → x ≡ id → after_give_back (record q { queued = rest; leased = fin_set.insert q.leased x }) id ≡ q
  with x rest is same =
      ap (λ (n : ℕ). after_give_back (record q { queued = rest; leased = fin_set.insert q.leased n }) id) same
      ∙ cond-true _ _ _ (leased-first q.leased id)
      ∙ (λ i. record q { queued = (ap (λ n. n ∷ rest) (sym same) ∙ sym is) i; leased = remove-insert q.leased id idle i })

  by : (ids : List ℕ) → q.queued ≡ ids → first_of ids ≡ Ok id → after_give_back (with_first_leased q ids) id ≡ q
  by [] is none = cc
  by (x ∷ rest) is one = with x rest is cc

pub given-back : (old lent new : BookState) (id : ℕ) (question : Question) → IsLeased old lent (Ok (id, question)) → is_outdated old.entries id ≡ true
    → new ≡ give_back id lent → new ≡ old
given-back old lent new id question lease outdated back =
    back ∙ ap (give_back id) lease.after
    ∙ (λ i. record old { queue = (cond-true (is_outdated old.entries id) (after_give_back (after_lease old.queue) id) (after_settle (after_lease old.queue) id) outdated ∙ lent-back old.queue id lease.id lease.idle) i })

-- a read that fails after its look
pub not_read : (old : WorldState) (book : BookState) (workers : List (Option Job)) (w : ℕ) → book ≡ after_look old.book → workers ≡ old.workers
    → IsRead w old (record { book = book; workers = workers }) (Err Memory)
not_read old book workers w is same =
    record {
      key = tt;
      number = tt;
      content = tt;
      workers = tt;
      looked = tt;
      book = subst (λ (b : BookState). b ≡ with_looks b.store.looks old.book) (sym is) refl;
      counted = (1, ap (λ (b : BookState). b.store.looks) is);
      memory = refl;
      unchanged = same;
    }

-- what was leased was queued
pub was_queued : (old lent : BookState) (id : ℕ) (question : Question) → IsLeased old lent (Ok (id, question)) → old.queue.queued ≢ []
was_queued old lent id question lease = λ none.
    let never : first_of [] ≡ Ok id = ap first_of (sym none) ∙ lease.id in
    cc

pub not_leased-by : (old : WorldState) (book : BookState) (w : ℕ) → book ≡ old.book → old.book.queue.queued ≢ []
    → Replies (λ leased. Leased leased.1) (IsLeasedBy w old (record { book = book; workers = old.workers })) (Refused (OfBook Memory))
not_leased-by old book w same waits =
    record {
      result = Err Memory;
      shown = refl;
      holds = record {
        lease = record { id = tt; question = tt; idle = tt; after = tt; empty = λ some. absurd (some refl); memory = λ _. waits; unchanged = same };
        workers = tt;
        unchanged = refl;
      };
    }

-- ---- a step

-- a step of this form that no worker refuses
pub step-at : (step form : Step) (old new : WorldState) (reply : Reply) → step ≡ form → worker_refusal step old.workers ≡ None → IsMade form old new reply
    → IsStep step old new reply
step-at step form old new reply is none made =
    record {
      refused = λ fault refused. absurd (none-some fault (sym none ∙ refused));
      made = λ _. subst (λ (s : Step). IsMade s old new reply) (sym is) made;
    }
