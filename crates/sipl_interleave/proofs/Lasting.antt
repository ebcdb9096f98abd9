-- What always holds of a world holds after each step.
use Rattle.std.proofs.Common.{◌≡◌, ℕ, ◌<◌, Bool, true, false, List, length, set, Option, Some, None, Result, Ok, Err, IfSome, refl, sym, ap, subst, ◌∙◌}
use Rattle.std.specs.Prelude.{if◌then◌else◌}
use Rattle.std.proofs.lemmas.Bool.{cond-true, cond-false}
use Rattle.sipl_outages.specs.Holds.BoardEvent.{Hold as HoldFor, Release as ReleaseOf, Advance as AdvanceTo}
use Rattle.sipl_uri.specs.declared.question.Question.{Question}
use Rattle.sipl_evidence.specs.Items.{Item}
use Rattle.sipl_plans.specs.Findings.{Found, IsFound}
use Rattle.sipl_book.specs.Book.{BookState}
use Rattle.sipl_book.specs.Calls.{IsCommitted, IsSettled, after_give_back, is_renumbered}
use Rattle.sipl_book.specs.declared.fault.BookFault.{BookFault}
use Rattle.sipl_book.specs.declared.outcome.Handed.{Handed}
use Rattle.sipl_book.specs.declared.outcome.Uncommitted.{Uncommitted}
use Rattle.sipl_book.proofs.Public.{given-now, set_is_set}
use Rattle.sipl_interleave.specs.Jobs.{Job, job_at, lease_of, new_run}
use Rattle.sipl_interleave.specs.Steps.{IsLeasedBy, IsMade, IsRead, IsStarted, IsStep, after_commit_by, is_memory, worker_refusal}
use Rattle.sipl_interleave.specs.World.{IsWorld, WorldState, after_give_back_of}
use Rattle.sipl_interleave.specs.declared.act.Act.TheVariants.{Start as ToStart, Read as ToRead, Commit as ToCommit, Settle as ToSettle, Abandon as ToAbandon}
use Rattle.sipl_interleave.specs.declared.fault.WorldFault.{WorldFault}
use Rattle.sipl_interleave.specs.declared.reply.Reply.{Reply}
use Rattle.sipl_interleave.specs.declared.step.Step.{Step}
use Rattle.sipl_interleave.specs.declared.step.Step.TheVariants.{Change, Hold, Release, Advance, Hand, Start, Read, Commit, Lease, Settle, Abandon, Forget, Page}
use Rattle.sipl_interleave.proofs.Jobs.{Allows, IsOwn, allowed, commit-job, settle-job, start-job}
use Rattle.sipl_interleave.proofs.Keeping.{same-world}
use Rattle.sipl_interleave.proofs.Making.{consistent-commit, found-by, settle-current}
use Rattle.sipl_interleave.proofs.Moving.{world-board, world-changed, world-forgotten, world-handed, world-turned}
use Rattle.sipl_interleave.proofs.Working.{spent-by_settling, spent-return, stays, world-committed, world-idle, world-leased, world-looked, world-read, world-refused, world-spent, world-started}

-- a world with these workers
with-workers : (new : WorldState) (workers : List (Option Job)) → new.workers ≡ workers → IsWorld (record { book = new.book; workers = workers }) → IsWorld new
with-workers new workers is so = subst (λ (ws : List (Option Job)). IsWorld (record { book = new.book; workers = ws })) (sym is) so

module _ (old new : WorldState) (good : IsWorld old) where
  -- ---- runs

  started : (w : ℕ) (question : Question) (result : Result (Unit {0}) BookFault) → worker_refusal (Start w question) old.workers ≡ None
      → IsStarted w question old new result → IsWorld new
  started w question (Ok done) none made =
      let may = allowed ToStart old.workers w none in
      let begun = world-started old w (new_run question old.book.client) good may.within (start-job _ may.job) refl refl in
      with-workers new _ made.workers (subst (λ (b : BookState). IsWorld (record { book = b; workers = set old.workers w (Some (record { run = new_run question old.book.client; lease = None })) })) (sym made.book) begun)
  started w question (Err fault) none made = subst IsWorld (sym made.unchanged) good

  read : (w : ℕ) (result : Result Item BookFault) → worker_refusal (Read w) old.workers ≡ None → IsRead w old new result → IsWorld new
  read w (Ok item) none made =
      let may = allowed ToRead old.workers w none in
      let is_set = set_is_set old.book.store item.key good.book.store in
      with-workers new _ made.workers
      (world-read old new.book w item good may.within made.looked (rw (made.number, made.content) is_set.number)
      (given-now old.book.store item good.book.store (sym made.number) (sym made.content)) (sym made.content))
  read w (Err fault) none made = with-workers new _ made.unchanged (world-looked new.book.store.looks old new.book good made.book)

  committed : (w : ℕ) (words : List ℕ) (found : Found) (result : Result Handed Uncommitted) → worker_refusal (Commit w words) old.workers ≡ None
      → IfSome (job_at old.workers w) (λ job. IsFound job.run found) → IsCommitted is_renumbered found words old.book old.book new.book result
      → new.workers ≡ after_commit_by w result old.workers → IsWorld new
  committed w words found result none of_run commit workers = by result commit workers
    where
      may : Allows ToCommit old.workers w
      may = allowed ToCommit old.workers w none

      own : (job : Job) × IsOwn (job_at old.workers w) job
      own = commit-job (job_at old.workers w) may.job

      lease : lease_of (job_at old.workers w) ≡ None
      lease = ap lease_of own.1.is ∙ own.1.lease

      refused : (fault : BookFault) (b : Bool) → is_memory fault ≡ b → new.book ≡ old.book
          → new.workers ≡ (if is_memory fault then old.workers else set old.workers w None) → IsWorld new
      refused fault true is book workers = with-workers new old.workers (workers ∙ cond-true _ _ _ is) (same-world old new.book good book)
      refused fault false is book workers =
          with-workers new (set old.workers w None) (workers ∙ cond-false _ _ _ is) (world-refused old new.book w good may.within lease book)

      by : (result : Result Handed Uncommitted) → IsCommitted is_renumbered found words old.book old.book new.book result
          → new.workers ≡ after_commit_by w result old.workers → IsWorld new
      by (Ok handed) commit workers =
          with-workers new (set old.workers w None) workers
          (world-committed old new.book w found words good may.within lease
          (consistent-commit old new.book w words found handed good (found-by old w found own.0 good may.within own.1.is of_run) commit) commit.after)
      by (Err uncommitted) commit workers = refused uncommitted.fault (is_memory uncommitted.fault) refl commit.unchanged workers

  -- ---- leases

  leased : (w : ℕ) (result : Result (ℕ × Question) BookFault) → worker_refusal (Lease w) old.workers ≡ None → IsLeasedBy w old new result → IsWorld new
  leased w (Ok lent) none made =
      let may = allowed ToStart old.workers w none in
      with-workers new _ made.workers
      (world-leased old new.book w lent.0 lent.1 (new_run lent.1 old.book.client) good may.within (start-job _ may.job) made.lease refl refl)
  leased w (Err fault) none made = with-workers new _ made.unchanged (same-world old new.book good made.lease.unchanged)

  settled : (w id : ℕ) (found : Found) (result : Result (Unit {0}) Uncommitted) → worker_refusal (Settle w) old.workers ≡ None
      → IfSome (job_at old.workers w) (λ job. IsFound job.run found) → lease_of (job_at old.workers w) ≡ Some id
      → IsSettled is_renumbered id found old.book old.book new.book result → new.workers ≡ set old.workers w None → IsWorld new
  settled w id found result none of_run lease settle workers =
      let may = allowed ToSettle old.workers w none in
      let own = settle-job (job_at old.workers w) may.job in
      let by = found-by old w found own.0 good may.within own.1.is of_run in
      with-workers new (set old.workers w None) workers
      (world-spent old new.book w id good may.within lease
      (spent-by_settling id found old.book new.book result by.sound by.client (settle-current old new.book w id found result by settle) settle))

  abandoned : (w : ℕ) → worker_refusal (Abandon w) old.workers ≡ None → new.book ≡ after_give_back_of (job_at old.workers w) old.book
      → new.workers ≡ set old.workers w None → IsWorld new
  abandoned w none book workers = with-workers new (set old.workers w None) workers (by (lease_of (job_at old.workers w)) refl book)
    where
      within : w < length old.workers
      within = (allowed ToAbandon old.workers w none).within

      by : (lease : Option ℕ) → lease_of (job_at old.workers w) ≡ lease
          → new.book ≡ elim lease [ Some id ↦ after_give_back id old.book | None ↦ old.book ]
          → IsWorld (record { book = new.book; workers = set old.workers w None })
      by None is same =
          subst (λ (b : BookState). IsWorld (record { book = b; workers = set old.workers w None })) (sym same)
          (world-idle old old.book w good within (stays old good) is)
      by (Some id) is back =
          subst (λ (b : BookState). IsWorld (record { book = b; workers = set old.workers w None })) (sym back)
          (world-spent old (after_give_back id old.book) w id good within is (spent-return id old.book))

-- ---- any step

made-world : (step : Step) (old new : WorldState) (reply : Reply) → IsWorld old → worker_refusal step old.workers ≡ None → IsMade step old new reply → IsWorld new
made-world (Change edit) old new reply good none made = with-workers new _ made.holds.workers (world-changed edit old new.book made.result good made.holds.call)
made-world (Hold endpoint ms) old new reply good none made = with-workers new _ made.holds.workers (world-board (HoldFor endpoint ms) old new.book made.result good made.holds.call)
made-world (Release endpoint) old new reply good none made = with-workers new _ made.holds.workers (world-board (ReleaseOf endpoint) old new.book made.result good made.holds.call)
made-world (Advance to) old new reply good none made = with-workers new _ made.holds.workers (world-board (AdvanceTo to) old new.book made.result good made.holds.call)
made-world (Hand question words) old new reply good none made = with-workers new _ made.holds.workers (world-handed question words old new.book made.result good made.holds.call)
made-world (Forget question) old new reply good none made = with-workers new _ made.holds.workers (world-forgotten question old new.book made.result good made.holds.call)
made-world Page old new reply good none made = with-workers new _ made.holds.workers (world-turned old new.book made.result good made.holds.call)
made-world (Start w question) old new reply good none made = started old new good w question made.result none made.holds
made-world (Read w) old new reply good none made = read old new good w made.result none made.holds
made-world (Lease w) old new reply good none made = leased old new good w made.result none made.holds
made-world (Commit w words) old new reply good none made = committed old new good w words made.found made.result none made.of_run made.commit made.workers
made-world (Settle w) old new reply good none made = settled old new good w made.id made.found made.result none made.of_run made.lease made.settle made.workers
made-world (Abandon w) old new reply good none made = abandoned old new good w none made.book made.workers

pub step-world : (step : Step) (old new : WorldState) (reply : Reply) → IsWorld old → IsStep step old new reply → IsWorld new
step-world step old new reply good made = by (worker_refusal step old.workers) refl where
  by : (o : Option WorldFault) → worker_refusal step old.workers ≡ o → IsWorld new
  by None is = made-world step old new reply good is (made.made is)
  by (Some fault) is = subst IsWorld (sym (made.refused fault is).1) good
