-- What always holds of a world holds after a step.
use Rattle.std.proofs.Common.{◌≡◌, ◌≢◌, ◌⊎◌, ℕ, ◌<◌, ◌≤◌, true, List, length, set, Option, Some, None, inl, inr, refl, sym, ap, subst, ◌∙◌, zero, suc, replicate, true≢false, arith}
use Rattle.std.specs.FinSet as fin_set
use Rattle.std.specs.Ordering.{nat_cmp}
use Rattle.std.proofs.lemmas.List.{length-replicate, length-set}
use Rattle.std.proofs.lemmas.Option.{none-some}
use Rattle.sipl_choice.specs.Abilities.{Client}
use Rattle.sipl_outages.specs.declared.held.Held.{Held}
use Rattle.sipl_evidence.specs.Items.{Item}
use Rattle.sipl_repair.specs.QueueState.{is_leased}
use Rattle.sipl_book.specs.Book.{BookState, IsConsistent, new_book}
use Rattle.sipl_book.specs.declared.limits.Limits.{Limits}
use Rattle.sipl_book.specs.Honesty.{WereRead}
use Rattle.sipl_interleave.specs.Jobs.{Job, job_at, lease_of}
use Rattle.sipl_interleave.specs.World.{IsGoodJob, IsLeaseOf, IsWorld, WorldState}
use Rattle.sipl_interleave.proofs.Jobs.{own_job, other_job, own_or_other}

-- a book that has changed while the workers did not
pub record Moves (old new : BookState) : Type 0 where
  pub client : new.client ≡ old.client
  pub read : (items : List Item) → WereRead old.store items → WereRead new.store items
  pub leases : (id : ℕ) → IsLeaseOf old id → IsLeaseOf new id
  pub held : (id : ℕ) → is_leased new.queue id ≡ true → is_leased old.queue id ≡ true
  pub consistent : IsConsistent new

good_job-moved : (old new : BookState) → new.client ≡ old.client → ((items : List Item) → WereRead old.store items → WereRead new.store items)
    → (job : Job) → IsGoodJob old job → IsGoodJob new job
good_job-moved old new client read job good = record { client = good.client ∙ sym client; read = read job.run.items good.read }

pub moved-world : (old : WorldState) (book : BookState) → IsWorld old → Moves old.book book → IsWorld (record { book = book; workers = old.workers })
moved-world old book good to =
    record {
      book = to.consistent;
      jobs = λ w job is. good_job-moved old.book book to.client to.read job (good.jobs w job is);
      leases = λ w id has. to.leases id (good.leases w id has);
      own = good.own;
      held = λ id leased. good.held id (to.held id leased);
      some = good.some;
      few = good.few;
    }

pub same-world : (old : WorldState) (book : BookState) → IsWorld old → book ≡ old.book → IsWorld (record { book = book; workers = old.workers })
same-world old book good same = subst (λ (b : BookState). IsWorld (record { book = b; workers = old.workers })) (sym same) good

-- a book that has changed by a step of one worker, whose job is this then
pub record Changes (old : WorldState) (book : BookState) (w : ℕ) (worker : Option Job) : Type 0 where
  pub within : w < length old.workers
  pub client : book.client ≡ old.book.client
  pub read : (items : List Item) → WereRead old.book.store items → WereRead book.store items
  pub job : (job : Job) → worker ≡ Some job → IsGoodJob book job
  pub leases : (v id : ℕ) → v ≢ w → lease_of (job_at old.workers v) ≡ Some id → IsLeaseOf book id
  pub lease : (id : ℕ) → lease_of worker ≡ Some id → IsLeaseOf book id
  pub own : (v id : ℕ) → v ≢ w → lease_of (job_at old.workers v) ≡ Some id → lease_of worker ≢ Some id
  pub held : (id : ℕ) → is_leased book.queue id ≡ true
      → (lease_of worker ≡ Some id) ⊎ ((v : ℕ) × (v ≢ w) × (lease_of (job_at old.workers v) ≡ Some id))
  pub consistent : IsConsistent book

pub changed-world : (old : WorldState) (book : BookState) (w : ℕ) (worker : Option Job) → IsWorld old → Changes old book w worker
    → IsWorld (record { book = book; workers = set old.workers w worker })
changed-world old book w worker good to =
    record {
      book = to.consistent;
      jobs = λ v job is. elim (own_or_other old.workers w v worker to.within) [
        | inl own ↦ to.job job (sym own.1 ∙ is)
        | inr other ↦ good_job-moved old.book book to.client to.read job (good.jobs v job (sym other.1 ∙ is))
      ];
      leases = λ v id has. elim (own_or_other old.workers w v worker to.within) [
        | inl own ↦ to.lease id (ap lease_of (sym own.1) ∙ has)
        | inr other ↦ to.leases v id other.0 (ap lease_of (sym other.1) ∙ has)
      ];
      own = λ v u id one two. elim (own_or_other old.workers w v worker to.within) [
        | inl own ↦ elim (own_or_other old.workers w u worker to.within) [
          | inl own_too ↦ own.0 ∙ sym own_too.0
          | inr other ↦ absurd (to.own u id other.0 (ap lease_of (sym other.1) ∙ two) (ap lease_of (sym own.1) ∙ one))
        ]
        | inr other ↦ elim (own_or_other old.workers w u worker to.within) [
          | inl own ↦ absurd (to.own v id other.0 (ap lease_of (sym other.1) ∙ one) (ap lease_of (sym own.1) ∙ two))
          | inr other_too ↦ good.own v u id (ap lease_of (sym other.1) ∙ one) (ap lease_of (sym other_too.1) ∙ two)
        ]
      ];
      held = λ id leased. elim (to.held id leased) [
        | inl own ↦ (w, ap lease_of (own_job old.workers w worker to.within) ∙ own)
        | inr p ↦ (p.0, ap lease_of (other_job old.workers w p.0 worker p.1) ∙ p.2)
      ];
      some = subst (λ (n : ℕ). 1 ≤ n) (sym (length-set old.workers w worker)) good.some;
      few = subst (λ (n : ℕ). n ≤ 64) (sym (length-set old.workers w worker)) good.few;
    }

-- ---- a new world

none_at : (count w : ℕ) → job_at (replicate count None) w ≡ None
none_at zero w = refl
none_at (suc count) zero = refl
none_at (suc count) (suc w) = none_at count w

pub new-world : (client : Client) (held : Held) (limits : Limits) (count : ℕ) → IsConsistent (new_book client held limits) → 1 ≤ count → count ≤ 64
    → IsWorld (record { book = new_book client held limits; workers = replicate count None })
new-world client held limits count consistent some few =
    record {
      book = consistent;
      jobs = λ w job is. absurd (none-some job (sym (none_at count w) ∙ is));
      leases = λ w id has. absurd (none-some id (sym (ap lease_of (none_at count w)) ∙ has));
      own = λ v w id one two. absurd (none-some id (sym (ap lease_of (none_at count v)) ∙ one));
      held = λ id leased. absurd (true≢false (sym leased ∙ fin_set.contains-empty nat_cmp id));
      some = subst (λ (n : ℕ). 1 ≤ n) (sym (length-replicate {A = Option Job} count None)) some;
      few = subst (λ (n : ℕ). n ≤ 64) (sym (length-replicate {A = Option Job} count None)) few;
    }
