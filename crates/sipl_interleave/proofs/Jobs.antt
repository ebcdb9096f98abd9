-- What the jobs of workers are where they allow a step, and after one worker's job has changed.
use Rattle.std.proofs.Common.{◌≡◌, ◌≢◌, ◌⊎◌, ℕ, ◌<◌, leb, List, length, set, Option, Some, None, is_some, cond, inl, inr, refl, sym, ap, ◌∙◌}
use Rattle.std.proofs.lemmas.Bool.{cases_Bool, cond-true, cond-false, leb-false}
use Rattle.std.proofs.lemmas.List.{get_or-set_same, get_or-set_other}
use Rattle.sipl_plans.specs.Runs.{wanted}
use Rattle.sipl_interleave.specs.Jobs.{Job, fault_of, job_at, refusal_of, unfinished}
use Rattle.sipl_interleave.specs.declared.act.Act.{Act}
use Rattle.sipl_interleave.specs.declared.act.Act.TheVariants.{Start, Read, Commit, Settle, Abandon}
use Rattle.sipl_interleave.specs.declared.fault.WorldFault.{WorldFault}
use Rattle.sipl_interleave.specs.declared.fault.WorldFault.TheVariants.{NoWorker, Idle, NotReady}
use Rattle.sipl_interleave.proofs.Numbers.{same_or_not}

-- ---- what a step needs

pub record Allows (act : Act) (workers : List (Option Job)) (w : ℕ) : Type 0 where
  pub within : w < length workers
  pub job : fault_of act (job_at workers w) ≡ None

pub allowed : (act : Act) (workers : List (Option Job)) (w : ℕ) → refusal_of w act workers ≡ None → Allows act workers w
allowed act workers w none = elim (cases_Bool (leb (length workers) w)) [
  | inl missing ↦ let never : Some NoWorker ≡ None = sym (cond-true _ _ _ missing) ∙ none in cc
  | inr there ↦ record {
    within = leb-false (length workers) w there;
    job = sym (cond-false _ _ _ there) ∙ none;
  }
]

pub start-job : (worker : Option Job) → fault_of Start worker ≡ None → worker ≡ None
start-job None none = refl
start-job (Some job) none = cc

pub read-job : (worker : Option Job) → fault_of Read worker ≡ None → (job : Job) × (worker ≡ Some job)
read-job None none = cc
read-job (Some job) none = (job, refl)

pub abandon-job : (worker : Option Job) → fault_of Abandon worker ≡ None → (job : Job) × (worker ≡ Some job)
abandon-job None none = cc
abandon-job (Some job) none = (job, refl)

-- a run that is to be committed
pub record IsOwn (worker : Option Job) (job : Job) : Type 0 where
  pub is : worker ≡ Some job
  pub lease : job.lease ≡ None
  pub ready : wanted job.run ≡ None

-- a run that is to be settled
pub record IsLent (worker : Option Job) (job : Job) : Type 0 where
  pub is : worker ≡ Some job
  pub ready : wanted job.run ≡ None

unless_some : {A : Type 0} (o : Option A) (fault : WorldFault) (rest : Option WorldFault) → cond (is_some o) (Some fault) rest ≡ None
    → (o ≡ None) × (rest ≡ None)
unless_some None fault rest none = (refl, none)
unless_some (Some a) fault rest none = cc

pub commit-job : (worker : Option Job) → fault_of Commit worker ≡ None → (job : Job) × IsOwn worker job
commit-job None none = cc
commit-job (Some job) none =
    let first = unless_some job.lease Idle (unfinished job) none in
    let second = unless_some (wanted job.run) NotReady None first.1 in
    (job, record { is = refl; lease = first.0; ready = second.0 })

pub settle-job : (worker : Option Job) → fault_of Settle worker ≡ None → (job : Job) × IsLent worker job
settle-job None none = cc
settle-job (Some job) none = (job, record { is = refl; ready = ready job.lease none }) where
  ready : (lease : Option ℕ) → cond (is_some lease) (unfinished job) (Some Idle) ≡ None → wanted job.run ≡ None
  ready None none = cc
  ready (Some id) none = (unless_some (wanted job.run) NotReady None none).0

-- ---- after a change

pub own_job : (workers : List (Option Job)) (w : ℕ) (worker : Option Job) → w < length workers → job_at (set workers w worker) w ≡ worker
own_job workers w worker within = get_or-set_same workers w worker None within

pub other_job : (workers : List (Option Job)) (w v : ℕ) (worker : Option Job) → v ≢ w → job_at (set workers w worker) v ≡ job_at workers v
other_job workers w v worker other = get_or-set_other workers w v worker None other

pub own_or_other : (workers : List (Option Job)) (w v : ℕ) (worker : Option Job) → w < length workers
    → ((v ≡ w) × (job_at (set workers w worker) v ≡ worker)) ⊎ ((v ≢ w) × (job_at (set workers w worker) v ≡ job_at workers v))
own_or_other workers w v worker within = elim (same_or_not v w) [
  | inl same ↦ inl (same, ap (job_at (set workers w worker)) same ∙ own_job workers w worker within)
  | inr other ↦ inr (other, other_job workers w v worker other)
]
