-- Jobs of workers: a question that is looked up, for its own sake or under a lease.
use Rattle.std.specs.Prelude.{ℕ, nat_le, List, [], ◌∷◌, ◌++◌, length, get_or, Option, None, Some, is_some, if◌then◌else◌}
use Rattle.std.specs.Coded.{Coded, codes}
use Rattle.sipl_choice.specs.Abilities.{Client}
use Rattle.sipl_records.specs.declared.record.Key.{Key}
use Rattle.sipl_uri.specs.declared.question.Question.{Question}
use Rattle.sipl_evidence.specs.Items.{Item}
use Rattle.sipl_plans.specs.Findings.{Found}
use Rattle.sipl_plans.specs.Runs.{RunState, wanted}
use Rattle.sipl_interleave.specs.declared.act.Act.{Act}
use Rattle.sipl_interleave.specs.declared.act.Act.TheVariants.{Start, Read, Commit, Settle, Abandon}
use Rattle.sipl_interleave.specs.declared.fault.WorldFault.{WorldFault}
use Rattle.sipl_interleave.specs.declared.fault.WorldFault.TheVariants.{NoWorker, Busy, Idle, NotReady}

-- a run: its question, the client and the sets that were read; and the id of the lease that it is to
-- settle, if it was begun for one
pub record Job : Type 0 where
  pub run : RunState
  pub lease : Option ℕ

pub job_code : Coded (Option Job)
job_code = hlevel codes

-- a run that has read nothing
abbrev pub new_run : Question → Client → RunState
new_run question client = record { question = question; client = client; items = [] }

-- the run that ended with a finding
abbrev pub run_of : Found → RunState
run_of found = record { question = found.question; client = found.client; items = found.items }

-- the lease of a worker, if it has one
abbrev pub lease_of : Option Job → Option ℕ
lease_of (Some job) = job.lease
lease_of None = None

-- the key of the set that a worker's run wants next
abbrev pub wanted_by : Option Job → Option Key
wanted_by (Some job) = wanted job.run
wanted_by None = None

-- a worker whose run has read one set more
abbrev pub with_item : Item → Option Job → Option Job
with_item item (Some job) =
    Some (record {
      run = record {
        question = job.run.question;
        client = job.run.client;
        items = job.run.items ++ item ∷ [];
      };
      lease = job.lease;
    })
with_item item None = None

-- the fault of ending a run that still wants a set
abbrev pub unfinished : Job → Option WorldFault
unfinished job = if is_some (wanted job.run) then Some NotReady else None

-- the fault where a worker's job does not allow it to do this
abbrev pub fault_of : Act → Option Job → Option WorldFault
fault_of Start None = None
fault_of Start (Some job) = Some Busy
fault_of Read None = Some Idle
fault_of Read (Some job) = if is_some (wanted job.run) then None else Some NotReady
fault_of Commit None = Some Idle
fault_of Commit (Some job) = if is_some job.lease then Some Idle else unfinished job
fault_of Settle None = Some Idle
fault_of Settle (Some job) = if is_some job.lease then unfinished job else Some Idle
fault_of Abandon None = Some Idle
fault_of Abandon (Some job) = None

pub jobs_code : Coded (List (Option Job))
jobs_code = hlevel codes

-- the job of a worker; none where there is no worker of this number
abbrev pub job_at : List (Option Job) → ℕ → Option Job
job_at workers number = get_or workers number None

-- the fault where there is no worker of this number, or else that of its job
abbrev pub refusal_of : ℕ → Act → List (Option Job) → Option WorldFault
refusal_of number act workers =
    if nat_le (length workers) number then Some NoWorker else fault_of act (job_at workers number)
