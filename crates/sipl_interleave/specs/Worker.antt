-- How the fields of a `Worker` represent its job.
use Rattle.std.specs.Prelude.{◌≡◌, ℕ, Option, None, Some}
use Rattle.sipl_plans.specs.Findings.{IsSound}
use Rattle.sipl_plans.specs.Runs.{wanted}
use Rattle.sipl_interleave.specs.Jobs.{Job, run_of}
use Rattle.sipl_interleave.specs.declared.worker.Task.{Task}
use Rattle.sipl_interleave.specs.declared.worker.Task.TheVariants.{Idle, Reading, Found}
use Rattle.sipl_interleave.specs.declared.worker.Worker.TheInside.{Inside}

-- the job of a task with a lease
abbrev pub job_with : Task → Option ℕ → Option Job
job_with Idle lease = None
job_with (Reading run) lease = Some (record { run = run; lease = lease })
job_with (Found found) lease = Some (record { run = run_of found; lease = lease })

-- the job of the fields
abbrev pub job_of : Inside → Option Job
job_of w = job_with w.task w.lease

-- without a run there is no lease, and a run with a finding wants no set
abbrev pub IsTaskWith : Task → Option ℕ → Type 0
IsTaskWith Idle lease = lease ≡ None
IsTaskWith (Reading run) lease = Unit {0}
IsTaskWith (Found found) lease = IsSound found × (wanted (run_of found) ≡ None)

-- the fields represent a job
abbrev pub IsValidWorker : Inside → Type 0
IsValidWorker w = IsTaskWith w.task w.lease
