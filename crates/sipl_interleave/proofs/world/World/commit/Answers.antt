use Rattle.std.proofs.Common.{◌≡◌, None, refl, subst, sym}
use Rattle.sipl_book.specs.declared.fault.BookFault.TheVariants.{Memory}
use Rattle.sipl_interleave.specs.Jobs.{refusal_of}
use Rattle.sipl_interleave.specs.World.{WorldState}
use Rattle.sipl_interleave.specs.declared.act.Act.TheVariants.{Commit}
use Rattle.sipl_interleave.proofs.Keeping.{same-world}
use Rattle.sipl_interleave.proofs.Making.{Commits, as_before, commits, committed-by, consistent-commit, memory-by}
use Rattle.sipl_interleave.proofs.Working.{world-committed, world-refused}
use Rattle.sipl_interleave.proofs.world.World.commit.Goals as goal

-- the finding is that of the worker's run, which has no lease
was : (c : goal.After-commit-arg-1) → Commits (record { book = c.self.inside.book; workers = c.self.inside.workers }) c.args.worker c.finish-finding.result
was c =
    let old : WorldState = record { book = c.self.inside.book; workers = c.self.inside.workers } in
    commits old c.args.worker c.finish-finding.result c.self.invariant
    (subst (λ (v : WorldState). refusal_of c.args.worker Commit v.workers ≡ None) (sym c.self.view_is) c.requires) c.finish-finding.ensures.found

pub commit-requires-clause-client : goal.commit-requires-clause-client
commit-requires-clause-client c = (was c).finding.client

pub commit-requires-clause-honest : goal.commit-requires-clause-honest
commit-requires-clause-honest c = (was c).finding.read.honest

pub invariant_of-self : goal.invariant_of-self
invariant_of-self c =
    let old : WorldState = record { book = c.self.inside.book; workers = c.self.inside.workers } in
    let by = commits old c.args.worker c.finish-finding.result c.self.invariant
    (subst (λ (v : WorldState). refusal_of c.args.worker Commit v.workers ≡ None) (sym c.self.view_is) c.requires) c.finish-finding.ensures.found in
    rw c.finish-finding.ensures.idle
    (world-committed old c.commit.new.self c.args.worker c.finish-finding.result c.args.draws.now c.self.invariant by.finding.within by.lease
    (consistent-commit old c.commit.new.self c.args.worker c.args.draws.now c.finish-finding.result c.in-Ok.handed c.self.invariant by.finding c.in-Ok.ensures) c.in-Ok.ensures.after)

pub invariant_of-self-in-Err : goal.invariant_of-self-in-Err
invariant_of-self-in-Err c =
    let old : WorldState = record { book = c.self.inside.book; workers = c.self.inside.workers } in
    let by = commits old c.args.worker c.finish-finding.result c.self.invariant
    (subst (λ (v : WorldState). refusal_of c.args.worker Commit v.workers ≡ None) (sym c.self.view_is) c.requires) c.finish-finding.ensures.found in
    rw c.finish-finding.ensures.idle
    (world-refused old c.commit.new.self c.args.worker c.self.invariant by.finding.within by.lease c.in-Err.ensures.unchanged)

pub invariant_of-self-in-Err-Memory : goal.invariant_of-self-in-Err-Memory
invariant_of-self-in-Err-Memory c =
    let old : WorldState = record { book = c.self.inside.book; workers = c.self.inside.workers } in
    let by = commits old c.args.worker c.finish-finding.result c.self.invariant
    (subst (λ (v : WorldState). refusal_of c.args.worker Commit v.workers ≡ None) (sym c.self.view_is) c.requires) c.finish-finding.ensures.found in
    rw (as_before old c.args.worker c.finish-finding.result c.in-Err-Memory.field-0.finding c.finish-finding.new.self c.keep.new.self by
    c.in-Err-Memory.ensures.finding c.finish-finding.ensures.idle c.keep.ensures)
    (same-world old c.commit.new.self c.self.invariant c.in-Err-Memory.ensures.unchanged)

pub returns-in-Ok : goal.returns-in-Ok
returns-in-Ok c =
    let old : WorldState = record { book = c.self.inside.book; workers = c.self.inside.workers } in
    let by = commits old c.args.worker c.finish-finding.result c.self.invariant
    (subst (λ (v : WorldState). refusal_of c.args.worker Commit v.workers ≡ None) (sym c.self.view_is) c.requires) c.finish-finding.ensures.found in
    rw (← c.self.view_is)
    (committed-by old c.commit.new.self c.args.worker c.args.draws.now c.finish-finding.result c.in-Ok.handed c.finish-finding.new.self by.finding c.in-Ok.ensures c.finish-finding.ensures.idle)

pub returns-in-Err-Memory : goal.returns-in-Err-Memory
returns-in-Err-Memory c =
    let old : WorldState = record { book = c.self.inside.book; workers = c.self.inside.workers } in
    let by = commits old c.args.worker c.finish-finding.result c.self.invariant
    (subst (λ (v : WorldState). refusal_of c.args.worker Commit v.workers ≡ None) (sym c.self.view_is) c.requires) c.finish-finding.ensures.found in
    let fault : c.in-Err-Memory.field-0.fault ≡ Memory = cc in
    rw (← c.self.view_is)
    (memory-by old c.commit.new.self c.args.worker c.args.draws.now c.finish-finding.result c.in-Err-Memory.field-0.finding c.in-Err-Memory.field-0 c.finish-finding.new.self c.keep.new.self by
    c.in-Err-Memory.ensures fault refl c.finish-finding.ensures.idle c.keep.ensures)
