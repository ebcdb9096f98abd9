use Rattle.sipl_interleave.proofs.Consistent.{consistent-new}
use Rattle.sipl_interleave.proofs.Keeping.{new-world}
use Rattle.sipl_interleave.proofs.world.World.new.Goals as goal

pub invariant_of-result : goal.invariant_of-result
invariant_of-result c =
    rw (c.new-2.ensures, c.in_ok-workers.ensures) (new-world c.args.abilities c.args.held c.args.limits.now c.args.workers
    (consistent-new c.args.abilities c.args.held c.args.limits.now (record {
      records = c.requires.records;
      entries = c.requires.entries;
      journal = c.requires.journal;
      holds = c.requires.holds;
      first = c.requires.first;
      last = c.requires.last;
      page = c.requires.page;
    })) c.requires.some c.requires.few)
