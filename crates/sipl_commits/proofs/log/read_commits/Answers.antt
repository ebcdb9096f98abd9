use Rattle.sipl_commits.proofs.Chains.{next_smaller, reads_more}
use Rattle.sipl_commits.proofs.log.read_commits.Goals as goal

pub loop-commits-smaller : goal.loop-commits-smaller
loop-commits-smaller c =
    next_smaller c.loop-commits.tail.now c.loop-commits.last c.in-Some.commit c.in-Some.rest.now (rw c.in-Some.is at c.in_ok-commit.ensures)

pub loop-commits-preserved : goal.loop-commits-preserved
loop-commits-preserved c =
    let inv = c.loop-commits.invariant in
    let reads = reads_more c.args.point.now c.args.text.now c.loop-commits.commits.items c.push.new.self.items c.in-Some.commit c.loop-commits.last
    c.loop-commits.tail.now c.in-Some.rest.now
    (record { is = inv.is; points_are = inv.points_are; last_is = inv.last_is })
    (rw c.in-Some.is at c.in_ok-commit.ensures) c.in_ok-push.ensures.items in
    record { is = reads.is; points_are = reads.points_are; last_is = reads.last_is }
