use Rattle.sipl_archive.proofs.Repeating.{repeats_more}
use Rattle.sipl_archive.proofs.runs.repeat_events.Goals as goal

pub loop-place-preserved : goal.loop-place-preserved
loop-place-preserved c =
    let first = rw c.in-Some.is at c.in_ok-others.ensures in
    repeats_more c.args.head.now.events.now c.loop-place.rest.now c.in-Some.others.now c.loop-place.place c.args.desk.now c.loop-place.desk c.replay_event.new.desk
    c.loop-place.invariant first
