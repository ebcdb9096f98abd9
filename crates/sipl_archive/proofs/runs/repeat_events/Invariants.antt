use Rattle.sipl_archive.specs.Replay.{RepeatsSome}
use Rattle.sipl_archive.proofs.runs.repeat_events.Given as goal

-- the events so far were carried out again, and the others are left
abbrev pub invariant-loop-place : goal.invariant-loop-place
invariant-loop-place l =
    RepeatsSome l.head.events.now l.rest l.place l.fn.desk l.desk
