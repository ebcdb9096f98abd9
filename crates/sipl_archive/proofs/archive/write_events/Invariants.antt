use Rattle.std.proofs.Common.{take}
use Rattle.sipl_archive.specs.Archive.{body_text}
use Rattle.sipl_archive.proofs.Paging.{Sends}
use Rattle.sipl_archive.proofs.archive.write_events.Given as goal

-- what was written, and then the text, are the lines of the events so far
abbrev pub invariant-loop-event : goal.invariant-loop-event
invariant-loop-event g l =
    Sends (g.W.Write.contents l.fn.out) (g.W.Write.contents l.out) l.digest l.text.items
    (body_text l.fn.text.items (take l.event-index l.events))
