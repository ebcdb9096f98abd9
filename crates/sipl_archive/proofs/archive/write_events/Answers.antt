use Rattle.std.proofs.Common.{◌+◌, take}
use Rattle.sipl_archive.specs.Archive.{body_text}
use Rattle.sipl_lines.specs.CommandText.{event_lines}
use Rattle.sipl_archive.proofs.Paging.{Sends, body_more, sends_more, sends_piece}
use Rattle.sipl_archive.proofs.archive.write_events.Goals.{then-len-ge-PIECE_LEN+in_ok-write_piece, else-len-ge-PIECE_LEN}
use Rattle.sipl_archive.proofs.archive.write_events.Goals as goal

pub loop-event-preserved : goal.loop-event-preserved
loop-event-preserved g c =
    let contents = g.W.Write.contents in
    let before = contents c.args.out.now in
    let head = c.args.text.now.items in
    let events = c.args.events.now in
    let i = c.loop-event.event-index in
    let event = c.event-item.result in
    let lines = body_text head (take (i + 1) events) in
    let more : Sends before (contents c.loop-event.out) c.loop-event.digest c.write_event.new.out.items lines =
    sends_more before (contents c.loop-event.out) c.loop-event.digest c.loop-event.text.items c.write_event.new.out.items
    (body_text head (take i events)) lines (event_lines event) c.loop-event.invariant c.in_ok-write_event.ensures
    (body_more head events i event c.loop-event-test.true c.event-item.is) in
    elim c.if-len-ge-PIECE_LEN.branch [
      | then-len-ge-PIECE_LEN+in_ok-write_piece w ↦
          rw (w.out-is, w.digest-is, w.text-is) (sends_piece _ _ _ _ _ _ _ _ more w.in_ok-write_piece.ensures)
      | else-len-ge-PIECE_LEN w ↦ rw (w.out-is, w.digest-is, w.text-is) more
    ]
