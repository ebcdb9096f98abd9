use Rattle.std.proofs.Common.{◌≡◌, ◌+◌, ◌<◌, length, arith, sym, ◌∙◌}
use Rattle.sipl_zonestore.proofs.LiveRecords.{LiveInPlace, LiveInPlace-no, LiveInPlace-swap, equal-codes, other-codes}
use Rattle.sipl_zonestore.proofs.places.move_together.Goals.{then-codes-place, else-codes-place}
use Rattle.sipl_zonestore.proofs.places.move_together.Goals as goal

pub loop-place-preserved : goal.loop-place-preserved
loop-place-preserved c =
    let before = c.loop-place.invariant.0 in
    let long = before.long in
    let coded : length c.args.codes.now ≡ length c.args.records.now.items = c.requires ∙ c.args.records.now.ok.0 in
    let test = c.loop-place-test.true in
    let within : c.loop-place.place < length c.loop-place.records.items = omega arith in
    elim c.if-codes-place.branch [
      | then-codes-place w ↦
          let next : LiveInPlace c.args.records.now.items c.args.codes.now w.swap.new.self.items (c.loop-place.kept + 1) (c.loop-place.place + 1) = LiveInPlace-swap 0 before coded within c.index.ensures (equal-codes _ _ (w.if-codes-place.true ∙ c.name_code.ensures)) w.swap.ensures.by_index in
          rw (w.records-is, w.kept-is) (next, w.swap.ensures.capacity ∙ c.loop-place.invariant.1)
      | else-codes-place w ↦
          rw (w.records-is, w.kept-is) (LiveInPlace-no 0 before coded within c.index.ensures (other-codes _ _ (λ same. w.if-codes-place.false (same ∙ sym c.name_code.ensures))), c.loop-place.invariant.1)
    ]
