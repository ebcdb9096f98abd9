use Rattle.std.proofs.Common.{arith}
use Rattle.sipl_names.specs.Wire.{labels_of_wire}
use Rattle.sipl_names.proofs.Printing.{space_for_label}
use Rattle.sipl_names.proofs.print.write_text.Goals as goal

pub write_label-requires : goal.write_label-requires
write_label-requires c =
    let rest = labels_of_wire c.loop-label.rest.now in
    let tail = labels_of_wire c.in-Some.tail.now in
    omega (arith, space_for_label c.args.out.now.items c.loop-label.out.items (labels_of_wire c.args.wire.now) rest tail c.in-Some.label.now c.loop-label.invariant.printed c.in-Some.ensures.labels)
