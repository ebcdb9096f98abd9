use Rattle.std.proofs.Common.{arith}
use Rattle.sipl_names.specs.Wire.{labels_of_wire}
use Rattle.sipl_names.proofs.Printing.{length-printed-cons, length-printed-le}
use Rattle.sipl_names.proofs.TextLength.{length-text_of}
use Rattle.sipl_names.proofs.print.text_len.Goals as goal

pub overflow_add-len : goal.overflow_add-len
overflow_add-len c =
    let labels = labels_of_wire c.args.wire.now in
    let printed = length-printed-cons (labels_of_wire c.loop-label.rest.now) (labels_of_wire c.in-Some.tail.now) c.in-Some.label.now c.in-Some.ensures.labels in
    omega (arith, printed, length-printed-le labels, length-text_of labels c.requires.name)
