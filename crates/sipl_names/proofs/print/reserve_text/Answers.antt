use Rattle.std.proofs.Common.{arith}
use Rattle.sipl_names.specs.Wire.{labels_of_wire}
use Rattle.sipl_names.proofs.TextLength.{length-text_of}
use Rattle.sipl_names.proofs.print.reserve_text.Goals as goal

pub returns-then-capacity-len-ge-MAX_NAME_TEXT_LEN-clause-reserved : goal.returns-then-capacity-len-ge-MAX_NAME_TEXT_LEN-clause-reserved
returns-then-capacity-len-ge-MAX_NAME_TEXT_LEN-clause-reserved c =
    omega (arith, length-text_of (labels_of_wire c.args.wire.now) c.requires.name)
