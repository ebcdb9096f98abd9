use Rattle.std.proofs.Common.{◌%◌, arith}
use Rattle.sipl_log.proofs.Quoting.{padded_three}
use Rattle.sipl_log.proofs.line.push_millis.Goals as goal

pub returns : goal.returns
returns c = rw (c.laid_out.ensures, padded_three (c.args.micros % 1000) (omega arith)) at c.write.ensures.bytes
