use Rattle.std.proofs.Common.{[], arith}
use Rattle.std.proofs.lemmas.Grind.{common_steps}
use Rattle.sipl_names.proofs.Wires.{length-wire_from}
use Rattle.sipl_names.proofs.wire.push_labels.Goals as goal

pub push_label-requires-clause-reserved : goal.push_label-requires-clause-reserved
push_label-requires-clause-reserved c =
    omega (arith, length-wire_from c.args.labels.now c.loop-label.label-index (record { ref_ptr = (0, 0); now = [] }) c.loop-label-test.true)

pub loop-label-preserved : goal.loop-label-preserved
loop-label-preserved c = record {
  faultless = grind (arith, common_steps);
  wires = grind (arith, common_steps);
  each = grind (arith, common_steps);
  reserved = omega (arith, length-wire_from c.args.labels.now c.loop-label.label-index (record { ref_ptr = (0, 0); now = [] }) c.loop-label-test.true);
}
