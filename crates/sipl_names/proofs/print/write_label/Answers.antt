use Rattle.std.proofs.Common.{ℕ, length, ap, arith, length-append}
use Rattle.std.proofs.lemmas.List.Folds.{length-flat_map-take}
use Rattle.sipl_names.specs.NamePrint.{printed_octet}
use Rattle.sipl_names.proofs.print.write_label.Goals as goal

pub write_octet-requires : goal.write_octet-requires
write_octet-requires c =
    let label = c.args.label.now in
    omega (arith, ap length c.loop-octet.invariant.text, length-append {A = ℕ}, length-flat_map-take printed_octet label c.loop-octet.octet-index 0 c.loop-octet-test.true)
