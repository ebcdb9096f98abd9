use Rattle.std.proofs.Common.{take, arith, length-take}
use Rattle.std.proofs.lemmas.List.Sums.{count_by-le-length, length-filter}
use Rattle.sipl_zonestore.specs.SetTable.{has_set}
use Rattle.sipl_zonestore.proofs.set_numbers.count_numbered.Goals as goal

pub overflow_add-count : goal.overflow_add-count
overflow_add-count c =
    let taken = take c.loop-key.key-index c.args.keys.now in
    omega (arith, c.loop-key.invariant, length-filter (has_set c.args.sets.now) taken, count_by-le-length (has_set c.args.sets.now) taken, length-take c.loop-key.key-index c.args.keys.now, c.loop-key-test.true, c.loop-key.auto.key-index-end)
