use Rattle.std.proofs.Common.{arith}
use Rattle.sipl_records.proofs.Ipv6Numbers.{below_eight, pushed_below}
use Rattle.sipl_records.proofs.address6.Groups.push.Goals as goal

pub overflow_mul-result : goal.overflow_mul-result
overflow_mul-result c =
    let fits = below_eight c.args.self.number c.args.self.len c.requires.below (omega arith) in
    omega arith

pub overflow_add-result : goal.overflow_add-result
overflow_add-result c =
    let fits = pushed_below c.args.self.number c.args.self.len c.args.group c.requires.below (omega arith) (omega arith) in
    omega (arith, c.from.ensures)
