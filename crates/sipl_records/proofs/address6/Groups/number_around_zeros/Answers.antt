use Rattle.std.proofs.Common.{◌≡◌, arith}
use Rattle.sipl_records.proofs.Ipv6Numbers.{shifted_more, below_eight, joined_below, place_more}
use Rattle.sipl_records.proofs.address6.Groups.number_around_zeros.Goals as goal

pub overflow_mul-number : goal.overflow_mul-number
overflow_mul-number c =
    let fits = below_eight c.loop-place.number c.loop-place._place c.loop-place.invariant.below (omega arith) in
    omega arith

pub loop-place-preserved : goal.loop-place-preserved
loop-place-preserved c = record {
  is = shifted_more c.args.self.number c.loop-place.number c.args.self.len c.loop-place._place (omega arith) c.loop-place.invariant.is;
  below = rw place_more (omega (arith, c.loop-place.invariant.below));
}

pub overflow_add-result : goal.overflow_add-result
overflow_add-result c =
    let last : c.loop-place._place ≡ 8 = omega arith in
    let fits = joined_below c.args.self.number c.args.self.len c.loop-place.number c.args.right.number c.args.right.len c.requires.left.below (rw last at c.loop-place.invariant.is) c.requires.right.below (omega arith) in
    omega arith
