use Rattle.std.proofs.Common.{◌≡◌, ◌/◌, ◌%◌, ◌-◌, ◌<◌, ◌^◌, arith, ap, take, drop, replicate, length, [], refl, lit≤}
use Rattle.sipl_records.specs.Ipv4.{text_of_number}
use Rattle.sipl_records.proofs.Dotted.{IsDotted, Writes, groups_written, appended, length-text_of_number}
use Rattle.sipl_records.proofs.address4.write.Goals as goal

-- what is appended is the number's text
text : (c : goal.After-extend_from_slice) → take (15 - c.write_digits-first.result) (drop c.write_digits-first.result c.write_digits-first.new.buf) ≡ text_of_number c.from-number.result
text c =
    let n = c.from-number.result in
    let fourth : Writes (n % 256) 15 c.write_digits-fourth.result (replicate 15 46) c.write_digits-fourth.new.buf =
    record { begins = c.write_digits-fourth.ensures.start; digits = c.write_digits-fourth.ensures.written; before = c.write_digits-fourth.ensures.before; length = c.write_digits-fourth.auto.buf } in
    let third : Writes (n / 256 % 256) (c.write_digits-fourth.result - 1) c.write_digits-third.result c.write_digits-fourth.new.buf c.write_digits-third.new.buf =
    record { begins = c.write_digits-third.ensures.start; digits = c.write_digits-third.ensures.written; before = c.write_digits-third.ensures.before; length = c.write_digits-third.auto.buf } in
    let second : Writes (n / 65536 % 256) (c.write_digits-third.result - 1) c.write_digits-second.result c.write_digits-third.new.buf c.write_digits-second.new.buf =
    record { begins = c.write_digits-second.ensures.start; digits = c.write_digits-second.ensures.written; before = c.write_digits-second.ensures.before; length = c.write_digits-second.auto.buf } in
    let first : Writes (n / 16777216) (c.write_digits-second.result - 1) c.write_digits-first.result c.write_digits-second.new.buf c.write_digits-first.new.buf =
    record { begins = c.write_digits-first.ensures.start; digits = c.write_digits-first.ensures.written; before = c.write_digits-first.ensures.before; length = c.write_digits-first.auto.buf } in
    let small : n < 2 ^ 32 = omega (arith, c.from-number.ensures, c.ranges.number.fits) in
    let dots : IsDotted 15 [] (replicate 15 46) = record { front = refl; back = refl; within = lit≤ tt } in
    groups_written (n / 16777216) (n / 65536 % 256) (n / 256 % 256) (n % 256) c.write_digits-first.result c.write_digits-second.result c.write_digits-third.result c.write_digits-fourth.result (replicate 15 46) c.write_digits-fourth.new.buf c.write_digits-third.new.buf c.write_digits-second.new.buf c.write_digits-first.new.buf (omega arith) (omega arith) (omega arith) (omega arith) refl dots fourth third second first

pub returns-clause-ok : goal.returns-clause-ok
returns-clause-ok c =
    rw (c.extend_from_slice.ensures.items, ← c.from-number.ensures) (appended c.extend_from_slice.result c.args.out.now.items _ _ (text c))

pub returns-clause-succeeds : goal.returns-clause-succeeds
returns-clause-succeeds c = λ holds.
    let whole = ap length (text c) in
    c.extend_from_slice.ensures.succeeds (rw whole (rw c.from-number.ensures holds))

pub returns-clause-short : goal.returns-clause-short
returns-clause-short c = length-text_of_number c.args.number c.ranges.number.fits
