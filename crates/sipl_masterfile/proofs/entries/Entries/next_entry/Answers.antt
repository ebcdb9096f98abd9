use Rattle.std.proofs.Common.{◌≡◌, ◌+◌, ◌<◌, length, arith, false-eqb, ap}
use Rattle.sipl_masterfile.specs.Entries.{entries_at}
use Rattle.sipl_masterfile.proofs.Scanning.{next-read}
use Rattle.sipl_masterfile.proofs.entries.Entries.next_entry.Goals as goal

pub returns-then-not-is_empty-clause-read : goal.returns-then-not-is_empty-clause-read
returns-then-not-is_empty-clause-read c =
    let line : c.loop-first.self-inside.line_ends + 1 + c.in_ok-rest.line_ends ≡ c.loop-first.self-inside.line_ends + c.in_ok-rest.line_ends + 1 = omega arith in
    let some : 0 < length c.read_fields.new.fields.items = omega (arith, c.read_fields.new.fields.ok.0, false-eqb _ 0 c.if-not-is_empty.ensures) in
    next-read c.args.self.now _ _ c.loop-first.self-inside.rest.now (c.loop-first.self-inside.line_ends + 1) c.in-Some.first.now c.is_blank.result c.read_fields.new.fields.items c.loop-first.invariant.left c.in_ok-rest.ensures.read (ap (λ n. entries_at n c.in_ok-rest.rest.now) line) c.in-Some.ensures.value c.is_blank.ensures some
