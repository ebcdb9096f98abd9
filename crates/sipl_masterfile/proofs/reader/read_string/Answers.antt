use Rattle.std.proofs.Common.{length, ap, arith}
use Rattle.std.proofs.lemmas.Result.{err_from_is_err_and}
use Rattle.sipl_masterfile.proofs.Strings.{read_none, read_octet, read_over, read_fault, read_all, read_too_long}
use Rattle.sipl_masterfile.proofs.reader.read_string.Goals as goal

pub loop-string-init : goal.loop-string-init
loop-string-init c =
    let empty = ap length c.in_ok-string.ensures.items in
    record {
      read = rw c.in_ok-string.ensures.items (read_none c.args.text.now);
      few = omega (arith, c.in_ok-string.ensures.len);
      reserved = omega (arith, c.in_ok-string.ensures.capacity, c.min.ensures);
    }

pub loop-string-preserved-then-len-lt-MAX_STRING_LEN :
    goal.loop-string-preserved-then-len-lt-MAX_STRING_LEN
loop-string-preserved-then-len-lt-MAX_STRING_LEN c =
    let next = rw c.in-Some.is at c.in_ok-octet.ensures.next in
    record {
      read = rw c.push_reserved.ensures.items (read_octet _ c.loop-string.rest.now c.in-Some.tail.now _ _ c.in-Some.octet c.loop-string.invariant.read next (omega (arith, c.loop-string.string.ok.0)));
      few = omega (arith, next.shorter);
      reserved = omega arith;
    }

pub loop-string-preserved : goal.loop-string-preserved
loop-string-preserved c =
    let next = rw c.in-Some.is at c.in_ok-octet.ensures.next in
    record {
      read = read_over _ c.loop-string.rest.now c.in-Some.tail.now _ _ c.in-Some.octet c.loop-string.invariant.read next (omega (arith, c.loop-string.string.ok.0));
      few = omega (arith, next.shorter);
      reserved = c.loop-string.invariant.reserved;
    }

pub returns-in_err-octet-clause-refused : goal.returns-in_err-octet-clause-refused
returns-in_err-octet-clause-refused c =
    let p = err_from_is_err_and c.from_residual-in_err-octet.result c.from_residual-in_err-octet.ensures.1 in
    let refused = c.in_err-octet.ensures.refused in
    rw (p.1, p.2) (λ _. read_fault _ _ _ _ _ c.loop-string.invariant.read refused.1)

pub returns-then-is_too_long-clause-refused : goal.returns-then-is_too_long-clause-refused
returns-then-is_too_long-clause-refused c =
    λ _. read_too_long _ _ _ (rw c.if-is_too_long.true at c.loop-string.invariant.read) (rw c.in_default.is at c.in_ok-octet.ensures.next)

pub returns-clause-read : goal.returns-clause-read
returns-clause-read c =
    read_all _ _ _ (rw c.if-is_too_long.false at c.loop-string.invariant.read) (rw c.in_default.is at c.in_ok-octet.ensures.next)
