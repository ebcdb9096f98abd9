use Rattle.std.proofs.Common.{◌^◌, ◌<◌, ◌++◌, length, take, drop, ap, ◌∙◌, arith, length-append}
use Rattle.sipl_commits.specs.Seals.{Octets}
use Rattle.sipl_commits.proofs.Texts.{cut_is, none_some, same_some}
use Rattle.sipl_commits.proofs.Written.{length-line_of, line_of, written_parts}
use Rattle.sipl_commits.proofs.commit.split_body.Goals as goal

pub returns-then-text-lt-LINE_LEN-clause-only : goal.returns-then-text-lt-LINE_LEN-clause-only
returns-then-text-lt-LINE_LEN-clause-only c = λ p body rest e.
    let l = ap length (written_parts p body rest c.args.text.now e).is in
    let len = length-line_of p body in
    omega (arith, l, len, length-append (line_of p body) (body ++ rest))

pub returns-in_err-read_number-clause-only : goal.returns-in_err-read_number-clause-only
returns-in_err-read_number-clause-only c = λ p body rest e.
    let parts = written_parts p body rest c.args.text.now e in
    let fits = parts.fits in
    let bound : length body < 2 ^ 64 = omega (arith, fits) in
    absurd (none_some _ _ c.in_err-read_number.was
    (c.read_number.ensures (length body) bound (ap (λ (t : Octets). take 16 (drop 25 t)) c.split_at.ensures.front ∙ parts.len)))

pub returns-clause-only : goal.returns-clause-only
returns-clause-only c = λ p body rest e.
    let parts = written_parts p body rest c.args.text.now e in
    let fits = parts.fits in
    let bound : length body < 2 ^ 64 = omega (arith, fits) in
    let len = same_some _ _ _ c.in_ok-read_number.was
    (c.read_number.ensures (length body) bound (ap (λ (t : Octets). take 16 (drop 25 t)) c.split_at.ensures.front ∙ parts.len)) in
    cut_is c.split_at_checked.result c.split_at.result.1.now body rest c.in_ok-read_number.field-0 c.split_at_checked.ensures.cases len
    (c.split_at.ensures.back ∙ parts.back)
