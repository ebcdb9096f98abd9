use Rattle.std.proofs.Common.{◌||◌, ◌<◌, ◌∙◌, ap, refl, subst, length, arith, false, Bool, Err}
use Rattle.std.proofs.Math.Bool.{or-false}
use Rattle.std.proofs.lemmas.Result.{err_from_is_err_and}
use Rattle.sipl_lines.specs.Checking.{ReadsPiece}
use Rattle.sipl_lines.specs.ServeFault.{is_read_fault}
use Rattle.sipl_lines.specs.Tapped.{tapped_inner, has_failed}
use Rattle.sipl_lines.proofs.Reading.{read_none, read_more, read_to_end, same_read_fault, longer}
use Rattle.sipl_lines.proofs.check.read_all.Goals as goal

pub loop-chunk-init : goal.loop-chunk-init
loop-chunk-init g c =
    (read_none (g.R.Read.remaining (tapped_inner c.args.reader.now)) c.args.text.now.items, refl, omega (arith, c.in_ok-chunk.ensures.len))

pub read_piece-requires : goal.read_piece-requires
read_piece-requires g c = omega (arith, c.deref_mut.ensures.len, c.loop-chunk.invariant.2)

pub returns-in_err-read_piece-clause-failed : goal.returns-in_err-read_piece-clause-failed
returns-in_err-read_piece-clause-failed g c =
    let p = err_from_is_err_and c.from_residual-in_err-read_piece.result c.from_residual-in_err-read_piece.ensures.1 in
    rw (p.1, p.2) (c.in_err-read_piece.ensures.failed
    ∙ ap (λ b. b || is_read_fault {T = Bool} (Err c.in_err-read_piece.field-0.0)) c.loop-chunk.invariant.1
    ∙ ap (λ b. has_failed c.args.reader.now || b) (same_read_fault Bool (Unit {0}) c.in_err-read_piece.field-0.0))

pub loop-chunk-smaller : goal.loop-chunk-smaller
loop-chunk-smaller g c =
    let piece = subst (λ more. ReadsPiece more (g.R.Read.remaining (tapped_inner c.loop-chunk.reader)) (g.R.Read.remaining (tapped_inner c.read_piece.new.reader)) c.loop-chunk.text.items c.read_piece.new.text.items) c.if-branch.true c.in_ok-read_piece.ensures.ok in
    let more : length c.loop-chunk.text.items < length c.read_piece.new.text.items = longer piece in
    omega (arith, more, c.loop-chunk.text.ok.0, c.read_piece.new.text.ok.0, c.read_piece.new.text.small)

pub loop-chunk-preserved : goal.loop-chunk-preserved
loop-chunk-preserved g c =
    let piece = subst (λ more. ReadsPiece more (g.R.Read.remaining (tapped_inner c.loop-chunk.reader)) (g.R.Read.remaining (tapped_inner c.read_piece.new.reader)) c.loop-chunk.text.items c.read_piece.new.text.items) c.if-branch.true c.in_ok-read_piece.ensures.ok in (
      read_more _ _ c.loop-chunk.invariant.0 piece,
      c.in_ok-read_piece.ensures.failed ∙ or-false (has_failed c.loop-chunk.reader) ∙ c.loop-chunk.invariant.1,
      c.loop-chunk.invariant.2,
    )

pub returns-clause-ok : goal.returns-clause-ok
returns-clause-ok g c =
    let piece = subst (λ more. ReadsPiece more (g.R.Read.remaining (tapped_inner c.loop-chunk.reader)) (g.R.Read.remaining (tapped_inner c.read_piece.new.reader)) c.loop-chunk.text.items c.read_piece.new.text.items) c.if-branch.false c.in_ok-read_piece.ensures.ok in
    read_to_end _ _ c.loop-chunk.invariant.0 piece

pub returns-clause-failed : goal.returns-clause-failed
returns-clause-failed g c =
    c.in_ok-read_piece.ensures.failed ∙ ap (λ b. b || false) c.loop-chunk.invariant.1
