use Rattle.std.proofs.Common.{◌≡◌, ℕ, ◌+◌, ◌≤◌, List, ◌∷◌, ◌++◌, ◌∙◌, Some, length, take, drop, get_or, sym, ap, arith}
use Rattle.std.proofs.lemmas.Bool.Decides.{Decides-eqb}
use Rattle.std.proofs.lemmas.List.{take_rest}
use Rattle.std.proofs.lemmas.Slice.Eq.{strip_prefix_is}
use Rattle.sipl_archive.proofs.Heads.{cut_at, first_and_rest, head_is}
use Rattle.sipl_archive.proofs.runs.read_head.Goals as goal

pub returns : goal.returns
returns c =
    let text = c.args.text.now in
    let line = c.split_line.result.0.now in
    let rest = c.split_line.result.1.now in
    let end = c.in_ok-end.end in
    let occurs = c.in_ok-end.ensures.1 in
    let within : end + 2 ≤ length rest = occurs.fits in
    let lf : get_or rest (end + 1) 0 ≡ 10 = occurs.reads 1 (omega arith) in
    let next : end + 1 + 1 ≡ end + 2 = omega arith in
    record {
      fields = c.in_ok-strip_prefix.field-0.now;
      extent = sym c.read_extent.ensures ∙ c.in_ok-first.was;
      text_is = head_is text line c.in_ok-strip_prefix.field-0.now rest (take (end + 1) rest) _
          (first_and_rest text rest c.split_line.ensures.rest (omega arith) ∙ ap (λ (l : List ℕ). l ++ 10 ∷ rest) (sym c.split_line.ensures.line))
          (strip_prefix_is Decides-eqb line c.as_slice.result.now (Some c.in_ok-strip_prefix.field-0) c.in_ok-strip_prefix.ensures.cases ∙ ap (λ (p : List ℕ). p ++ c.in_ok-strip_prefix.field-0.now) c.as_slice.ensures)
          (cut_at rest (end + 1) (omega arith) lf ∙ ap (λ (n : ℕ). take (end + 1) rest ++ 10 ∷ drop n rest) next ∙ ap (λ (l : List ℕ). take (end + 1) rest ++ 10 ∷ l) (sym (take_rest rest (end + 2))));
    }
