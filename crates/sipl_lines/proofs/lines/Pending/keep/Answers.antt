use Rattle.std.proofs.Common.{◌≡◌, ◌-◌, ◌≤◌, ◌++◌, List, ℕ, length, take, min, sym, ap, ◌∙◌, arith}
use Rattle.std.proofs.lemmas.List.{take_min}
use Rattle.sipl_lines.specs.Machine.{kept_prefix}
use Rattle.sipl_lines.proofs.Cutting.{take-append_rest}
use Rattle.sipl_lines.proofs.lines.Pending.keep.Goals as goal

pub returns-clause-kept : goal.returns-clause-kept
returns-clause-kept c =
    let kept : List ℕ = c.self.inside.kept.items in
    let piece : List ℕ = c.args.piece.now in
    let short : length kept ≤ 65538 = omega (arith, c.self.inside.kept.ok.0) in
    let count : c.min-count.result ≡ min (65538 - length kept) (length piece) = omega (arith, c.self.inside.kept.ok.0, c.min-count.ensures, c.len-space.ensures) in
    let grown : c.extend_from_slice.new.self.items ≡ kept ++ take c.min-count.result piece = rw c.unwrap.ensures at c.extend_from_slice.ensures.items in
    grown ∙ ap (λ n. kept ++ take n piece) count ∙ ap (λ text. kept ++ text) (take_min (65538 - length kept) piece)
    ∙ sym (take-append_rest 65538 kept piece short) ∙ ap (λ p. kept_prefix (p ++ piece)) c.self.view_is
