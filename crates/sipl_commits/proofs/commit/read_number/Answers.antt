use Rattle.std.proofs.Common.{◌≡◌, List, ℕ, ap, ◌∙◌, arith}
use Rattle.std.specs.Prelude.{MatchResult}
use Rattle.std.specs.Result.{result_ok}
use Rattle.std.specs.Int.{w64, from_be_bytes}
use Rattle.hex.specs.Hex.{decode_sized}
use Rattle.hex.specs.declared.error.FromHexError.{FromHexError}
use Rattle.sipl_commits.specs.Seals.{number_octets, number_text}
use Rattle.sipl_commits.proofs.Texts.{none_some, number_sized, number_value}
use Rattle.sipl_commits.proofs.commit.read_number.Goals as goal

decoded : (digits : List ℕ) (n : ℕ) (P : List ℕ → Type 0) (Q : FromHexError → Type 0) → digits ≡ number_text n
    → MatchResult (decode_sized digits 8) P Q → P (number_octets n)
decoded digits n P Q e h = rw (e, number_sized n) at h

pub returns-in_err-ok : goal.returns-in_err-ok
returns-in_err-ok c = λ n h e.
    let d = decoded c.args.digits.now n _ _ e c.decode_to_slice.ensures.value in
    let some = c.ok.ensures.value ∙ ap result_ok d.0 in
    absurd (none_some _ _ c.in_err-ok.was some)

pub returns : goal.returns
returns c = λ n h e.
    let d = decoded c.args.digits.now n _ _ e c.decode_to_slice.ensures.value in
    let v : from_be_bytes w64 c.decode_to_slice.new.out ≡ n = ap (from_be_bytes w64) d.1 ∙ number_value n h in
    let is : c.from_be_bytes.result ≡ n = c.from_be_bytes.ensures ∙ v in
    grind (arith, is, h, c.try_from.ensures, c.ok-2.ensures.value)
