-- The octets of a state, and its parts.
use Rattle.std.proofs.Common.{◌≡◌, true, false, Bool, ◌++◌, sym, ap, ◌∙◌}
use Rattle.std.proofs.lemmas.Bool.Decides.{Decides-eqb}
use Rattle.std.proofs.lemmas.Slice.Eq.{slice_eq-Decides}
use Rattle.std.specs.Cmp.Lexicographic.{pointwise}
use Rattle.sha2.specs.Sha256.{sha256}
use Rattle.sipl_commits.specs.Seals.{Octets, HasParts, seal_line, seal_of, sealed}
use Rattle.sipl_commits.specs.States.{state_digest, state_line, state_text}
use Rattle.sipl_commits.proofs.Lines.{sealed_parts}
use Rattle.sipl_commits.proofs.Texts.{true_false}
use lib.Dec.{eqb}

-- the octets are those of a state, if their last line is right
pub state_is : (octets text line own body digest : Octets) (same : Bool) → HasParts octets text line → text ≡ state_line ++ body
    → digest ≡ sha256 text → own ≡ seal_line digest → same ≡ pointwise eqb own line → same ≡ true
    → (octets ≡ state_text body) × (digest ≡ state_digest body)
state_is octets text line own body digest same parts text_is digest_is own_is same_is is =
    let line_is : own ≡ line = (slice_eq-Decides Decides-eqb own line same same_is).0 is in
    let digest_of : digest ≡ state_digest body = digest_is ∙ ap sha256 text_is in (
      parts.is ∙ ap (λ (x : Octets). text ++ x) (sym line_is ∙ own_is ∙ ap seal_line digest_of)
          ∙ ap (λ (x : Octets). x ++ seal_of (state_line ++ body)) text_is,
      digest_of,
    )

-- the octets are no state, if it is not
pub no_state : (octets text line own digest : Octets) (same : Bool) → HasParts octets text line
    → digest ≡ sha256 text → own ≡ seal_line digest → same ≡ pointwise eqb own line → same ≡ false
    → (body : Octets) → octets ≡ state_text body → ⊥
no_state octets text line own digest same parts digest_is own_is same_is not body e =
    let found = sealed_parts octets text line (state_line ++ body) parts e in
    true_false same
    ((slice_eq-Decides Decides-eqb own line same same_is).1 (own_is ∙ ap seal_line (digest_is ∙ ap sha256 found.0) ∙ sym found.1))
    not

-- a state that is written
pub state_written : (old new start begun text body : Octets) → start ≡ state_line → begun ≡ start ++ body → text ≡ sealed begun
    → new ≡ old ++ text → new ≡ old ++ state_text body
state_written old new start begun text body is_start is_begun is_text is_new =
    is_new ∙ ap (λ (x : Octets). old ++ x) (is_text ∙ ap sealed (is_begun ∙ ap (λ (x : Octets). x ++ body) is_start))
