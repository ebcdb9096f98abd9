-- Lines with their own digests.
use Rattle.std.proofs.Common.{◌≡◌, ℕ, ◌≤◌, Bool, ◌++◌, length, take, drop, Result, Ok, Err, sym, ap, ◌∙◌, append_assoc, arith, length-append}
use Rattle.std.proofs.lemmas.List.{take-append-drop, take_at}
use Rattle.std.specs.Bool.{Decides}
use Rattle.std.specs.Prelude.{IfOk}
use Rattle.sipl_commits.specs.Seals.{Octets, Begins, HasLine, HasParts, seal_of, sealed}
use Rattle.sipl_commits.proofs.Texts.{begins_from, begins_rest, length-seal_of, same_parts}

-- what holds of a value in place of another fact
pub with_ok : {T E : Type 0} (r : Result T E) (P Q : T → Type 0) → ((x : T) → P x → Q x) → IfOk r P → IfOk r Q
with_ok (Ok x) P Q f h = f x h
with_ok (Err e) P Q f h = h

-- a line that a text begins with begins as it has to
pub line_begins : (start : Octets) (len : ℕ) (t : Octets) → HasLine start len t → Begins (take len t) start
line_begins start len t h =
    let same : take len t ≡ h.text = ap (take len) (h.is ∙ append_assoc h.text (seal_of h.text) h.rest)
    ∙ take_at h.text (seal_of h.text ++ h.rest) len h.len_is in
    ap (take (length start)) same ∙ h.begins

-- a text begins with a line where the octets after the line's length begin with its digest
pub line_is : (start : Octets) (len : ℕ) (t line rest : Octets) (r : Bool) → line ≡ take len t → rest ≡ drop len t
    → length line ≡ len → Begins line start → Decides r (Begins rest (seal_of line)) → Decides r (HasLine start len t)
line_is start len t line rest r front back len_is begins decides =
    let cut : t ≡ line ++ rest = sym (ap (λ (x : Octets). x ++ rest) front ∙ ap (λ (x : Octets). take len t ++ x) back ∙ take-append-drop len t) in (
      λ is. record {
        text = line;
        rest = drop (length (seal_of line)) rest;
        is = cut ∙ ap (λ (x : Octets). line ++ x) (begins_rest rest (seal_of line) (decides.0 is))
            ∙ sym (append_assoc line (seal_of line) (drop (length (seal_of line)) rest));
        begins = begins;
        len_is = len_is;
      },
      λ h.
          let parts = same_parts line h.text rest (seal_of h.text ++ h.rest) (len_is ∙ sym h.len_is)
          (sym cut ∙ h.is ∙ append_assoc h.text (seal_of h.text) h.rest) in
          decides.1 (begins_from rest (seal_of line) h.rest (parts.1 ∙ ap (λ (x : Octets). seal_of x ++ h.rest) (sym parts.0))),
    )

-- a text with its digest has no other parts
pub sealed_parts : (octets text line before : Octets) → HasParts octets text line → octets ≡ sealed before
    → (text ≡ before) × (line ≡ seal_of before)
sealed_parts octets text line before parts e =
    let a = ap length (sym parts.is ∙ e) in
    let b = length-append text line in
    let d = length-append before (seal_of before) in
    let n = length-seal_of before in
    let l = parts.len in
    let len : length text ≡ length before = omega (arith, a, b, d, n, l) in
    same_parts text before line (seal_of before) len (sym parts.is ∙ e)

-- a text that is too short
pub sealed_fits : (t before : Octets) → t ≡ sealed before → 72 ≤ length t
sealed_fits t before e =
    let a = ap length e in
    let d = length-append before (seal_of before) in
    let n = length-seal_of before in
    omega (arith, a, d, n)
