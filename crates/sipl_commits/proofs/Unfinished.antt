-- A write of a commit of which octets are missing.
use Rattle.std.proofs.Common.{◌≡◌, ℕ, zero, suc, ◌+◌, ◌/◌, ◌%◌, ◌<◌, ◌==◌, ◌&&◌, ◌⊎◌, inl, inr, true, Bool, not, [], ◌∷◌, ◌++◌, codes, length, get_or, refl, sym, ap, ◌∙◌, append_assoc, arith, length-append}
use Rattle.std.proofs.lemmas.Bool.{and_parts}
use Rattle.std.proofs.lemmas.List.{ext_get_or, get_or-append-add, get_or_append_left}
use Rattle.std.specs.Prelude.{slice_index}
use Rattle.hex.specs.Hex.{encode_with, lower_digits}
use Rattle.sha2.specs.Sha256.{sha256}
use Rattle.sha2.proofs.Facts256.{length-sha256}
use Rattle.sipl_commits.specs.Commits.{line_start, line_text, next_number, next_point, written}
use Rattle.sipl_commits.specs.Cuts.{AreApart, IsLeftOf, IsPlain}
use Rattle.sipl_commits.specs.Seals.{Octets, digest_text, seal_line, seal_of, sealed}
use Rattle.sipl_commits.specs.Tails.{HasNoNext, IsOtherAt, IsTorn}
use Rattle.sipl_commits.specs.declared.point.Point.{Point}
use Rattle.sipl_commits.proofs.Cutting.{later_tab, line_fits, line_tab, starts}
use Rattle.sipl_commits.proofs.Digests.{digest_octets, same_digest}
use Rattle.sipl_commits.proofs.Tabs.{tab_first}
use Rattle.sipl_commits.proofs.Texts.{begins_from, length-digest_text, length-seal_of, same_parts, true_false}
use Rattle.sipl_commits.proofs.Written.{length-line_text, next_digest}

-- no octet is 0
abbrev HasNoZero : Octets → Type 0
HasNoZero text = (i : ℕ) → i < length text → slice_index text i ≡ 0 → ⊥

abbrev is_nonzero : Octets → Bool
is_nonzero [] = true
is_nonzero (x ∷ xs) = not (x == 0) && is_nonzero xs

tested : (x : ℕ) → not (x == 0) ≡ true → x ≡ 0 → ⊥
tested x h e = true_false (not (x == 0)) h (ap (λ (y : ℕ). not (y == 0)) e)

nonzero : (text : Octets) → is_nonzero text ≡ true → HasNoZero text
nonzero [] h i less e = omega (arith, less)
nonzero (x ∷ xs) h zero less e = tested x (and_parts (not (x == 0)) (is_nonzero xs) h).0 e
nonzero (x ∷ xs) h (suc i) less e = nonzero xs (and_parts (not (x == 0)) (is_nonzero xs) h).1 i (omega (arith, less)) e

nonzero_append : (a b : Octets) → HasNoZero a → HasNoZero b → HasNoZero (a ++ b)
nonzero_append [] b na nb i less = nb i less
nonzero_append (x ∷ xs) b na nb zero less = na 0 (omega arith)
nonzero_append (x ∷ xs) b na nb (suc i) less = nonzero_append xs b (λ k l. na (suc k) (omega (arith, l))) nb i (omega (arith, less))

digit : (k : ℕ) → k < 16 → slice_index lower_digits k ≡ 0 → ⊥
digit k less e = nonzero lower_digits refl k less e

nonzero_encoded : (xs : Octets) → ((i : ℕ) → slice_index xs i < 256) → HasNoZero (encode_with lower_digits xs)
unfolding encode_with
nonzero_encoded [] h i less e = omega (arith, less)
nonzero_encoded (x ∷ xs) h zero less e = let b : x < 256 = h 0 in digit (x / 16) (omega (arith, b)) e
nonzero_encoded (x ∷ xs) h (suc zero) less e = digit (x % 16) (omega arith) e
nonzero_encoded (x ∷ xs) h (suc (suc i)) less e = nonzero_encoded xs (λ k. h (suc k)) i (omega (arith, less)) e

nonzero_seal : (text : Octets) → HasNoZero (seal_of text)
unfolding seal_line digest_text
nonzero_seal text =
    nonzero_append (codes "sha256 " ++ encode_with lower_digits (sha256 text)) (10 ∷ [])
    (nonzero_append (codes "sha256 ") (encode_with lower_digits (sha256 text)) (nonzero (codes "sha256 ") refl) (nonzero_encoded (sha256 text) (digest_octets text)))
    (nonzero (10 ∷ []) refl)

-- one digest is in a line
same_seal : (a b : Octets) → seal_of a ≡ seal_of b → sha256 a ≡ sha256 b
unfolding seal_line
same_seal a b e =
    let front : Octets = codes "sha256 " in
    let left = append_assoc front (digest_text (sha256 a)) (10 ∷ []) in
    let right = append_assoc front (digest_text (sha256 b)) (10 ∷ []) in
    let first = same_parts front front (digest_text (sha256 a) ++ 10 ∷ []) (digest_text (sha256 b) ++ 10 ∷ []) refl (sym left ∙ e ∙ right) in
    let second = same_parts (digest_text (sha256 a)) (digest_text (sha256 b)) (10 ∷ []) (10 ∷ [])
    (length-digest_text (sha256 a) (length-sha256 a) ∙ sym (length-digest_text (sha256 b) (length-sha256 b))) first.1 in
    same_digest a b second.0

-- what is at a place after a text
after_text : (a b c t : Octets) (n i : ℕ) → t ≡ (a ++ b) ++ c → length a ≡ n → i < length b → get_or t (n + i) 0 ≡ get_or b i 0
after_text a b c t n i is len less =
    let front = length-append a b in
    ap (λ (x : Octets). get_or x (n + i) 0) is ∙ get_or_append_left (a ++ b) c 0 (n + i) (omega (arith, front, len, less))
    ∙ ap (λ (k : ℕ). get_or (a ++ b) (k + i) 0) (sym len) ∙ get_or-append-add a b i 0

written_or_zero : (x y : ℕ) → (x ≡ y) ⊎ (x ≡ 0) → (x ≡ 0 → ⊥) → x ≡ y
written_or_zero x y (inl e) h = e
written_or_zero x y (inr e) h = absurd (h e)

-- the line at the start is that of the commit
line_is_own : (p : Point) (body left text rest : Octets) → IsLeftOf (written p body) left → left ≡ sealed text ++ rest → length text ≡ 107
    → AreApart text (line_text (next_point p body) (length body)) → text ≡ line_text (next_point p body) (length body)
line_is_own p body left text rest of is len apart =
    let own : Octets = line_text (next_point p body) (length body) in
    let own_len = length-line_text (next_point p body) (length body) (next_digest p body) in
    let a = length-seal_of text in
    let b = length-seal_of own in
    let l = ap length is in
    let m = length-append (sealed text) rest in
    let n = length-append text (seal_of text) in
    let seals : seal_of text ≡ seal_of own = ext_get_or 0 (seal_of text) (seal_of own) (a ∙ sym b) (λ i less.
    let at = after_text text (seal_of text) rest left 107 i is len less in
    let at_own = after_text own (seal_of own) body (written p body) 107 i refl own_len (omega (arith, less, a, b)) in
    let here = of.each (107 + i) (omega (arith, less, a, l, m, n, len)) in
    let same = written_or_zero _ _ here (λ zero_here. nonzero_seal text i less (sym at ∙ zero_here)) in
    sym at ∙ same ∙ at_own) in
    apart (same_seal text own seals)

unfinished_at : (p : Point) (body left : Octets) (k : ℕ) → IsPlain body → IsLeftOf (written p body) left
    → ((other : Octets) → AreApart other (line_text (next_point p body) (length body))) → IsOtherAt p.number left k → ⊥
unfinished_at p body left zero plain of apart h =
    let line = h.line in
    let own : Octets = line_text (next_point p body) (length body) in
    let is_own = line_is_own p body left line.text line.rest of line.is line.len_is (apart line.text) in
    let found = starts (next_point p body) (length body) (seal_of line.text ++ line.rest) in
    h.other refl (begins_from left (line_start (next_number p.number)) found.0
    (line.is ∙ append_assoc line.text (seal_of line.text) line.rest ∙ ap (λ (x : Octets). x ++ (seal_of line.text ++ line.rest)) is_own ∙ found.1))
unfinished_at p body left (suc k) plain of apart h =
    let fits = line_fits p.number left (suc k) h in
    let first = tab_first p body plain.no_tab in
    let tab = line_tab p.number left (suc k) h in
    let same = written_or_zero _ _ (of.each (suc k) (omega (arith, fits))) (λ e. omega (arith, e, tab)) in
    later_tab (written p body) first.0 (suc k) first.1 first.2 (omega arith) (sym same ∙ tab)

pub unfinished : (p : Point) (body left : Octets) → IsPlain body → IsLeftOf (written p body) left → HasNoNext p left
    → ((other : Octets) → AreApart other (line_text (next_point p body) (length body))) → IsTorn p left
unfinished p body left plain of none apart =
    record { no_next = none; no_other = λ h. unfinished_at p body left h.0 plain of apart h.1 }
