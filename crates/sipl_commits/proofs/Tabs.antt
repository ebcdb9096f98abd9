-- A commit's octets have no tab but the first.
use Rattle.std.proofs.Common.{◌≡◌, ℕ, zero, suc, ◌/◌, ◌%◌, ◌==◌, ◌&&◌, true, Bool, not, [], ◌∷◌, ◌++◌, codes, length, refl, ap, append_assoc, arith}
use Rattle.std.proofs.lemmas.Bool.{and_parts}
use Rattle.hex.specs.Hex.{encode_with, lower_digits}
use Rattle.sha2.specs.Sha256.{sha256}
use Rattle.sipl_commits.specs.Commits.{line_start, line_text, next_point, written}
use Rattle.sipl_commits.specs.Cuts.{HasNoTab}
use Rattle.sipl_commits.specs.Seals.{Octets, digest_text, number_octets, number_text, seal_line, seal_of}
use Rattle.sipl_commits.specs.declared.point.Point.{Point}
use Rattle.sipl_commits.proofs.Texts.{true_false}

-- the test of a literal
abbrev is_untabbed : Octets → Bool
is_untabbed [] = true
is_untabbed (x ∷ xs) = not (x == 9) && is_untabbed xs

tested : (x : ℕ) → not (x == 9) ≡ true → x ≡ 9 → ⊥
tested x h e = true_false (not (x == 9)) h (ap (λ (y : ℕ). not (y == 9)) e)

pub untabbed : (text : Octets) → is_untabbed text ≡ true → HasNoTab text
untabbed [] h i e = omega (arith, e)
untabbed (x ∷ xs) h zero e = tested x (and_parts (not (x == 9)) (is_untabbed xs) h).0 e
untabbed (x ∷ xs) h (suc i) e = untabbed xs (and_parts (not (x == 9)) (is_untabbed xs) h).1 i e

pub untabbed_append : (a b : Octets) → HasNoTab a → HasNoTab b → HasNoTab (a ++ b)
untabbed_append [] b na nb i = nb i
untabbed_append (x ∷ xs) b na nb zero = na 0
untabbed_append (x ∷ xs) b na nb (suc i) = untabbed_append xs b (λ k. na (suc k)) nb i

untabbed_digits : HasNoTab lower_digits
untabbed_digits = untabbed lower_digits refl

untabbed_encoded : (xs : Octets) → HasNoTab (encode_with lower_digits xs)
unfolding encode_with
untabbed_encoded [] i e = omega (arith, e)
untabbed_encoded (x ∷ xs) zero e = untabbed_digits (x / 16) e
untabbed_encoded (x ∷ xs) (suc zero) e = untabbed_digits (x % 16) e
untabbed_encoded (x ∷ xs) (suc (suc i)) e = untabbed_encoded xs i e

untabbed_number : (n : ℕ) → HasNoTab (number_text n)
unfolding number_text
untabbed_number n = untabbed_encoded (number_octets n)

untabbed_digest : (d : Octets) → HasNoTab (digest_text d)
unfolding digest_text
untabbed_digest d = untabbed_encoded d

untabbed_seal : (d : Octets) → HasNoTab (seal_line d)
unfolding seal_line
untabbed_seal d =
    untabbed_append (codes "sha256 " ++ digest_text d) (10 ∷ []) (untabbed_append (codes "sha256 ") (digest_text d) (untabbed (codes "sha256 ") refl) (untabbed_digest d))
    (untabbed (10 ∷ []) refl)

-- a commit's line after its tab
abbrev pub fields : Point → ℕ → Octets
fields p len = codes "commit " ++ (number_text p.number ++ (32 ∷ number_text len ++ 32 ∷ digest_text p.digest ++ 32 ∷ []))

fields_are : (p : Point) (len : ℕ) → line_text p len ≡ 9 ∷ fields p len
unfolding line_text line_start
fields_are p len = simp append_assoc

untabbed_spaced : (text : Octets) → HasNoTab text → HasNoTab (32 ∷ text)
untabbed_spaced text h zero e = omega (arith, e)
untabbed_spaced text h (suc i) e = h i e

untabbed_fields : (p : Point) (len : ℕ) → HasNoTab (fields p len)
untabbed_fields p len =
    let n = 32 ∷ number_text len in
    let d = 32 ∷ digest_text p.digest in
    let nd = untabbed_append n d (untabbed_spaced (number_text len) (untabbed_number len)) (untabbed_spaced (digest_text p.digest) (untabbed_digest p.digest)) in
    let nds = untabbed_append (n ++ d) (32 ∷ []) nd (untabbed (32 ∷ []) refl) in
    let all = untabbed_append (number_text p.number) ((n ++ d) ++ 32 ∷ []) (untabbed_number p.number) nds in
    untabbed_append (codes "commit ") (number_text p.number ++ ((n ++ d) ++ 32 ∷ [])) (untabbed (codes "commit ") refl) all

-- a commit is a tab, and octets without one
pub tab_first : (p : Point) (body : Octets) → HasNoTab body → (more : Octets) × (written p body ≡ 9 ∷ more) × HasNoTab more
tab_first p body h =
    let q = next_point p body in
    let text = line_text q (length body) in (
      (fields q (length body) ++ seal_of text) ++ body,
      ap (λ (x : Octets). (x ++ seal_of text) ++ body) (fields_are q (length body)),
      untabbed_append (fields q (length body) ++ seal_of text) body
          (untabbed_append (fields q (length body)) (seal_of text) (untabbed_fields q (length body)) (untabbed_seal (sha256 text))) h,
    )
