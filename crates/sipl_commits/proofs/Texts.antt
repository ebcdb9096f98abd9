-- Lengths of the parts of a text, and how it is taken apart.
use Rattle.std.proofs.Common.{◌≡◌, ℕ, true, false, zero, suc, ◌^◌, ◌<◌, Bool, [], ◌∷◌, ◌++◌, length, take, drop, Option, Some, None, Bor, Result, Ok, refl, sym, ap, ◌∙◌, arith, length-append}
use Rattle.std.proofs.lemmas.List.{drop_at, take-append-drop, take_at}
use Rattle.std.proofs.lemmas.Nat.{from_be_bytes-to_be_bytes_8}
use Rattle.std.specs.Int.{w64, byte_at, bytes_high_first, from_be_bytes}
use Rattle.std.proofs.lemmas.Bool.Decides.{Decides-eqb}
use Rattle.std.proofs.lemmas.Slice.Eq.{starts_is}
use Rattle.std.specs.Bool.{Decides}
use Rattle.std.specs.Cmp.Lexicographic.{pointwise}
use Rattle.std.specs.List.{IsSplitAt}
use lib.Dec.{eqb}
use Rattle.std.specs.Option.{MatchOption}
use Rattle.hex.specs.Hex.{IsBytes, decode_of, decode_sized, lower_digits}
use Rattle.hex.proofs.HexLemmas.{decode_of-encode_lower, length-encode_with}
use Rattle.hex.specs.declared.error.FromHexError.{FromHexError}
use Rattle.sha2.specs.Sha256.{sha256}
use Rattle.sha2.proofs.Facts256.{length-sha256}
use Rattle.sipl_commits.specs.Seals.{Octets, Begins, digest_text, number_octets, number_text, seal_line, seal_of}

-- lists that go on, and are equally long up to there
pub same_parts : (a b x y : Octets) → length a ≡ length b → a ++ x ≡ b ++ y → (a ≡ b) × (x ≡ y)
same_parts a b x y len e =
    let same : a ≡ b = sym (take_at a x (length b) len) ∙ ap (take (length b)) e ∙ take_at b y (length b) refl in
    let rest : x ≡ y = sym (drop_at a x (length b) len) ∙ ap (drop (length b)) e ∙ drop_at b y (length b) refl in
    (same, rest)

pub begins_rest : (t s : Octets) → Begins t s → t ≡ s ++ drop (length s) t
begins_rest t s h = sym (take-append-drop (length s) t) ∙ ap (λ (x : Octets). x ++ drop (length s) t) h

pub begins_from : (t s rest : Octets) → t ≡ s ++ rest → Begins t s
begins_from t s rest e = ap (take (length s)) e ∙ take_at s rest (length s) refl

pub length-number_octets : (n : ℕ) → length (number_octets n) ≡ 8
unfolding number_octets
length-number_octets n = refl

pub length-number_text : (n : ℕ) → length (number_text n) ≡ 16
unfolding number_text
length-number_text n =
    let e = length-encode_with lower_digits (number_octets n) in
    let k = length-number_octets n in
    omega (arith, e, k)

pub length-digest_text : (d : Octets) → length d ≡ 32 → length (digest_text d) ≡ 64
unfolding digest_text
length-digest_text d h =
    let e = length-encode_with lower_digits d in
    omega (arith, e, h)

pub length-seal_line : (d : Octets) → length d ≡ 32 → length (seal_line d) ≡ 72
unfolding seal_line
length-seal_line d h =
    let e = length-digest_text d h in
    omega (arith, e, length-append (digest_text d) (10 ∷ []))

pub length-seal_of : (t : Octets) → length (seal_of t) ≡ 72
length-seal_of t = length-seal_line (sha256 t) (length-sha256 t)

one_byte : (k n : ℕ) → byte_at k n < 256
one_byte zero n = omega arith
one_byte (suc k) n = omega arith

pub high_bytes : (k n : ℕ) → IsBytes (bytes_high_first k n)
high_bytes zero n i = omega arith
high_bytes (suc k) n zero = one_byte k n
high_bytes (suc k) n (suc i) = high_bytes k n i

number_bytes : (n : ℕ) → IsBytes (number_octets n)
unfolding number_octets
number_bytes n = high_bytes 8 n

sized : (t : Octets) → length t ≡ 16 → decode_sized t 8 ≡ decode_of t
sized t h = grind (arith)

-- a number's text reads back
pub number_read : (n : ℕ) → decode_of (number_text n) ≡ Ok (number_octets n)
unfolding number_text
number_read n = decode_of-encode_lower (number_octets n) (number_bytes n)

pub number_value : (n : ℕ) → n < 2 ^ 64 → from_be_bytes w64 (number_octets n) ≡ n
unfolding number_octets
number_value n h = from_be_bytes-to_be_bytes_8 n h

pub ok_is : (a b : Octets) (r : Result Octets FromHexError) → r ≡ Ok a → r ≡ Ok b → a ≡ b
ok_is a b r h k = cc

pub same_number : (m n : ℕ) → m < 2 ^ 64 → n < 2 ^ 64 → number_text m ≡ number_text n → m ≡ n
same_number m n hm hn e =
    let octets : number_octets m ≡ number_octets n = ok_is _ _ (decode_of (number_text m)) (number_read m) (ap decode_of e ∙ number_read n) in
    sym (number_value m hm) ∙ ap (from_be_bytes w64) octets ∙ number_value n hn

-- what decoding into 8 octets reports of a number's text
pub number_sized : (n : ℕ) → decode_sized (number_text n) 8 ≡ Ok (number_octets n)
number_sized n = sized (number_text n) (length-number_text n) ∙ number_read n

pub none_some : {A : Type 0} (r : Option A) (x : A) → r ≡ None → r ≡ Some x → ⊥
none_some r x a b = cc

pub same_some : (r : Option ℕ) (x y : ℕ) → r ≡ Some x → r ≡ Some y → x ≡ y
same_some r x y a b = cc

-- a text that is cut after its first part
pub cut_is : (r : Option (Bor Octets × Bor Octets)) (t front back : Octets) (n : ℕ)
    → MatchOption r (length t < n) (λ parts. IsSplitAt t n parts.0.now parts.1.now)
    → n ≡ length front → t ≡ front ++ back
    → MatchOption r ⊥ (λ parts. (parts.0.now ≡ front) × (parts.1.now ≡ back))
cut_is None t front back n h len e =
    let l = ap length e in
    omega (arith, h, l, len, length-append front back)
cut_is (Some parts) t front back n h len e =
    (h.1 ∙ ap (take n) e ∙ take_at front back n (sym len), h.2 ∙ ap (drop n) e ∙ drop_at front back n (sym len))

-- what `starts_with` reports
pub starts_decides : (t s : Octets) (r : Bool) → r ≡ pointwise eqb s (take (length s) t) → Decides r (Begins t s)
starts_decides t s r e =
    let h = starts_is Decides-eqb t s r e in
    (λ is. begins_from t s (drop (length s) t) (h.0 is), λ b. h.1 (drop (length s) t) (begins_rest t s b))

pub true_false : (b : Bool) → b ≡ true → b ≡ false → ⊥
true_false b t f = cc
