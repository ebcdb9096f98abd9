-- Branches differ, and how long they are.
use Rattle.std.proofs.Common.{◌≡◌, ℕ, zero, suc, ◌≤◌, ◌<◌, ◌^◌, List, [], ◌∷◌, ◌++◌, length, codes, decimal, refl, sym, ap, ◌∙◌, arith, length-append}
use Rattle.std.specs.Int.{to_be_bytes, from_be_bytes, w64, byte_at, bytes_high_first}
use Rattle.std.proofs.lemmas.List.{append_cancel_left, append_cancel_right}
use Rattle.std.proofs.lemmas.Nat.{from_be_bytes-to_be_bytes_8}
use Rattle.std.proofs.lemmas.Fmt.{decimal_injective, length-decimal-le}
use Rattle.hex.specs.Hex.{IsBytes, decode_of, encode_lower, lower_digits}
use Rattle.hex.proofs.HexLemmas.{decode_of-encode_lower, length-encode_with}
use Rattle.sipl_failover.specs.Branch.{branch_of}

-- lists whose first parts are of one length have equal parts
append_split : (xs xs' ys ys' : List ℕ) → length xs ≡ length xs' → xs ++ ys ≡ xs' ++ ys' → (xs ≡ xs') × (ys ≡ ys')
append_split [] [] ys ys' same e = (refl, e)
append_split [] (x' ∷ xs') ys ys' same e = absurd (omega arith)
append_split (x ∷ xs) [] ys ys' same e = absurd (omega arith)
append_split (x ∷ xs) (x' ∷ xs') ys ys' same e =
    let head : x ≡ x' = cc in
    let tail : xs ++ ys ≡ xs' ++ ys' = cc in
    let both = append_split xs xs' ys ys' (omega arith) tail in
    let front : xs ≡ xs' = both.0 in
    (cc, both.1)

byte_is_byte : (k n : ℕ) → byte_at k n < 256
byte_is_byte zero n = omega arith
byte_is_byte (suc k) n = omega arith

bytes_are_bytes : (k n : ℕ) → IsBytes (bytes_high_first k n)
bytes_are_bytes zero n i = omega arith
bytes_are_bytes (suc k) n zero = byte_is_byte k n
bytes_are_bytes (suc k) n (suc i) = bytes_are_bytes k n i

length_bytes : (n : ℕ) → length (to_be_bytes w64 n) ≡ 8
length_bytes n = refl

-- the 16 digits give the number back
digits_injective : (m n : ℕ) → m < 2 ^ 64 → n < 2 ^ 64 → encode_lower (to_be_bytes w64 m) ≡ encode_lower (to_be_bytes w64 n) → m ≡ n
digits_injective m n m_fits n_fits same =
    let m_back = decode_of-encode_lower (to_be_bytes w64 m) (bytes_are_bytes 8 m) in
    let n_back = decode_of-encode_lower (to_be_bytes w64 n) (bytes_are_bytes 8 n) in
    let oks = sym m_back ∙ ap decode_of same ∙ n_back in
    let bytes : to_be_bytes w64 m ≡ to_be_bytes w64 n = cc oks in
    sym (from_be_bytes-to_be_bytes_8 m m_fits) ∙ ap (from_be_bytes w64) bytes ∙ from_be_bytes-to_be_bytes_8 n n_fits

-- all that comes before the attempt
abbrev before_attempt : ℕ → List ℕ
before_attempt base = codes "z9hG4bK" ++ encode_lower (to_be_bytes w64 base) ++ codes "."

length_before : (base : ℕ) → length (before_attempt base) ≡ 24
length_before base =
    let digits = length-encode_with lower_digits (to_be_bytes w64 base) in
    let eight = length_bytes base in
    simp (length-append) (omega (arith, digits, eight))

pub branch_injective : (base base' attempt attempt' : ℕ) → base < 2 ^ 64 → base' < 2 ^ 64 → attempt < 2 ^ 32 → attempt' < 2 ^ 32 → branch_of base attempt ≡ branch_of base' attempt' → (base ≡ base') × (attempt ≡ attempt')
branch_injective base base' attempt attempt' base_fits base_fits' fits fits' same =
    let parts = append_split (before_attempt base) (before_attempt base') (decimal attempt) (decimal attempt') (length_before base ∙ sym (length_before base')) same in
    let digits = append_cancel_left (codes "z9hG4bK") (encode_lower (to_be_bytes w64 base)) (encode_lower (to_be_bytes w64 base')) (append_cancel_right (codes "z9hG4bK" ++ encode_lower (to_be_bytes w64 base)) (codes "z9hG4bK" ++ encode_lower (to_be_bytes w64 base')) (codes ".") parts.0) in
    (digits_injective base base' base_fits base_fits' digits, decimal_injective attempt attempt' (omega arith) (omega arith) parts.1)

pub length-branch_of : (base attempt : ℕ) → attempt ≤ 2048 → length (branch_of base attempt) ≤ 28
length-branch_of base attempt few =
    let digits = length-decimal-le 4 attempt (omega arith) (omega arith) (omega arith) in
    let before = length_before base in
    let whole = length-append (before_attempt base) (decimal attempt) in
    omega (arith, digits, before, whole)

pub branch_is_short : (base attempt : ℕ) → attempt ≤ 2048 → length (branch_of base attempt) ≤ 28
branch_is_short = length-branch_of
