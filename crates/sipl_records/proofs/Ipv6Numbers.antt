-- The numbers of groups, and powers of their base.
use Rattle.std.proofs.Common.{◌≡◌, ℕ, ◌+◌, ◌*◌, ◌-◌, ◌^◌, ◌<◌, ◌≤◌, suc, zero, Bool, true, false, List, [], ◌∷◌, ◌++◌, length, Option, None, Some, replicate, refl, sym, ap, ◌∙◌, arith, nat_le, ◌==◌, if◌then◌else◌, lit≤, inl, inr}
use Rattle.std.proofs.Math.Nat.{pow-le-pow_right, pow-suc, mul_assoc}
use Rattle.std.specs.Prelude.{option_map, option_and_then}
use Rattle.std.specs.Int.Digits.{number_from_digits_after}
use Rattle.std.proofs.lemmas.Bool.{cases_Bool, leb-true, leb-false, lt-leb}
use Rattle.std.proofs.lemmas.Int.Digits.{number_after_append}
use Rattle.std.proofs.lemmas.List.{length-append, length-replicate, append_assoc}
use Rattle.std.proofs.lemmas.Nat.{pow-add, mul-add-lt}
use Rattle.std.proofs.lemmas.Option.{cond_some}
use Rattle.sipl_records.specs.Ipv6.{eight_groups, with_zeros, number_of_groups}
use Rattle.sipl_records.specs.Ipv6Counts.{counted_after}

-- one place more
pub place_more : (place : ℕ) → 65536 ^ (place + 1) ≡ 65536 ^ place * 65536
place_more place =
    let next : place + 1 ≡ suc place = omega arith in
    rw next (pow-suc 65536 place)

pub shifted_more : (n number len place : ℕ) → len ≤ place → number ≡ n * 65536 ^ (place - len) → number * 65536 ≡ n * 65536 ^ (place + 1 - len)
shifted_more n number len place low is =
    let next : place + 1 - len ≡ (place - len) + 1 = omega arith in
    rw (next, place_more) (ap (λ m. m * 65536) is ∙ mul_assoc n (65536 ^ (place - len)) 65536)

-- eight places are 128 bits
pub below_eight : (number len : ℕ) → number < 65536 ^ len → len ≤ 7 → number * 65536 < 2 ^ 128
below_eight number len below few =
    let most : 65536 ^ len ≤ 65536 ^ 7 = pow-le-pow_right (lit≤ tt) few in
    omega arith

pub pushed_below : (number len group : ℕ) → number < 65536 ^ len → len ≤ 7 → group < 65536 → number * 65536 + group < 2 ^ 128
pushed_below number len group below few fits =
    let most : 65536 ^ len ≤ 65536 ^ 7 = pow-le-pow_right (lit≤ tt) few in
    omega arith

pub joined_below : (n len number right len' : ℕ) → n < 65536 ^ len → number ≡ n * 65536 ^ (8 - len) → right < 65536 ^ len' → len + len' ≤ 7 → number + right < 2 ^ 128
joined_below n len number right len' below is right_below few =
    let most : 65536 ^ len' ≤ 65536 ^ (8 - len) = pow-le-pow_right (lit≤ tt) (omega arith) in
    let sum : n * 65536 ^ (8 - len) + right < 65536 ^ (8 - len) * 65536 ^ len = mul-add-lt n (65536 ^ (8 - len)) right (65536 ^ len) below (omega arith) in
    let eight : (8 - len) + len ≡ 8 = omega arith in
    let whole : 65536 ^ (8 - len) * 65536 ^ len ≡ 65536 ^ 8 = sym (pow-add 65536 (8 - len) len) ∙ ap (λ k. 65536 ^ k) eight in
    omega arith

-- groups after others
number_after : (n : ℕ) (groups : List ℕ) → number_from_digits_after 65536 n groups ≡ n * 65536 ^ length groups + number_of_groups groups
number_after n [] = omega arith
number_after n (g ∷ groups) =
    let first = number_after (n * 65536 + g) groups in
    let alone = number_after (0 * 65536 + g) groups in
    let power : 65536 ^ suc (length groups) ≡ 65536 ^ length groups * 65536 = pow-suc 65536 (length groups) in
    first ∙ rw (power, alone) (omega arith)

-- groups of zero change no number
number_of_groups-zeros : (count : ℕ) (groups : List ℕ) → number_of_groups (replicate count 0 ++ groups) ≡ number_of_groups groups
number_of_groups-zeros zero groups = refl
number_of_groups-zeros (suc count) groups = number_of_groups-zeros count groups

-- the number of groups on both sides of groups of zero
number_of_groups-around : (left right : List ℕ) → length left + length right ≤ 7 → number_of_groups (left ++ replicate (8 - (length left + length right)) 0 ++ right) ≡ number_of_groups left * 65536 ^ (8 - length left) + number_of_groups right
number_of_groups-around left right few =
    let zeros = replicate (8 - (length left + length right)) 0 in
    let count : length (zeros ++ right) ≡ 8 - length left = length-append zeros right ∙ ap (λ k. k + length right) (length-replicate (8 - (length left + length right)) 0) ∙ omega arith in
    ap number_of_groups (append_assoc left zeros right) ∙ number_after_append 65536 0 left (zeros ++ right) ∙ number_after (number_of_groups left) (zeros ++ right)
    ∙ rw (count, number_of_groups-zeros (8 - (length left + length right)) right) refl

-- both sides of `::`, as they were counted
joined_lists : (left right : List ℕ) (n len n' len' : ℕ) → number_of_groups left ≡ n → length left ≡ len → number_of_groups right ≡ n' → length right ≡ len' → (if nat_le (len + len') 7 then Some (n * 65536 ^ (8 - len) + n') else None) ≡ option_map number_of_groups (with_zeros left right)
joined_lists left right n len n' len' is few is' few' =
    elim (cases_Bool (nat_le (length left + length right) 7)) [
      | inl fits ↦ rw (← few, ← few', fits, ← is, ← is') (ap (λ m. Some m) (sym (number_of_groups-around left right (leb-true _ _ fits))))
      | inr full ↦ rw (← few, ← few', full) refl
    ]

pub joined : (lefts rights : Option (List ℕ)) (n len n' len' : ℕ) → Some (n, len) ≡ counted_after 0 0 lefts → Some (n', len') ≡ counted_after 0 0 rights → (if nat_le (len + len') 7 then Some (n * 65536 ^ (8 - len) + n') else None) ≡ option_map number_of_groups (option_and_then (λ left. option_and_then (with_zeros left) rights) lefts)
joined None rights n len n' len' is is' = absurd cc
joined (Some left) None n len n' len' is is' = absurd cc
joined (Some left) (Some right) n len n' len' is is' =
    let first = cond_some (nat_le (0 + length left) 8) (number_of_groups left, 0 + length left) (n, len) (sym is) in
    let second = cond_some (nat_le (0 + length right) 8) (number_of_groups right, 0 + length right) (n', len') (sym is') in
    let count : length left ≡ len = omega (arith, ap (λ p. p.1) first.1) in
    let count' : length right ≡ len' = omega (arith, ap (λ p. p.1) second.1) in
    joined_lists left right n len n' len' (ap (λ p. p.0) first.1) count (ap (λ p. p.0) second.1) count'

-- groups without `::`, as they were counted
pub whole : (groups : Option (List ℕ)) (n len : ℕ) → Some (n, len) ≡ counted_after 0 0 groups → (if len == 8 then Some n else None) ≡ option_map number_of_groups (option_and_then eight_groups groups)
whole None n len is = absurd cc
whole (Some groups) n len is =
    let counts = cond_some (nat_le (0 + length groups) 8) (number_of_groups groups, 0 + length groups) (n, len) (sym is) in
    let count : length groups ≡ len = omega (arith, ap (λ p. p.1) counts.1) in
    let number : number_of_groups groups ≡ n = ap (λ p. p.0) counts.1 in
    elim (cases_Bool (length groups == 8)) [
      | inl eight ↦ rw (← count, eight, ← number) refl
      | inr other ↦ rw (← count, other) refl
    ]

cond_none : (b : Bool) (x : ℕ × ℕ) → (if b then Some x else None) ≡ None → b ≡ false
cond_none true x e = absurd cc
cond_none false x e = refl

-- groups after `::` that are none, or more than eight
pub none_after : (lefts rights : Option (List ℕ)) → None ≡ counted_after 0 0 rights → None ≡ option_map number_of_groups (option_and_then (λ left. option_and_then (with_zeros left) rights) lefts)
none_after None rights none = refl
none_after (Some left) None none = refl
none_after (Some left) (Some right) none =
    let many : nat_le (0 + length right) 8 ≡ false = cond_none (nat_le (0 + length right) 8) (number_of_groups right, 0 + length right) (sym none) in
    let full : nat_le (length left + length right) 7 ≡ false = lt-leb _ _ (omega (arith, leb-false (0 + length right) 8 many)) in
    rw full refl
