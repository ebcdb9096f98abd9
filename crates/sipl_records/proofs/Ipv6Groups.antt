-- Groups of IPv6 addresses, as they are read from the left.
use Rattle.std.proofs.Common.{◌≡◌, ℕ, ◌+◌, ◌*◌, ◌-◌, ◌^◌, ◌<◌, ◌≤◌, suc, Bool, true, false, List, [], ◌∷◌, ◌++◌, length, Option, None, Some, get_or, take, drop, refl, sym, ap, ◌∙◌, arith, add-one, nat_eq, nat_le, lit≤}
use Rattle.std.proofs.Math.Nat.{pow-le-pow_right}
use Rattle.std.specs.Char.{is_digit, digit_value}
use Rattle.std.specs.List.{list_all, starts_with}
use Rattle.std.specs.Str.Parse.{digits_value}
use Rattle.std.proofs.lemmas.Bool.{eqb-false, lt-leb, le-leb, and_right, and_from, cond-false}
use Rattle.std.proofs.lemmas.Bool.Decides.{nat_tests}
use Rattle.std.proofs.lemmas.Int.Digits.{digits_value_more}
use Rattle.std.proofs.lemmas.List.{take_more, take_all, drop_more, drop-drop, length-drop, append_assoc, append-nil}
use Rattle.std.proofs.lemmas.List.Recursion.{and_fails_at, and_push}
use native.Mathlib.Nat.{pow-suc}
use Rattle.sipl_records.specs.Ipv6.{hex_group_of, groups_of, groups_of_text, last_groups_of, with_group, split_at_zeros}
use Rattle.sipl_records.specs.Ipv6Counts.{counted_after, IsPushed}
use Rattle.sipl_records.specs.Parts.{parts}
use Rattle.sipl_records.proofs.Parts.{length-parts}
use Rattle.sipl_records.proofs.Groups.{rest_whole}

-- a group among others, counted after those before it
counted-more : (number len group : ℕ) (groups : Option (List ℕ)) → counted_after number len (with_group (Some group) groups) ≡ counted_after (number * 65536 + group) (len + 1) groups
counted-more number len group None = refl
counted-more number len group (Some groups) =
    let count : len + suc (length groups) ≡ (len + 1) + length groups = omega arith in
    rw count refl

-- where eight are counted already, one more is too many
counted-full : (number len group : ℕ) (groups : Option (List ℕ)) → 8 ≤ len → counted_after number len (with_group (Some group) groups) ≡ None
counted-full number len group None full = refl
counted-full number len group (Some groups) full = let past : nat_le (len + suc (length groups)) 8 ≡ false = lt-leb _ _ (omega arith) in rw past refl

-- a part that others follow
pub groups_of-more : (ipv4 : Bool) (part : List ℕ) (others : List (List ℕ)) → 1 ≤ length others → groups_of ipv4 (part ∷ others) ≡ with_group (hex_group_of part) (groups_of ipv4 others)
groups_of-more ipv4 part [] some = absurd (omega arith)
groups_of-more ipv4 part (next ∷ others) some = refl

-- what is left to count of a text
abbrev pub counted : Bool → ℕ → ℕ → List ℕ → Option (ℕ × ℕ)
counted ipv4 number len text = counted_after number len (groups_of ipv4 (parts 58 text))

counted_parts : (ipv4 : Bool) (number len : ℕ) (text part after : List ℕ) → parts 58 text ≡ part ∷ parts 58 after → counted ipv4 number len text ≡ counted_after number len (with_group (hex_group_of part) (groups_of ipv4 (parts 58 after)))
counted_parts ipv4 number len text part after cut = rw cut (ap (counted_after number len) (groups_of-more ipv4 part (parts 58 after) (length-parts 58 after)))

-- a part that is no group
pub counted-bad : (ipv4 : Bool) (number len : ℕ) (text part after : List ℕ) → parts 58 text ≡ part ∷ parts 58 after → hex_group_of part ≡ None → counted ipv4 number len text ≡ None
counted-bad ipv4 number len text part after cut bad = counted_parts ipv4 number len text part after cut ∙ rw bad refl

-- a group too many
pub counted-too_many : (ipv4 : Bool) (number len group : ℕ) (text part after : List ℕ) → parts 58 text ≡ part ∷ parts 58 after → hex_group_of part ≡ Some group → 8 ≤ len → counted ipv4 number len text ≡ None
counted-too_many ipv4 number len group text part after cut good full =
    counted_parts ipv4 number len text part after cut ∙ rw good (counted-full number len group (groups_of ipv4 (parts 58 after)) full)

-- a group
pub counted-pushed : (ipv4 : Bool) (number len group number' len' : ℕ) (text part after : List ℕ) → parts 58 text ≡ part ∷ parts 58 after → hex_group_of part ≡ Some group → IsPushed number len group number' len' → counted ipv4 number len text ≡ counted ipv4 number' len' after
counted-pushed ipv4 number len group number' len' text part after cut good pushed =
    counted_parts ipv4 number len text part after cut ∙ rw (good, pushed.value, pushed.count) (counted-more number len group (groups_of ipv4 (parts 58 after)))

-- the last part
pub counted-last : (ipv4 : Bool) (number len : ℕ) (text : List ℕ) → parts 58 text ≡ text ∷ [] → counted ipv4 number len text ≡ counted_after number len (last_groups_of ipv4 text)
counted-last ipv4 number len text alone = rw alone refl

-- the groups of a text that is not empty
pub groups_of_text-some : (ipv4 : Bool) (text : List ℕ) → 0 < length text → groups_of_text ipv4 text ≡ groups_of ipv4 (parts 58 text)
groups_of_text-some ipv4 [] some = absurd (omega arith)
groups_of_text-some ipv4 (c ∷ text) some = refl

pub counted_text : (ipv4 : Bool) (text : List ℕ) → 0 < length text → counted_after 0 0 (groups_of_text ipv4 text) ≡ counted ipv4 0 0 text
counted_text ipv4 text some = ap (counted_after 0 0) (groups_of_text-some ipv4 text some)

-- what a loop over hexadecimal digits knows of the first ones
pub record HasReadHex (digits : List ℕ) (i value : ℕ) : Type 0 where
  pub is : value ≡ digits_value 16 (take i digits)
  pub all : list_all (λ c. is_digit c 16) (take i digits) ≡ true
  pub below : value < 16 ^ i

-- and of one more
read_hex_digit : (digits : List ℕ) (i value d : ℕ) → HasReadHex digits i value → i < length digits → digit_value (get_or digits i 0) < 16 → d ≡ digit_value (get_or digits i 0) → HasReadHex digits (i + 1) (value * 16 + d)
read_hex_digit digits i value d known within low worth =
    let digit : is_digit (get_or digits i 0) 16 ≡ true = grind (arith, nat_tests) in
    let power : 16 ^ (i + 1) ≡ 16 ^ i * 16 = rw add-one (pow-suc 16 i) in
    record {
      is = ap (λ v. v * 16 + d) known.is ∙ ap (λ w. digits_value 16 (take i digits) * 16 + w) worth ∙ sym (digits_value_more 16 digits i within);
      all = ap (list_all (λ c. is_digit c 16)) (take_more digits i 0 within) ∙ (and_push (list_all (λ c. is_digit c 16)) (λ c. is_digit c 16) refl (λ _ _. refl) (take i digits) (get_or digits i 0) ∙ and_from _ _ known.all digit);
      below = rw power (omega (arith, known.below));
    }

pub read_hex_more : (digits : List ℕ) (i value octet d : ℕ) → HasReadHex digits i value → i < length digits → octet ≡ get_or digits i 0 → digit_value octet < 16 → d ≡ digit_value octet → HasReadHex digits (i + 1) (value * 16 + d)
read_hex_more digits i value octet d known within here low worth =
    read_hex_digit digits i value d known within (rw here at low) (worth ∙ ap digit_value here)

-- the values of up to four digits
pub hex_below : (i j value : ℕ) → value < 16 ^ i → i ≤ j → value < 16 ^ j
hex_below i j value below few =
    let most : 16 ^ i ≤ 16 ^ j = pow-le-pow_right (lit≤ tt) few in
    omega arith

-- a text of as many digits as were read is a group
pub hex_group_of-read : (digits : List ℕ) (i value : ℕ) → HasReadHex digits i value → i ≡ length digits → 0 < length digits → length digits ≤ 4 → Some value ≡ hex_group_of digits
hex_group_of-read digits i value known whole some four =
    let all_of : take i digits ≡ digits = take_all i digits (omega arith) in
    let enough : nat_le 1 (length digits) ≡ true = le-leb _ _ some in
    let few : nat_le (length digits) 4 ≡ true = le-leb _ _ four in
    let all : list_all (λ c. is_digit c 16) digits ≡ true = ap (list_all (λ c. is_digit c 16)) (sym all_of) ∙ known.all in
    let is : value ≡ digits_value 16 digits = known.is ∙ ap (digits_value 16) all_of in
    rw (enough, few, all, is) refl

-- a text with an octet that is no hexadecimal digit is no group
pub hex_group_of-other : (digits : List ℕ) (i : ℕ) → i < length digits → 16 ≤ digit_value (get_or digits i 0) → hex_group_of digits ≡ None
hex_group_of-other digits i within other =
    let no_digit : is_digit (get_or digits i 0) 16 ≡ false = grind (arith, nat_tests) in
    let some_none : list_all (λ c. is_digit c 16) digits ≡ false = and_fails_at (list_all (λ c. is_digit c 16)) (λ c. is_digit c 16) refl (λ _ _. refl) digits i 0 within no_digit in
    cond-false _ _ _ (and_right _ _ some_none)

-- a text that begins with `::`
pub split_at_zeros-here : (text : List ℕ) → 0 < length text → starts_with nat_eq text (58 ∷ 58 ∷ []) ≡ true → split_at_zeros text ≡ ([], Some (drop 2 text))
split_at_zeros-here [] some here = absurd (omega arith)
split_at_zeros-here (c ∷ text) some here = rw here refl

-- and one that does not
pub split_at_zeros-next : (c : ℕ) (text : List ℕ) → starts_with nat_eq (c ∷ text) (58 ∷ 58 ∷ []) ≡ false → split_at_zeros (c ∷ text) ≡ (c ∷ (split_at_zeros text).0, (split_at_zeros text).1)
split_at_zeros-next c text other = rw other refl

-- what a loop over the places of a text knows where no `::` was found yet
pub record IsBeforeZeros (text : List ℕ) (at : ℕ) : Type 0 where
  pub before : (split_at_zeros text).0 ≡ take at text ++ (split_at_zeros (drop at text)).0
  pub after : (split_at_zeros text).1 ≡ (split_at_zeros (drop at text)).1

-- the place after one without `::`
pub before_zeros-more : (text : List ℕ) (at : ℕ) → IsBeforeZeros text at → at < length text → starts_with nat_eq (take (length text - at) (drop at text)) (58 ∷ 58 ∷ []) ≡ false → IsBeforeZeros text (at + 1)
before_zeros-more text at known within test =
    let other : starts_with nat_eq (drop at text) (58 ∷ 58 ∷ []) ≡ false = rw (rest_whole text at) at test in
    let rest : drop at text ≡ get_or text at 0 ∷ drop (at + 1) text = drop_more text at 0 within in
    let next : split_at_zeros (drop at text) ≡ (get_or text at 0 ∷ (split_at_zeros (drop (at + 1) text)).0, (split_at_zeros (drop (at + 1) text)).1) =
    ap split_at_zeros rest ∙ split_at_zeros-next (get_or text at 0) (drop (at + 1) text) (rw rest at other) in
    record {
      before = known.before ∙ ap (λ cut. take at text ++ cut.0) next ∙ sym (append_assoc (take at text) (get_or text at 0 ∷ []) (split_at_zeros (drop (at + 1) text)).0) ∙ ap (λ t. t ++ (split_at_zeros (drop (at + 1) text)).0) (sym (take_more text at 0 within));
      after = known.after ∙ ap (λ cut. cut.1) next;
    }

-- the place of `::`
pub zeros_found : (text : List ℕ) (at : ℕ) → IsBeforeZeros text at → at < length text → starts_with nat_eq (take (length text - at) (drop at text)) (58 ∷ 58 ∷ []) ≡ true → (take at text ≡ (split_at_zeros text).0) × (Some (drop (at + 2) text) ≡ (split_at_zeros text).1)
zeros_found text at known within test =
    let here : starts_with nat_eq (drop at text) (58 ∷ 58 ∷ []) ≡ true = rw (rest_whole text at) at test in
    let cut = split_at_zeros-here (drop at text) (omega (arith, length-drop at text)) here in (
      sym (known.before ∙ ap (λ cut. take at text ++ cut.0) cut ∙ append-nil (take at text)),
      sym (known.after ∙ ap (λ cut. cut.1) cut ∙ ap (λ t. Some t) (drop-drop 2 at text)),
    )

-- a test of a length that failed
pub some_from_test : (text : List ℕ) → false ≡ nat_eq (length text) 0 → 0 < length text
some_from_test text test =
    let some = eqb-false (length text) 0 (sym test) in
    omega arith
