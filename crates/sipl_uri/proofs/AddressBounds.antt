-- The numbers of addresses in text are below 2 ^ 32 and 2 ^ 128.
use Rattle.std.proofs.Common.{◌≡◌, ℕ, ◌+◌, ◌-◌, ◌^◌, ◌<◌, ◌≤◌, suc, zero, Bool, true, false, ◌&&◌, List, [], ◌∷◌, ◌++◌, length, map, replicate, Option, Some, None, if◌then◌else◌, refl, sym, ap, subst, arith, inl, inr, lit≤}
use Rattle.std.specs.Prelude.{codes, nat_le, IfSome}
use Rattle.std.specs.List.{AllByRecursion}
use Rattle.std.specs.Str.{all_ascii_digits}
use Rattle.std.specs.Str.Parse.{digits_value}
use Rattle.std.proofs.Math.Nat.{pow-le-pow_right}
use Rattle.std.proofs.lemmas.Bool.{and_parts, leb-true}
use Rattle.std.proofs.lemmas.Int.Digits.{digits_value-lt, number_lt}
use Rattle.std.proofs.lemmas.List.{length-append, length-replicate}
use Rattle.sipl_names.specs.Labels.{Octets}
use Rattle.sipl_records.specs.Ipv4.{group_of, number_of_four, four_groups, number_of_text}
use Rattle.sipl_records.specs.Ipv6.{address6_of_text, number_of_groups}
use Rattle.sipl_records.specs.Ipv6Grammar.{IsHexGroup, IsIpv4Groups, IsGroupsAfter, IsAddress6Groups}
use Rattle.sipl_records.specs.Parts.{parts}
use Rattle.sipl_records.proofs.Public.{address6_of_text-sound}

-- what holds of each element of two lists holds of the lists joined
pub all_append : {X : Type 0} (P : X → Type 0) (xs ys : List X) → AllByRecursion P xs → AllByRecursion P ys → AllByRecursion P (xs ++ ys)
all_append P [] ys all others = others
all_append P (x ∷ xs) ys all others = (all.0, all_append P xs ys all.1 others)

-- an octet of an IPv4 address
abbrev IsSmall : Option ℕ → Type 0
IsSmall group = IfSome group (λ n. n < 256)

group_by : (b : Bool) (n : ℕ) → (b ≡ true → n < 256) → IsSmall (if b then Some n else None)
group_by true n small = small refl
group_by false n small = tt

group_small : (digits : Octets) → IsSmall (group_of digits)
group_small digits =
    let small = λ (e : (nat_le 1 (length digits) && nat_le (length digits) 3 && all_ascii_digits digits && nat_le (digits_value 10 digits) 255) ≡ true).
    leb-true (digits_value 10 digits) 255 (and_parts (nat_le 1 (length digits) && nat_le (length digits) 3 && all_ascii_digits digits) (nat_le (digits_value 10 digits) 255) e).1 in
    group_by (nat_le 1 (length digits) && nat_le (length digits) 3 && all_ascii_digits digits && nat_le (digits_value 10 digits) 255) (digits_value 10 digits) (λ e. omega (arith, small e))

groups_small : (texts : List Octets) → AllByRecursion IsSmall (map group_of texts)
groups_small [] = tt
groups_small (text ∷ texts) = (group_small text, groups_small texts)

four_small : (groups : List (Option ℕ)) (n : ℕ) → AllByRecursion IsSmall groups → four_groups groups ≡ Some n → n < 2 ^ 32
four_small (Some a ∷ Some b ∷ Some c ∷ Some d ∷ []) n all e =
    let same : number_of_four a b c d ≡ n = cc in
    omega (arith, all.0, all.1.0, all.1.1.0, all.1.1.1.0)
four_small _ n all e = cc

-- an IPv4 address has 32 bits
pub number_small : (text : Octets) (n : ℕ) → number_of_text text ≡ Some n → n < 2 ^ 32
number_small text n e = four_small (map group_of (parts 46 text)) n (groups_small (parts 46 text)) e

-- a group of an IPv6 address has 16 bits
abbrev IsGroup : ℕ → Type 0
IsGroup group = group < 65536

hex_small : (text : Octets) (group : ℕ) → IsHexGroup text group → IsGroup group
hex_small text group is =
    let below = digits_value-lt 16 text is.digits.1 in
    let most : 16 ^ length text ≤ 16 ^ 4 = pow-le-pow_right (lit≤ tt) is.few in
    let value = is.value in
    omega arith

ipv4_small : (text : Octets) (groups : List ℕ) → IsIpv4Groups text groups → AllByRecursion IsGroup groups
ipv4_small text groups is =
    let small = number_small text is.number is.is in
    let P : List ℕ → Type 0 = λ gs. AllByRecursion IsGroup gs in
    subst P (sym is.value) (omega arith, (omega arith, tt))

after_small : (lead : Octets) (ipv4 : Bool) (text : Octets) (groups : List ℕ) → IsGroupsAfter lead ipv4 text groups → AllByRecursion IsGroup groups
after_small lead ipv4 text [] is = tt
after_small lead ipv4 text (group ∷ groups) (inl is) = (hex_small is.0 group is.3, after_small (codes ":") ipv4 is.1 groups is.4)
after_small lead ipv4 text (group ∷ groups) (inr is) = ipv4_small is.0 (group ∷ groups) is.3

zeros_small : (count : ℕ) → AllByRecursion IsGroup (replicate count 0)
zeros_small zero = tt
zeros_small (suc count) = (omega arith, zeros_small count)

-- eight groups of 16 bits
record AreEight (groups : List ℕ) : Type 0 where
  each : AllByRecursion IsGroup groups
  eight : length groups ≡ 8

eight : (text : Octets) (groups : List ℕ) → IsAddress6Groups text groups → AreEight groups
eight text groups (inl full) = record { each = after_small [] true text groups full.written; eight = full.eight }
eight text groups (inr elided) =
    let zeros : List ℕ = replicate (8 - (length elided.left + length elided.right)) 0 in
    let few = elided.few in
    let counts = length-append (elided.left ++ zeros) elided.right in
    let front = length-append elided.left zeros in
    let count : length zeros ≡ 8 - (length elided.left + length elided.right) = length-replicate (8 - (length elided.left + length elided.right)) 0 in
    subst (λ (gs : List ℕ). AreEight gs) (sym elided.value) (record {
      each = all_append IsGroup (elided.left ++ zeros) elided.right (all_append IsGroup elided.left zeros (after_small [] false elided.left_text elided.left elided.left_written) (zeros_small (8 - (length elided.left + length elided.right)))) (after_small [] true elided.right_text elided.right elided.right_written);
      eight = omega arith;
    })

number_groups : (groups : List ℕ) → AreEight groups → number_of_groups groups < 2 ^ 128
number_groups groups are =
    let below = number_lt 65536 groups are.each in
    let power : 65536 ^ length groups ≡ 65536 ^ 8 = ap (λ (k : ℕ). 65536 ^ k) are.eight in
    omega arith

-- an IPv6 address has 128 bits
pub number6_small : (text : Octets) (n : ℕ) → address6_of_text text ≡ Some n → n < 2 ^ 128
number6_small text n e =
    let is = address6_of_text-sound text n e in
    let below = number_groups is.groups (eight text is.groups is.written) in
    let value = is.value in
    omega arith
