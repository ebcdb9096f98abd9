-- A printed IPv6 address is a text of the grammar, and has at most 39 octets.
use Rattle.std.proofs.Common.{◌≡◌, ℕ, ◌*◌, ◌/◌, ◌%◌, ◌^◌, ◌<◌, ◌≤◌, true, List, [], ◌∷◌, length, flat_map, Some, refl, sym, arith, inl, inr}
use Rattle.std.specs.Char.{digit_value, digit_char}
use Rattle.std.specs.Net.Text.{hex, groups_text}
use Rattle.std.proofs.lemmas.Bool.{cases_lt, le-leb, lt-leb}
use Rattle.std.proofs.lemmas.Bool.Decides.{nat_tests}
use Rattle.std.proofs.lemmas.List.{length-append, length-drop}
use Rattle.std.proofs.lemmas.Nat.{shr-shr}
use Rattle.sipl_records.specs.Ipv6.{address6_of_text, text_of_address6, groups_of_number, number_of_groups}
use Rattle.sipl_records.specs.Ipv6Grammar.{IsHexGroup, IsGroupsAfter, IsGroups, IsAddress6Text}
use Rattle.sipl_records.proofs.Ipv6Reads.{address6_of_text-written}

digit_value-digit_char : (d : ℕ) → d < 16 → digit_value (digit_char d) ≡ d
digit_value-digit_char d low = grind (arith, nat_tests)

-- a printed group is a group
IsHexGroup-hex : (n : ℕ) → n < 2 ^ 16 → IsHexGroup (hex n) n
unfolding hex
IsHexGroup-hex n fits =
    let a = digit_value-digit_char (n / 0x1000) (omega arith) in
    let b = digit_value-digit_char (n / 0x100 % 16) (omega arith) in
    let c = digit_value-digit_char (n / 0x10 % 16) (omega arith) in
    let d = digit_value-digit_char (n % 16) (omega arith) in
    elim (cases_lt n 0x1000) [
      | inr four ↦ rw (le-leb _ n four) (record { digits = omega arith; few = omega arith; value = omega arith })
      | inl h₃ ↦ elim (cases_lt n 0x100) [
        | inr three ↦ rw (lt-leb _ n h₃, le-leb _ n three) (record { digits = omega arith; few = omega arith; value = omega arith })
        | inl h₂ ↦ elim (cases_lt n 0x10) [
          | inr two ↦ rw (lt-leb _ n h₃, lt-leb _ n h₂, le-leb _ n two) (record { digits = omega arith; few = omega arith; value = omega arith })
          | inl h₁ ↦ rw (lt-leb _ n h₃, lt-leb _ n h₂, lt-leb _ n h₁) (record { digits = omega arith; few = omega arith; value = omega arith })
        ]
      ]
    ]

-- printed groups are groups
abbrev AllGroups : List ℕ → Type 0
AllGroups [] = Unit {0}
AllGroups (g ∷ groups) = (g < 2 ^ 16) × AllGroups groups

more_groups : (groups : List ℕ) → AllGroups groups → IsGroupsAfter (58 ∷ []) true (flat_map (λ t. 58 ∷ hex t) groups) groups
more_groups [] fit = refl
more_groups (g ∷ groups) fit = inl (hex g, _, refl, IsHexGroup-hex g fit.0, more_groups groups fit.1)

IsGroups-groups_text : (groups : List ℕ) → AllGroups groups → IsGroups true (groups_text groups) groups
IsGroups-groups_text [] fit = refl
IsGroups-groups_text (g ∷ groups) fit = inl (hex g, _, refl, IsHexGroup-hex g fit.0, more_groups groups fit.1)

-- the groups of a number are the number

number_of_groups-groups_of : (n : ℕ) → number_of_groups (groups_of_number n) ≡ n
number_of_groups-groups_of n =
    let q1 = n / 2 ^ 16 in
    let q2 : n / 2 ^ 32 ≡ n / 2 ^ 16 / 2 ^ 16 = sym (shr-shr n 16 16) in
    let q3 : n / 2 ^ 48 ≡ n / 2 ^ 32 / 2 ^ 16 = sym (shr-shr n 32 16) in
    let q4 : n / 2 ^ 64 ≡ n / 2 ^ 48 / 2 ^ 16 = sym (shr-shr n 48 16) in
    let q5 : n / 2 ^ 80 ≡ n / 2 ^ 64 / 2 ^ 16 = sym (shr-shr n 64 16) in
    let q6 : n / 2 ^ 96 ≡ n / 2 ^ 80 / 2 ^ 16 = sym (shr-shr n 80 16) in
    let q7 : n / 2 ^ 112 ≡ n / 2 ^ 96 / 2 ^ 16 = sym (shr-shr n 96 16) in
    omega arith

-- a printed address is a text of its number
IsAddress6Text-text_of : (n : ℕ) → n < 2 ^ 128 → IsAddress6Text (text_of_address6 n) n
IsAddress6Text-text_of n fits =
    record {
      groups = groups_of_number n;
      written = inl (record {
        written = IsGroups-groups_text (groups_of_number n) (omega arith);
        eight = refl;
      });
      value = number_of_groups-groups_of n;
    }

pub address6_of_text-text_of : (n : ℕ) → n < 2 ^ 128 → address6_of_text (text_of_address6 n) ≡ Some n
address6_of_text-text_of n fits = address6_of_text-written (text_of_address6 n) n (IsAddress6Text-text_of n fits)

-- a printed group has at most four digits
length-hex : (n : ℕ) → length (hex n) ≤ 4
unfolding hex
length-hex n = rw length-drop (omega arith)

length-more_groups : (groups : List ℕ) → length (flat_map (λ t. 58 ∷ hex t) groups) ≤ 5 * length groups
length-more_groups [] = omega arith
length-more_groups (g ∷ groups) = omega (arith, length-append (58 ∷ hex g) (flat_map (λ t. 58 ∷ hex t) groups), length-hex g, length-more_groups groups)

pub length-text_of_address6 : (n : ℕ) → length (text_of_address6 n) ≤ 39
length-text_of_address6 n =
    let first = n / 2 ^ 112 in
    let others = (n / 2 ^ 96 % 2 ^ 16) ∷ (n / 2 ^ 80 % 2 ^ 16) ∷ (n / 2 ^ 64 % 2 ^ 16) ∷ (n / 2 ^ 48 % 2 ^ 16) ∷ (n / 2 ^ 32 % 2 ^ 16) ∷ (n / 2 ^ 16 % 2 ^ 16) ∷ (n % 2 ^ 16) ∷ [] in
    let size = length-append (hex first) (flat_map (λ t. 58 ∷ hex t) others) in
    let more = length-more_groups others in
    let one = length-hex first in
    omega arith
