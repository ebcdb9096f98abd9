-- The grammar of IPv6 addresses in text (RFC 4291, 2.2): each text beside the number that it
-- stands for.
use Rattle.std.specs.Prelude.{◌≡◌, ◌⊎◌, ℕ, ◌+◌, ◌-◌, ◌≤◌, ◌/◌, ◌%◌, Bool, true, false, List, [], ◌∷◌, ◌++◌, length, replicate, Some, codes, IsTrue}
use Rattle.std.specs.Str.Parse.{IsNumeral, digits_value}
use Rattle.sipl_records.specs.Ipv4.{number_of_text}
use Rattle.sipl_records.specs.Ipv6.{number_of_groups}

-- one to four hexadecimal digits of this value
pub record IsHexGroup (text : List ℕ) (group : ℕ) : Type 0 where
  pub digits : IsNumeral 16 text
  pub few : length text ≤ 4
  pub value : digits_value 16 text ≡ group

-- an IPv4 text, as two groups
pub record IsIpv4Groups (text groups : List ℕ) : Type 0 where
  pub number : ℕ
  pub is : number_of_text text ≡ Some number
  pub value : groups ≡ (number / 65536) ∷ (number % 65536) ∷ []

-- Groups, the first one after `lead` and each other after a colon. Where `ipv4` is true, the last
-- two may be written as an IPv4 text.
abbrev pub IsGroupsAfter : List ℕ → Bool → List ℕ → List ℕ → Type 0
IsGroupsAfter lead ipv4 text [] = text ≡ []
IsGroupsAfter lead ipv4 text (group ∷ groups) =
    ((digits rest : List ℕ) × (text ≡ lead ++ (digits ++ rest)) × IsHexGroup digits group
    × IsGroupsAfter (codes ":") ipv4 rest groups)
    ⊎ ((last : List ℕ) × IsTrue ipv4 × (text ≡ lead ++ last) × IsIpv4Groups last (group ∷ groups))

-- groups separated by colons, or nothing
abbrev pub IsGroups : Bool → List ℕ → List ℕ → Type 0
IsGroups ipv4 text groups = IsGroupsAfter [] ipv4 text groups

-- eight groups, without `::`
pub record IsFull (text groups : List ℕ) : Type 0 where
  pub written : IsGroups true text groups
  pub eight : length groups ≡ 8

-- groups on both sides of `::`, which stands for one or more groups of zero
pub record IsElided (text groups : List ℕ) : Type 0 where
  pub left_text : List ℕ
  pub right_text : List ℕ
  pub left : List ℕ
  pub right : List ℕ
  pub written : text ≡ left_text ++ (codes "::" ++ right_text)
  pub left_written : IsGroups false left_text left
  pub right_written : IsGroups true right_text right
  pub few : length left + length right ≤ 7
  pub value : groups ≡ left ++ replicate (8 - (length left + length right)) 0 ++ right

-- the text stands for these eight groups
abbrev pub IsAddress6Groups : List ℕ → List ℕ → Type 0
IsAddress6Groups text groups = IsFull text groups ⊎ IsElided text groups

-- the text stands for this number
pub record IsAddress6Text (text : List ℕ) (number : ℕ) : Type 0 where
  pub groups : List ℕ
  pub written : IsAddress6Groups text groups
  pub value : number_of_groups groups ≡ number
