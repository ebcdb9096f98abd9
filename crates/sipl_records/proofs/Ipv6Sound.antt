-- What is read as an IPv6 address is a text of the grammar.
use Rattle.std.proofs.Common.{◌≡◌, ℕ, ◌+◌, ◌-◌, ◌/◌, ◌%◌, ◌≤◌, Bool, true, false, List, [], ◌∷◌, ◌++◌, length, Option, None, Some, drop, replicate, refl, sym, ap, ◌∙◌, subst, arith, nat_eq, nat_le, inl, inr}
use Rattle.std.specs.Prelude.{option_and_then, ◌&&◌}
use Rattle.std.specs.List.{starts_with, join_with_byte}
use Rattle.std.proofs.lemmas.Bool.{cases_Bool, and_parts, eqb-true, leb-true, false≢true}
use Rattle.std.proofs.Math.Bool.{and-false}
use Rattle.std.proofs.lemmas.List.{append-nil}
use Rattle.std.proofs.lemmas.Option.{cond_some, none-some, same_Some}
use Rattle.std.proofs.NetLemmas.Options.{map_some, and_then_some}
use Rattle.sipl_records.specs.Ipv4.{number_of_text}
use Rattle.sipl_records.specs.Ipv6.{hex_group_of, last_groups_of, groups_of, groups_of_text, with_group, split_at_zeros, groups_around, groups6_of_text, address6_of_text, with_zeros, eight_groups, number_of_groups}
use Rattle.sipl_records.specs.Ipv6Grammar.{IsGroupsAfter, IsGroups, IsAddress6Groups, IsAddress6Text}
use Rattle.sipl_records.specs.Parts.{parts, prepend_to_first}
use Rattle.sipl_records.proofs.Parts.{length-parts}
use Rattle.sipl_records.proofs.Ipv6Reads.{hex_group_of-sound}

-- parts joined by their separator
join-prepend : (s c : ℕ) (ps : List (List ℕ)) → join_with_byte s (prepend_to_first c ps) ≡ c ∷ join_with_byte s ps
join-prepend s c [] = refl
join-prepend s c (p ∷ []) = refl
join-prepend s c (p ∷ q ∷ ps) = refl

join-empty : (s : ℕ) (ps : List (List ℕ)) → 1 ≤ length ps → join_with_byte s ([] ∷ ps) ≡ s ∷ join_with_byte s ps
join-empty s [] some = absurd (omega arith)
join-empty s (p ∷ ps) some = refl

join-parts : (s : ℕ) (text : List ℕ) → join_with_byte s (parts s text) ≡ text
join-parts s [] = refl
join-parts s (c ∷ text) =
    elim (cases_Bool (nat_eq c s)) [
      | inl here ↦ rw here (join-empty s (parts s text) (length-parts s text) ∙ ap (λ t. s ∷ t) (join-parts s text) ∙ ap (λ d. d ∷ text) (sym (eqb-true c s here)))
      | inr other ↦ rw other (join-prepend s c (parts s text) ∙ ap (λ t. c ∷ t) (join-parts s text))
    ]

-- the last part
last_sound : (lead : List ℕ) (ipv4 : Bool) (text groups : List ℕ) (o : Option ℕ) → hex_group_of text ≡ o → last_groups_of ipv4 text ≡ Some groups → IsGroupsAfter lead ipv4 (lead ++ text) groups
last_sound lead ipv4 text groups (Some group) some e =
    let is : group ∷ [] ≡ groups = same_Some _ _ (rw some at e) in
    subst (λ gs. IsGroupsAfter lead ipv4 (lead ++ text) gs) is
    (inl (text, [], ap (λ t. lead ++ t) (sym (append-nil text)), hex_group_of-sound text group some, refl))
last_sound lead false text groups None none e = absurd (none-some groups (rw none at e))
last_sound lead true text groups None none e =
    map_some (λ n. (n / 65536) ∷ (n % 65536) ∷ []) (number_of_text text) groups (rw none at e) λ n read value.
    subst (λ gs. IsGroupsAfter lead true (lead ++ text) gs) value
    (inr (text, refl, refl, record { number = n; is = read; value = refl }))

-- a group before others
with_group_some : {P : Type 0} (o : Option ℕ) (later : Option (List ℕ)) (groups : List ℕ) → with_group o later ≡ Some groups → ((group : ℕ) (others : List ℕ) → o ≡ Some group → later ≡ Some others → group ∷ others ≡ groups → P) → P
with_group_some None later groups e k = absurd (none-some groups e)
with_group_some (Some group) None groups e k = absurd (none-some groups e)
with_group_some (Some group) (Some others) groups e k = k group others refl refl (same_Some _ _ e)

parts_sound : (lead : List ℕ) (ipv4 : Bool) (ps : List (List ℕ)) (groups : List ℕ) → 1 ≤ length ps → groups_of ipv4 ps ≡ Some groups → IsGroupsAfter lead ipv4 (lead ++ join_with_byte 58 ps) groups
parts_sound lead ipv4 [] groups some e = absurd (omega arith)
parts_sound lead ipv4 (p ∷ []) groups some e = last_sound lead ipv4 p groups (hex_group_of p) refl e
parts_sound lead ipv4 (p ∷ q ∷ ps) groups some e =
    with_group_some (hex_group_of p) (groups_of ipv4 (q ∷ ps)) groups e λ group others read later is.
    let rest : IsGroupsAfter (58 ∷ []) ipv4 (58 ∷ join_with_byte 58 (q ∷ ps)) others = parts_sound (58 ∷ []) ipv4 (q ∷ ps) others (omega arith) later in
    subst (λ gs. IsGroupsAfter lead ipv4 (lead ++ (p ++ 58 ∷ join_with_byte 58 (q ∷ ps))) gs) is
    (inl (p, 58 ∷ join_with_byte 58 (q ∷ ps), refl, hex_group_of-sound p group read, rest))

groups_of_text-sound : (ipv4 : Bool) (text groups : List ℕ) → groups_of_text ipv4 text ≡ Some groups → IsGroups ipv4 text groups
groups_of_text-sound ipv4 [] groups e = subst (λ gs. IsGroups ipv4 [] gs) (same_Some [] groups e) refl
groups_of_text-sound ipv4 (c ∷ text) groups e =
    subst (λ t. IsGroups ipv4 t groups) (join-parts 58 (c ∷ text)) (parts_sound [] ipv4 (parts 58 (c ∷ text)) groups (length-parts 58 (c ∷ text)) e)

-- a text and its `::`
abbrev rejoined : List ℕ → Option (List ℕ) → List ℕ
rejoined left None = left
rejoined left (Some right) = left ++ 58 ∷ 58 ∷ right

rejoined-cons : (c : ℕ) (left : List ℕ) (right : Option (List ℕ)) → rejoined (c ∷ left) right ≡ c ∷ rejoined left right
rejoined-cons c left None = refl
rejoined-cons c left (Some right) = refl

begins : (text : List ℕ) → starts_with nat_eq text (58 ∷ 58 ∷ []) ≡ true → text ≡ 58 ∷ 58 ∷ drop 2 text
begins [] test = absurd cc
begins (c ∷ []) test = absurd (false≢true (rw and-false at test))
begins (c ∷ d ∷ text) test =
    let (first, more) = and_parts (nat_eq 58 c) (nat_eq 58 d && true) test in
    let (second, rest) = and_parts (nat_eq 58 d) true more in
    rw (← eqb-true 58 c first, ← eqb-true 58 d second) refl

rejoined-split : (text : List ℕ) → text ≡ rejoined (split_at_zeros text).0 (split_at_zeros text).1
rejoined-split [] = refl
rejoined-split (c ∷ text) =
    elim (cases_Bool (starts_with nat_eq (c ∷ text) (58 ∷ 58 ∷ []))) [
      | inl here ↦ rw here (begins (c ∷ text) here)
      | inr other ↦ rw other (ap (λ t. c ∷ t) (rejoined-split text) ∙ sym (rejoined-cons c (split_at_zeros text).0 (split_at_zeros text).1))
    ]

around_sound : (left : List ℕ) (right : Option (List ℕ)) (groups : List ℕ) → groups_around left right ≡ Some groups → IsAddress6Groups (rejoined left right) groups
around_sound left None groups e =
    and_then_some eight_groups (groups_of_text true left) groups e λ all read kept.
    let (count, is) = cond_some (nat_eq (length all) 8) all groups kept in
    subst (λ gs. IsAddress6Groups left gs) is (inl (record { written = groups_of_text-sound true left all read; eight = eqb-true _ _ count }))
around_sound left (Some right) groups e =
    and_then_some (λ ls. option_and_then (with_zeros ls) (groups_of_text true right)) (groups_of_text false left) groups e λ ls left_read more.
    and_then_some (with_zeros ls) (groups_of_text true right) groups more λ rs right_read kept.
    let (few, is) = cond_some (nat_le (length ls + length rs) 7) (ls ++ replicate (8 - (length ls + length rs)) 0 ++ rs) groups kept in
    inr (record {
      left_text = left;
      right_text = right;
      left = ls;
      right = rs;
      written = refl;
      left_written = groups_of_text-sound false left ls left_read;
      right_written = groups_of_text-sound true right rs right_read;
      few = leb-true _ _ few;
      value = sym is;
    })

pub address6_of_text-sound : (text : List ℕ) (number : ℕ) → address6_of_text text ≡ Some number → IsAddress6Text text number
address6_of_text-sound text number e =
    map_some number_of_groups (groups6_of_text text) number e λ groups read value.
    record {
      groups = groups;
      written = subst (λ t. IsAddress6Groups t groups) (sym (rejoined-split text)) (around_sound (split_at_zeros text).0 (split_at_zeros text).1 groups read);
      value = value;
    }
