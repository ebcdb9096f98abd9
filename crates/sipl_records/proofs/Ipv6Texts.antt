-- Groups as they are printed.
use Rattle.std.proofs.Common.{◌≡◌, ℕ, ◌+◌, ◌-◌, ◌/◌, ◌%◌, ◌<◌, ◌≤◌, List, [], ◌∷◌, ◌++◌, length, get_or, take, drop, set, flat_map, refl, sym, ap, ◌∙◌, arith}
use borrow.Rule.Slice.PartMut.{put_mid}
use Rattle.std.specs.Char.{digit_char}
use Rattle.std.specs.Net.Text.{hex, groups_text, leading_zero_digits}
use Rattle.std.proofs.lemmas.List.{append_assoc, append-nil, take_more, take_more_set, length-take, length-drop, get_or-take, get_or-drop}
use Rattle.std.proofs.lemmas.Slice.{take-put_mid}
use Rattle.sipl_records.proofs.Groups.{rest_whole}

-- a group's last digits, written at a place of a text
pub group_written : (text new : List ℕ) (start group zeros : ℕ) (a b c d : ℕ) → start + 4 ≤ length text → zeros ≡ leading_zero_digits group → zeros < 4 → a ≡ digit_char (group / 0x1000) → b ≡ digit_char (group / 0x100 % 16) → c ≡ digit_char (group / 0x10 % 16) → d ≡ digit_char (group % 16) → new ≡ take (4 - zeros) (drop zeros (a ∷ b ∷ c ∷ d ∷ [])) → take (start + 4 - zeros) (put_mid start (start + 4 - zeros - start) text new) ≡ take start text ++ hex group
unfolding hex
group_written text new start group zeros a b c d within is few at_a at_b at_c at_d written =
    let digits = a ∷ b ∷ c ∷ d ∷ [] in
    let whole : new ≡ drop zeros digits = written ∙ rest_whole digits zeros in
    let size : length new ≡ 4 - zeros = ap length whole ∙ length-drop zeros digits in
    take-put_mid start (start + 4 - zeros - start) text new (start + 4 - zeros) (omega arith) (omega arith)
    ∙ ap (λ t. take start text ++ t) (whole ∙ rw (is, at_a, at_b, at_c, at_d) refl)

-- a group more behind a colon
more_groups : (groups : List ℕ) (group : ℕ) → flat_map (λ t. 58 ∷ hex t) (groups ++ group ∷ []) ≡ flat_map (λ t. 58 ∷ hex t) groups ++ 58 ∷ hex group
more_groups [] group = append-nil (58 ∷ hex group)
more_groups (g ∷ groups) group = ap (λ t. (58 ∷ hex g) ++ t) (more_groups groups group) ∙ sym (append_assoc (58 ∷ hex g) (flat_map (λ t. 58 ∷ hex t) groups) (58 ∷ hex group))

groups_text-push : (groups : List ℕ) (group : ℕ) → 0 < length groups → groups_text (groups ++ group ∷ []) ≡ groups_text groups ++ 58 ∷ hex group
groups_text-push [] group some = absurd (omega arith)
groups_text-push (g ∷ groups) group some = ap (λ t. hex g ++ t) (more_groups groups group) ∙ sym (append_assoc (hex g) (flat_map (λ t. 58 ∷ hex t) groups) (58 ∷ hex group))

-- a colon and the next group, written after the first groups
pub next_group_written : (groups text new : List ℕ) (i end end' : ℕ) → length groups ≡ 8 → i < 7 → end < length text → take end text ≡ groups_text (take (i + 1) groups) → take end' new ≡ take (end + 1) (set text end 58) ++ hex (get_or (take 7 (drop 1 groups)) i 0) → take end' new ≡ groups_text (take (i + 1 + 1) groups)
next_group_written groups text new i end end' eight inside within before written =
    let group : get_or (take 7 (drop 1 groups)) i 0 ≡ get_or groups (i + 1) 0 = get_or-take 7 (drop 1 groups) i 0 inside ∙ get_or-drop 1 groups i 0 ∙ ap (λ k. get_or groups k 0) (omega arith) in
    let colon : take (end + 1) (set text end 58) ≡ groups_text (take (i + 1) groups) ++ 58 ∷ [] = take_more_set text end 58 within ∙ ap (λ t. t ++ 58 ∷ []) before in
    let some : 0 < length (take (i + 1) groups) = omega (arith, length-take (i + 1) groups) in
    written ∙ rw (group, colon) (append_assoc (groups_text (take (i + 1) groups)) (58 ∷ []) (hex (get_or groups (i + 1) 0)))
    ∙ sym (groups_text-push (take (i + 1) groups) (get_or groups (i + 1) 0) some) ∙ ap groups_text (sym (take_more groups (i + 1) 0 (omega arith)))
