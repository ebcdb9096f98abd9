-- Lemmas on values in quotes, and on three digits.
use Rattle.std.proofs.Common.{◌≡◌, ℕ, ◌+◌, ◌-◌, ◌^◌, ◌/◌, ◌%◌, ◌<◌, ◌≤◌, false, cond, List, [], ◌∷◌, ◌++◌, length, get_or, drop, sym, ap, ◌∙◌, arith, append_assoc, is_ok, OnOk, Result, Ok, Err, ⊎_elim}
use Rattle.std.specs.List.{flat_map}
use Rattle.std.specs.Fmt.{decimal, padded_integral, format_spec, char_count}
use Rattle.std.proofs.lemmas.List.{at_drop_more}
use Rattle.std.proofs.lemmas.Fmt.{decimal_digit, decimal_step}
use Rattle.std.proofs.str.Laws.{order}
use Rattle.sipl_log.specs.Lines.{glyph, three_digits}

-- what is left of a text in quotes, at its next character
pub glyphs-drop : (cs : List ℕ) (n c : ℕ) → (n < length cs) × (c ≡ get_or cs n c) → flat_map glyph (drop n cs) ≡ glyph c ++ flat_map glyph (drop (n + 1) cs)
glyphs-drop cs n c h = at_drop_more (λ (rest : List ℕ). flat_map glyph rest) cs n c h.0 ∙ ap (λ x. glyph x ++ flat_map glyph (drop (n + 1) cs)) (sym h.1)

-- a quote before a text, and one after it
pub quoted : {T E : Type 0} (r : Result T E) (new now old text : List ℕ) → new ≡ cond (is_ok r) (now ++ 34 ∷ []) now → now ≡ (old ++ 34 ∷ []) ++ text → OnOk r (new ≡ (old ++ (34 ∷ text)) ++ (34 ∷ []))
quoted (Ok _) new now old text e w = e ∙ ap (λ (front : List ℕ). front ++ 34 ∷ []) (w ∙ append_assoc old (34 ∷ []) text)
quoted (Err _) new now old text e w = tt

two_digits : (n : ℕ) → 10 ≤ n → n < 100 → decimal n ≡ (48 + n / 10) ∷ (48 + n % 10) ∷ []
two_digits n low high = decimal_step n low (omega arith) ∙ ap (λ (front : List ℕ). front ++ (48 + n % 10) ∷ []) (decimal_digit (n / 10) (omega arith))

all_digits : (n : ℕ) → 100 ≤ n → n < 1000 → decimal n ≡ three_digits n
all_digits n low high =
    let hundreds : n / 10 / 10 ≡ n / 100 = omega arith in
    let step = decimal_step n (omega arith) (omega arith) ∙ ap (λ (front : List ℕ). front ++ (48 + n % 10) ∷ []) (two_digits (n / 10) (omega arith) (omega arith)) in
    step ∙ ap (λ x. (48 + x) ∷ (48 + n / 10 % 10) ∷ (48 + n % 10) ∷ []) hundreds

-- what `{:03}` writes of a number below 1,000
pub padded_three : (n : ℕ) → n < 1000 → padded_integral (format_spec 32 0 4 3 (2 ^ 64 - 1)) false [] (decimal n) ≡ three_digits n
unfolding padded_integral char_count
padded_three n small = ⊎_elim
    (λ one.
    let a : n / 100 ≡ 0 = omega arith in
    let b : n / 10 % 10 ≡ 0 = omega arith in
    let c : n % 10 ≡ n = omega arith in
    rw (decimal_digit n one, a, b, c))
    (λ ten. ⊎_elim
    (λ two.
    let a : n / 100 ≡ 0 = omega arith in
    let b : n / 10 % 10 ≡ n / 10 = omega arith in
    rw (two_digits n ten two, a, b))
    (λ three. rw (all_digits n three small))
    (order n 100))
    (order n 10)
