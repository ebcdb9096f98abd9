-- Lemmas on the lines of a command, and those of a reply.
use Rattle.std.proofs.Common.{◌≡◌, ℕ, zero, suc, ◌+◌, ◌<◌, List, [], ◌∷◌, true, false, if◌then◌else◌, length, get_or, take, drop, Some, None, refl, sym, ap, ◌∙◌, eq-eqb, ne_eqb, arith}
use Rattle.std.specs.Option.{option_and_then}
use Rattle.std.proofs.lemmas.List.{drop-drop}
use Rattle.sipl_lines.specs.CommandLines.{after_command, after_line, after_lines, after_reply_within, first_line, is_end, taken_by}

-- ---- the first line of a text

-- the first LF is at a place
pub line_found : (text : List ℕ) (end : ℕ) → end < length text → ((i : ℕ) → i < end → get_or text i 0 ≡ 10 → ⊥) → get_or text end 0 ≡ 10
    → (take end text ≡ first_line text) × (after_line text ≡ Some (drop (suc end) text))
line_found [] end within before lf = absurd (omega arith)
line_found (c ∷ text) zero within before lf = rw (eq-eqb c 10 lf) (refl, refl)
line_found (c ∷ text) (suc end) within before lf =
    let others = line_found text end (omega arith) (λ i below e. before (suc i) (omega arith) e) lf in
    rw (ne_eqb c 10 (before 0 (omega arith))) (ap (λ (line : List ℕ). c ∷ line) others.0, others.1)

-- there is no LF
pub line_missing : (text : List ℕ) → ((i : ℕ) → i < length text → get_or text i 0 ≡ 10 → ⊥) → (text ≡ first_line text) × (after_line text ≡ None)
line_missing [] none = (refl, refl)
line_missing (c ∷ text) none =
    let others = line_missing text (λ i below e. none (suc i) (omega arith) e) in
    rw (ne_eqb c 10 (none 0 (omega arith))) (ap (λ (line : List ℕ). c ∷ line) others.0, others.1)

-- ---- the first command of a text

pub command_begun : (text line : List ℕ) (count len : ℕ) → count ≡ taken_by line → line ≡ first_line text → after_line text ≡ Some (drop len text)
    → after_lines count (drop len text) ≡ after_command text
command_begun text line count len is_count is_line after =
    ap (λ (n : ℕ). after_lines n (drop len text)) (is_count ∙ ap taken_by is_line)
    ∙ sym (ap (option_and_then (after_lines (taken_by (first_line text)))) after)

-- one line more
pub one_line : (text : List ℕ) (count left len n : ℕ) → count ≡ suc left → after_line (drop len text) ≡ Some (drop n (drop len text))
    → after_lines count (drop len text) ≡ after_lines left (drop (len + n) text)
one_line text count left len n is_count after =
    ap (λ (m : ℕ). after_lines m (drop len text)) is_count ∙ ap (option_and_then (after_lines left)) after ∙ ap (after_lines left) (drop-drop n len text)

pub no_line : (text : List ℕ) (count left len : ℕ) → count ≡ suc left → after_line (drop len text) ≡ None → after_lines count (drop len text) ≡ None
no_line text count left len is_count none =
    ap (λ (m : ℕ). after_lines m (drop len text)) is_count ∙ ap (option_and_then (after_lines left)) none

-- ---- the first reply of a text, line by line

-- no line is left
pub no_reply_line : (text : List ℕ) (count left : ℕ) → count ≡ suc left → after_line text ≡ None → after_reply_within count text ≡ None
no_reply_line text count left is_count none =
    ap (λ (m : ℕ). after_reply_within m text) is_count
    ∙ ap (option_and_then (λ rest. if is_end (first_line text) then Some rest else after_reply_within left rest)) none

-- the next line ends the reply, or does not
next_line : (text rest : List ℕ) (count left : ℕ) → count ≡ suc left → after_line text ≡ Some rest
    → after_reply_within count text ≡ (if is_end (first_line text) then Some rest else after_reply_within left rest)
next_line text rest count left is_count found =
    ap (λ (m : ℕ). after_reply_within m text) is_count
    ∙ ap (option_and_then (λ others. if is_end (first_line text) then Some others else after_reply_within left others)) found

pub reply_ended : (text rest line : List ℕ) (count left : ℕ) → count ≡ suc left → after_line text ≡ Some rest → line ≡ first_line text → is_end line ≡ true
    → after_reply_within count text ≡ Some rest
reply_ended text rest line count left is_count found is_line ended =
    next_line text rest count left is_count found
    ∙ ap (λ v. if v then Some rest else after_reply_within left rest) (ap is_end (sym is_line) ∙ ended)

pub reply_goes_on : (text line : List ℕ) (count left len n : ℕ) → count ≡ suc left → after_line (drop len text) ≡ Some (drop n (drop len text))
    → line ≡ first_line (drop len text) → is_end line ≡ false → after_reply_within count (drop len text) ≡ after_reply_within left (drop (len + n) text)
reply_goes_on text line count left len n is_count found is_line goes_on =
    next_line (drop len text) (drop n (drop len text)) count left is_count found
    ∙ ap (λ v. if v then Some (drop n (drop len text)) else after_reply_within left (drop n (drop len text))) (ap is_end (sym is_line) ∙ goes_on)
    ∙ ap (after_reply_within left) (drop-drop n len text)

pub reply_spent : (text : List ℕ) (count : ℕ) → count ≡ zero → after_reply_within count text ≡ None
reply_spent text count none = ap (λ (m : ℕ). after_reply_within m text) none
