-- A text that begins with a command, and the command without the rest.
use Rattle.std.proofs.Common.{◌≡◌, ℕ, zero, suc, List, [], ◌∷◌, ◌++◌, true, false, if◌then◌else◌, ◌==◌, Some, None, refl, sym, ap, ◌∙◌, append_assoc, append-nil}
use Rattle.std.specs.Option.{option_and_then}
use Rattle.std.proofs.lemmas.List.{append_cancel_right}
use Rattle.std.proofs.lemmas.Option.{none-some, same_Some, option_and_then_some}
use Rattle.sipl_lines.specs.CommandLines.{after_command, after_line, after_lines, first_line, taken_by}

-- a text begins with a line, whatever is after it
record CutsLine (text rest : List ℕ) : Type 0 where
  pub line : List ℕ
  pub whole : text ≡ line ++ rest
  pub after : (other : List ℕ) → after_line (line ++ other) ≡ Some other
  pub first : (other : List ℕ) → first_line (line ++ other) ≡ first_line text

cut_line : (text rest : List ℕ) → after_line text ≡ Some rest → CutsLine text rest
cut_line [] rest is = absurd (none-some rest is)
cut_line (c ∷ text) rest is =
    elim (c == 10) as (λ v. (c == 10) ≡ v → (if v then Some text else after_line text) ≡ Some rest → CutsLine (c ∷ text) rest) [
      | true ↦ λ e found. record {
        line = c ∷ [];
        whole = ap (λ (t : List ℕ). c ∷ t) (same_Some text rest found);
        after = λ other. rw e refl;
        first = λ other. rw e refl;
      }
      | false ↦ λ e found. let others = cut_line text rest found in record {
        line = c ∷ others.line;
        whole = ap (λ (t : List ℕ). c ∷ t) others.whole;
        after = λ other. rw e (others.after other);
        first = λ other. rw e (ap (λ (t : List ℕ). c ∷ t) (others.first other));
      }
    ] refl is

-- a text begins with so many lines, whatever is after them
record CutsLines (n : ℕ) (text rest : List ℕ) : Type 0 where
  pub lines : List ℕ
  pub whole : text ≡ lines ++ rest
  pub after : (other : List ℕ) → after_lines n (lines ++ other) ≡ Some other

cut_lines : (n : ℕ) (text rest : List ℕ) → after_lines n text ≡ Some rest → CutsLines n text rest
cut_lines zero text rest is = record { lines = []; whole = same_Some text rest is; after = λ other. refl }
cut_lines (suc n) text rest is =
    option_and_then_some (after_lines n) (after_line text) rest is (λ mid found left.
    let first = cut_line text mid found in
    let others = cut_lines n mid rest left in
    record {
      lines = first.line ++ others.lines;
      whole = first.whole ∙ ap (λ (t : List ℕ). first.line ++ t) others.whole ∙ sym (append_assoc first.line others.lines rest);
      after = λ other. ap (after_lines (suc n)) (append_assoc first.line others.lines other)
          ∙ ap (option_and_then (after_lines n)) (first.after (others.lines ++ other)) ∙ others.after other;
    })

-- the first command of a text, which is one alone, with the same first line
pub record IsCut (text command : List ℕ) : Type 0 where
  pub one : after_command command ≡ Some []
  pub line : first_line command ≡ first_line text

pub command_cut : (text command rest : List ℕ) → after_command text ≡ Some rest → text ≡ command ++ rest → IsCut text command
command_cut text command rest is split =
    let k = taken_by (first_line text) in
    option_and_then_some (after_lines k) (after_line text) rest is (λ mid found left.
    let first = cut_line text mid found in
    let others = cut_lines k mid rest left in
    let whole : text ≡ (first.line ++ others.lines) ++ rest =
    first.whole ∙ ap (λ (t : List ℕ). first.line ++ t) others.whole ∙ sym (append_assoc first.line others.lines rest) in
    let same : command ≡ first.line ++ others.lines = append_cancel_right command (first.line ++ others.lines) rest (sym split ∙ whole) in
    let line : first_line command ≡ first_line text = ap first_line same ∙ first.first others.lines in
    record {
      one = ap (λ (n : ℕ). option_and_then (after_lines n) (after_line command)) (ap taken_by line)
          ∙ ap (λ (t : List ℕ). option_and_then (after_lines k) (after_line t)) same
          ∙ ap (option_and_then (after_lines k)) (first.after others.lines)
          ∙ ap (after_lines k) (sym (append-nil others.lines)) ∙ others.after [];
      line = line;
    })
