-- The head of a page.
use Rattle.std.proofs.Common.{◌≡◌, ℕ, ◌+◌, ◌<◌, List, [], ◌∷◌, ◌++◌, true, false, if◌then◌else◌, ◌==◌, length, get_or, take, drop, codes, unwrap_or, Some, refl, sym, ap, ◌∙◌, take-append-drop, append_assoc, arith}
use Rattle.std.proofs.lemmas.Bool.{eqb-true}
use Rattle.std.proofs.lemmas.List.{drop_more}
use Rattle.sipl_lines.specs.CommandLines.{after_line, first_line}

-- a text whose first line has an end
pub first_and_rest : (text rest : List ℕ) → rest ≡ unwrap_or (after_line text) [] → 0 < length rest → text ≡ first_line text ++ 10 ∷ rest
first_and_rest [] rest is_rest some = absurd (omega (arith, ap length is_rest))
first_and_rest (c ∷ text) rest is_rest some =
    elim (c == 10) as (λ v. (c == 10) ≡ v → rest ≡ unwrap_or (if v then Some text else after_line text) [] → c ∷ text ≡ (if v then [] else c ∷ first_line text) ++ 10 ∷ rest) [
      | true ↦ λ e is. ap (λ (d : ℕ). d ∷ text) (eqb-true c 10 e) ∙ ap (λ (r : List ℕ). 10 ∷ r) (sym is)
      | false ↦ λ e is. ap (λ (r : List ℕ). c ∷ r) (first_and_rest text rest is some)
    ] refl is_rest

-- a text with an LF at a place
pub cut_at : (text : List ℕ) (at : ℕ) → at < length text → get_or text at 0 ≡ 10 → text ≡ take at text ++ 10 ∷ drop (at + 1) text
cut_at text at within lf =
    sym (take-append-drop at text) ∙ ap (λ (rest : List ℕ). take at text ++ rest) (drop_more text at 0 within ∙ ap (λ (c : ℕ). c ∷ drop (at + 1) text) lf)

pub head_is : (text line fields rest client events : List ℕ)
    → text ≡ line ++ 10 ∷ rest → line ≡ codes "siplocd page " ++ fields → rest ≡ client ++ 10 ∷ events
    → text ≡ codes "siplocd page " ++ fields ++ 10 ∷ client ++ 10 ∷ events
head_is text line fields rest client events a b c =
    a ∙ ap (λ (first : List ℕ). first ++ 10 ∷ rest) b ∙ ap (λ (others : List ℕ). (codes "siplocd page " ++ fields) ++ 10 ∷ others) c
    ∙ sym (append_assoc (codes "siplocd page " ++ fields) (10 ∷ client) (10 ∷ events))
