-- The lines of other commits in a text.
use Rattle.std.proofs.Common.{◌≡◌, ℕ, ◌<◌, ◌≤◌, true, false, Bool, not, length, drop, refl, ap, arith, length-append, length-drop}
use Rattle.std.specs.Bool.{Decides}
use Rattle.sipl_commits.specs.Commits.{line_start, next_number}
use Rattle.sipl_commits.specs.Seals.{Octets, Begins, seal_of, sealed}
use Rattle.sipl_commits.specs.Tails.{HasCommitLine, HasOther, IsOtherAt}
use Rattle.sipl_commits.proofs.Texts.{length-seal_of, true_false}

-- at the start it depends on the number
pub other_decides : (number : ℕ) (t : Octets) (place : ℕ) (next : Octets) (r : Bool) → HasCommitLine (drop place t) → place ≡ 0
    → next ≡ line_start (next_number number) → Decides r (Begins t next) → Decides (not r) (IsOtherAt number t place)
other_decides number t place next true line zero is decides = (
  λ same. absurd (true_false false same refl),
  λ h. absurd (h.other zero (rw (← is) (decides.0 refl))),
)
other_decides number t place next false line zero is decides = (
  λ same. record { line = line; other = λ z begins. true_false false (decides.1 (rw is begins)) refl },
  λ h. refl,
)

-- elsewhere not
pub other_later : (number : ℕ) (t : Octets) (place : ℕ) → HasCommitLine (drop place t) → 0 < place → IsOtherAt number t place
other_later number t place line later = record { line = line; other = λ zero begins. omega arith }

-- such a line has octets
pub other_within : (number : ℕ) (t : Octets) (place : ℕ) → IsOtherAt number t place → place < length t
other_within number t place h =
    let line = h.line in
    let a = ap length line.is in
    let b = length-append (sealed line.text) line.rest in
    let d = length-append line.text (seal_of line.text) in
    let e = length-seal_of line.text in
    let f = length-drop place t in
    omega (arith, a, b, d, e, f)

-- where there is none at any place, there is none
pub no_other : (number n : ℕ) (t : Octets) → length t ≤ n → ((k : ℕ) → k < n → IsOtherAt number t k → ⊥) → HasOther number t → false ≡ true
no_other number n t all none h =
    let within = other_within number t h.0 h.1 in
    absurd (none h.0 (omega arith) h.1)
