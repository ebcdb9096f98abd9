-- What is after the last whole commit: what a write left that did not end, or damage.
use Rattle.std.specs.Prelude.{◌≡◌, ℕ, ◌∷◌, ◌++◌, drop, codes}
use Rattle.sipl_commits.specs.Commits.{line_start, next_number, written}
use Rattle.sipl_commits.specs.Seals.{Octets, Begins, HasLine}
use Rattle.sipl_commits.specs.declared.point.Point.{Point}

-- a text does not begin with a commit that follows a point
abbrev pub HasNoNext : Point → Octets → Type 0
HasNoNext p t = (body rest : Octets) → t ≡ written p body ++ rest → ⊥

-- a text begins with the line of a commit
abbrev pub HasCommitLine : Octets → Type 0
HasCommitLine t = HasLine (9 ∷ codes "commit ") 107 t

-- that line is not the one that a write of the next commit begins with: it has another place or number
pub record IsOtherAt (number : ℕ) (t : Octets) (place : ℕ) : Type 0 where
  pub line : HasCommitLine (drop place t)
  pub other : place ≡ 0 → Begins t (line_start (next_number number)) → ⊥

-- a text has the line of another commit than of the next one
abbrev pub HasOther : ℕ → Octets → Type 0
HasOther number t = (place : ℕ) × IsOtherAt number t place

-- what a write of the commit after a point may have left: not all of it, and no line of another commit, since
-- a commit is written once the one before it is synced
pub record IsTorn (p : Point) (t : Octets) : Type 0 where
  pub no_next : HasNoNext p t
  pub no_other : HasOther p.number t → ⊥

-- what no write leaves: the commit after a point is not there whole, and the line of another one is
pub record IsDamaged (p : Point) (t : Octets) : Type 0 where
  pub no_next : HasNoNext p t
  pub other : HasOther p.number t
