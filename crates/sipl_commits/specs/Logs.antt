-- The octets of a log, what is read of it, and why one is not read.
use Rattle.std.specs.Prelude.{◌≡◌, ℕ, List, [], ◌∷◌, ◌++◌, length, map, codes}
use Rattle.sipl_commits.specs.Commits.{after, bodies_of, points, written_all}
use Rattle.sipl_commits.specs.Seals.{Octets, Begins, HasLine, digest_text, number_text, sealed}
use Rattle.sipl_commits.specs.States.{checkpoint_start}
use Rattle.sipl_commits.specs.Tails.{HasNoNext, IsDamaged, IsTorn}
use Rattle.sipl_commits.specs.declared.fault.LogFault.{LogFault}
use Rattle.sipl_commits.specs.declared.fault.LogFault.TheVariants.{Memory, FirstFormat, Head, OtherState, Commit}
use Rattle.sipl_commits.specs.declared.log.Log.{Log}
use Rattle.sipl_commits.specs.declared.point.Point.{Point}

-- how the line begins that is the head of a log
abbrev pub head_start : Octets
head_start = codes "siplocd log 2 "

-- `siplocd log 2 NUMBER DIGEST `, the point that the first commit follows
unfoldable pub head_text : Point → Octets
head_text p = head_start ++ number_text p.number ++ 32 ∷ digest_text p.digest ++ 32 ∷ []

-- the first line of a log, with its own digest
abbrev pub log_head : Point → Octets
log_head p = sealed (head_text p)

-- the octets of a log: its head, and commits of these bodies
abbrev pub log_text : Point → List Octets → Octets
log_text p bodies = log_head p ++ written_all p bodies

-- octets are a log after a point: commits of these bodies, and what a write left that did not end
pub record IsLog (octets : Octets) (p : Point) (bodies : List Octets) (tail : Octets) : Type 0 where
  pub is : octets ≡ log_text p bodies ++ tail
  pub torn : IsTorn (after p bodies) tail

-- after commits of these bodies there is damage, and after no others
pub record IsDamagedLog (octets : Octets) (p : Point) (bodies : List Octets) (tail : Octets)
    : Type 0 where
  pub is : octets ≡ log_text p bodies ++ tail
  pub damaged : IsDamaged (after p bodies) tail

-- what was read of octets after a point: commits of which each follows the one before it, up to where none
-- does
pub record IsChain (octets : Octets) (p : Point) (log : Log) : Type 0 where
  pub is : octets ≡ written_all p (bodies_of log.commits.items) ++ log.tail.now
  pub points_are : map (λ commit. commit.point) log.commits.items
      ≡ points p (bodies_of log.commits.items)
  pub last_is : log.last ≡ after p (bodies_of log.commits.items)
  pub no_next : HasNoNext log.last log.tail.now

-- what was read of a log after a point
pub record IsRead (octets : Octets) (p : Point) (log : Log) : Type 0 where
  pub log_is : IsLog octets p (bodies_of log.commits.items) log.tail.now
  pub points_are : map (λ commit. commit.point) log.commits.items
      ≡ points p (bodies_of log.commits.items)
  pub last_is : log.last ≡ after p (bodies_of log.commits.items)

-- octets begin with the head of a log, whole by its own digest
abbrev pub HasHead : Octets → Type 0
HasHead octets = HasLine head_start 96 octets

-- why octets do not begin with the head of a log after a point, the first that applies
abbrev pub HeadFails : LogFault → Octets → Point → Type 0
HeadFails FirstFormat octets p = Begins octets checkpoint_start
HeadFails Head octets p = (Begins octets checkpoint_start → ⊥) × (HasHead octets → ⊥)
HeadFails OtherState octets p = HasHead octets × (Begins octets (log_head p) → ⊥)
HeadFails (Commit place) octets p = ⊥
HeadFails Memory octets p = Unit {0}

-- the commit at a place is damaged: up to there commits are whole, and after it there are others
abbrev pub IsDamagedAt : ℕ → Octets → Point → Type 0
IsDamagedAt place octets p =
    (bodies : List Octets) × (tail : Octets) × IsDamagedLog octets p bodies tail
    × (place ≡ length (log_text p bodies))

-- why octets are no log after a point, the first that applies
abbrev pub LogFails : LogFault → Octets → Point → Type 0
LogFails (Commit place) octets p = IsDamagedAt place octets p
LogFails FirstFormat octets p = HeadFails FirstFormat octets p
LogFails Head octets p = HeadFails Head octets p
LogFails OtherState octets p = HeadFails OtherState octets p
LogFails Memory octets p = Unit {0}
