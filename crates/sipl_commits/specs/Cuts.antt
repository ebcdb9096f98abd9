-- What a write leaves that does not end, and when two texts have one digest.
use Rattle.std.specs.Prelude.{◌≡◌, ℕ, ◌<◌, ◌≤◌, ◌^◌, ◌⊎◌, List, ◌∷◌, length, slice_index, take}
use Rattle.sha2.specs.Sha256.{sha256}
use Rattle.sipl_commits.specs.Commits.{link_text, next_point}
use Rattle.sipl_commits.specs.Logs.{IsLog}
use Rattle.sipl_commits.specs.Seals.{Octets}
use Rattle.sipl_commits.specs.declared.point.Point.{Point}

-- no octet is a tab
abbrev pub HasNoTab : Octets → Type 0
HasNoTab text = (i : ℕ) → slice_index text i ≡ 9 → ⊥

-- a body as the lines of a session are: without a tab, and shorter than 2 ^ 64 octets
pub record IsPlain (body : Octets) : Type 0 where
  pub no_tab : HasNoTab body
  pub fits : length body < 2 ^ 64

-- the first of the bodies are read of these octets, and no others
abbrev pub ReadsSome : Octets → Point → List Octets → Type 0
ReadsSome octets p bodies = (m : ℕ) × (tail : Octets) × IsLog octets p (take m bodies) tail

-- what a write of a text may have left: no more octets than it has, each as it was written or 0
pub record IsLeftOf (text left : Octets) : Type 0 where
  pub len : length left ≤ length text
  pub each : (i : ℕ) → i < length left
      → (slice_index left i ≡ slice_index text i) ⊎ (slice_index left i ≡ 0)

-- two texts do not have one digest, unless they are one
abbrev pub AreApart : Octets → Octets → Type 0
AreApart a b = sha256 a ≡ sha256 b → a ≡ b

-- nor have those of commits that are at the same place after two points
abbrev pub AreAllApart : Point → List Octets → Point → List Octets → Type 0
AreAllApart p (a ∷ others) q (b ∷ rest) =
    AreApart (link_text p a) (link_text q b) × AreAllApart (next_point p a) others (next_point q b) rest
AreAllApart p _ q _ = Unit {0}
