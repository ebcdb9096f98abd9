-- Commits in a chain: each has the number after that of the one before it, and a digest over that one's.
use Rattle.std.specs.Prelude.{◌≡◌, ℕ, ◌+◌, ◌-◌, ◌^◌, List, [], ◌∷◌, ◌++◌, length, map, min, codes}
use Rattle.sha2.specs.Sha256.{sha256}
use Rattle.sipl_commits.specs.Seals.{Octets, digest_text, number_octets, number_text, sealed}
use Rattle.sipl_commits.specs.declared.commit.Commit.{Commit}
use Rattle.sipl_commits.specs.declared.point.Point.{Point}

-- numbers go up by one, to the greatest one that has 16 hexadecimal digits
abbrev pub next_number : ℕ → ℕ
next_number n = min (n + 1) (2 ^ 64 - 1)

-- what the digest of a commit is of: its number, the digest before it, and its body
abbrev pub link_text : Point → Octets → Octets
link_text p body = number_octets (next_number p.number) ++ p.digest ++ body

-- the point after a commit of this body
abbrev pub next_point : Point → Octets → Point
next_point p body =
    record { number = next_number p.number; digest = sha256 (link_text p body) }

-- the start of a commit's line: a tab, which no text of a session has, and its number
unfoldable pub line_start : ℕ → Octets
line_start number = 9 ∷ codes "commit " ++ number_text number

-- a tab and `commit NUMBER LENGTH DIGEST `
unfoldable pub line_text : Point → ℕ → Octets
line_text p len =
    line_start p.number ++ 32 ∷ number_text len ++ 32 ∷ digest_text p.digest ++ 32 ∷ []

-- the octets of a commit: a line with its number, its length, its digest and the line's own, and its body
abbrev pub written : Point → Octets → Octets
written p body = sealed (line_text (next_point p body) (length body)) ++ body

-- the point after commits of these bodies
abbrev pub after : Point → List Octets → Point
after p [] = p
after p (body ∷ bodies) = after (next_point p body) bodies

-- the octets of commits of these bodies
abbrev pub written_all : Point → List Octets → Octets
written_all p [] = []
written_all p (body ∷ bodies) = written p body ++ written_all (next_point p body) bodies

-- changes as the body of one commit, unless there are none
abbrev pub one_if_any : Octets → List Octets
one_if_any [] = []
one_if_any (octet ∷ octets) = (octet ∷ octets) ∷ []

-- the points after each of these bodies
abbrev pub points : Point → List Octets → List Point
points p [] = []
points p (body ∷ bodies) = next_point p body ∷ points (next_point p body) bodies

-- the bodies of commits that were read
abbrev pub bodies_of : List Commit → List Octets
bodies_of commits = map (λ commit. commit.body.now) commits

-- a text is a line of the length of a commit's, a body and the rest
pub record IsCut (text body rest : Octets) : Type 0 where
  pub line : Octets
  pub is : text ≡ line ++ body ++ rest
  pub len : length line ≡ 179

-- a text begins with a commit that follows a point
pub record IsNext (text : Octets) (p : Point) (commit : Commit) (rest : Octets) : Type 0 where
  pub is : text ≡ written p commit.body.now ++ rest
  pub point_is : commit.point ≡ next_point p commit.body.now
