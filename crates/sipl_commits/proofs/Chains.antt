-- Commits in a chain, with one more at its end.
use Rattle.std.proofs.Common.{◌≡◌, ◌<◌, List, [], ◌∷◌, ◌++◌, length, map, refl, sym, ap, ◌∙◌, append_assoc, arith, length-append}
use Rattle.std.proofs.lemmas.List.{append-nil, map-append}
use Rattle.sipl_commits.specs.Commits.{IsNext, after, bodies_of, next_point, points, written, written_all}
use Rattle.sipl_commits.specs.Seals.{Octets}
use Rattle.sipl_commits.specs.declared.commit.Commit.{Commit}
use Rattle.sipl_commits.specs.declared.point.Point.{Point}
use Rattle.sipl_commits.proofs.Written.{length-line_of, line_of}

pub written_more : (p : Point) (bodies : List Octets) (body : Octets)
    → written_all p (bodies ++ body ∷ []) ≡ written_all p bodies ++ written (after p bodies) body
written_more p [] body = append-nil (written p body)
written_more p (first ∷ others) body =
    ap (λ (x : Octets). written p first ++ x) (written_more (next_point p first) others body)
    ∙ sym (append_assoc (written p first) (written_all (next_point p first) others) (written (after (next_point p first) others) body))

pub after_more : (p : Point) (bodies : List Octets) (body : Octets)
    → after p (bodies ++ body ∷ []) ≡ next_point (after p bodies) body
after_more p [] body = refl
after_more p (first ∷ others) body = after_more (next_point p first) others body

pub points_more : (p : Point) (bodies : List Octets) (body : Octets)
    → points p (bodies ++ body ∷ []) ≡ points p bodies ++ next_point (after p bodies) body ∷ []
points_more p [] body = refl
points_more p (first ∷ others) body = ap (λ (x : List Point). next_point p first ∷ x) (points_more (next_point p first) others body)

-- what was read so far of a text
pub record Reads (p : Point) (text : Octets) (commits : List Commit) (last : Point) (tail : Octets) : Type 0 where
  pub is : text ≡ written_all p (bodies_of commits) ++ tail
  pub points_are : map (λ commit. commit.point) commits ≡ points p (bodies_of commits)
  pub last_is : last ≡ after p (bodies_of commits)

-- with the commit that the tail begins with
pub reads_more : (p : Point) (text : Octets) (commits new : List Commit) (commit : Commit) (last : Point) (tail rest : Octets)
    → Reads p text commits last tail → IsNext tail last commit rest → new ≡ commits ++ commit ∷ [] → Reads p text new commit.point rest
reads_more p text commits new commit last tail rest reads next is_new =
    let bodies = bodies_of commits in
    let body = commit.body.now in
    let bodies_are : bodies_of new ≡ bodies ++ body ∷ [] = ap bodies_of is_new ∙ map-append (λ (c : Commit). c.body.now) commits (commit ∷ []) in
    let point_is : commit.point ≡ next_point (after p bodies) body = next.point_is ∙ ap (λ (q : Point). next_point q body) reads.last_is in
    record {
      is = reads.is ∙ ap (λ (x : Octets). written_all p bodies ++ x) (next.is ∙ ap (λ (q : Point). written q body ++ rest) reads.last_is)
          ∙ sym (append_assoc (written_all p bodies) (written (after p bodies) body) rest)
          ∙ ap (λ (x : Octets). x ++ rest) (sym (written_more p bodies body) ∙ ap (written_all p) (sym bodies_are));
      points_are = ap (map (λ (c : Commit). c.point)) is_new ∙ map-append (λ (c : Commit). c.point) commits (commit ∷ [])
          ∙ ap (λ (x : List Point). x ++ commit.point ∷ []) reads.points_are
          ∙ ap (λ (q : Point). points p bodies ++ q ∷ []) point_is ∙ sym (points_more p bodies body) ∙ ap (points p) (sym bodies_are);
      last_is = point_is ∙ sym (after_more p bodies body) ∙ ap (after p) (sym bodies_are);
    }

-- a commit has octets
pub next_smaller : (tail : Octets) (last : Point) (commit : Commit) (rest : Octets) → IsNext tail last commit rest → length rest < length tail
next_smaller tail last commit rest next =
    let a = ap length next.is in
    let b = length-append (written last commit.body.now) rest in
    let d = length-append (line_of last commit.body.now) commit.body.now in
    let e = length-line_of last commit.body.now in
    omega (arith, a, b, d, e)
