-- A commit's octets: their parts, and that they are those of no other.
use Rattle.std.proofs.Common.{◌≡◌, ℕ, ◌+◌, ◌^◌, ◌<◌, [], ◌∷◌, ◌++◌, length, take, drop, sym, ap, ◌∙◌, append_assoc, arith, length-append}
use Rattle.std.proofs.lemmas.List.{drop_at, take_at}
use Rattle.sha2.proofs.Facts256.{length-sha256}
use Rattle.sipl_commits.specs.Commits.{IsCut, line_start, line_text, link_text, next_point, written}
use Rattle.sipl_commits.specs.Seals.{Octets, Begins, digest_text, number_text, seal_of, sealed}
use Rattle.sipl_commits.specs.declared.point.Point.{Point}
use Rattle.sipl_commits.proofs.Texts.{begins_from, begins_rest, length-digest_text, length-number_text, length-seal_of, same_number, same_parts}

pub length-line_start : (n : ℕ) → length (line_start n) ≡ 24
unfolding line_start
length-line_start n =
    let e = length-number_text n in
    omega (arith, e)

pub length-line_text : (p : Point) (len : ℕ) → length p.digest ≡ 32 → length (line_text p len) ≡ 107
unfolding line_text
length-line_text p len h =
    let a = length-line_start p.number in
    let b = length-number_text len in
    let d = length-digest_text p.digest h in
    simp length-append (omega (arith, a, b, d))

pub next_digest : (p : Point) (body : Octets) → length (next_point p body).digest ≡ 32
next_digest p body = length-sha256 (link_text p body)

-- the line of a commit
abbrev pub line_of : Point → Octets → Octets
line_of p body = sealed (line_text (next_point p body) (length body))

pub length-line_of : (p : Point) (body : Octets) → length (line_of p body) ≡ 179
length-line_of p body =
    let a = length-line_text (next_point p body) (length body) (next_digest p body) in
    let b = length-seal_of (line_text (next_point p body) (length body)) in
    simp length-append (omega (arith, a, b))

-- the length of a body is in its commit's line
pub len_field : (p : Point) (len : ℕ) (rest : Octets) → take 16 (drop 25 (line_text p len ++ rest)) ≡ number_text len
unfolding line_text
len_field p len rest =
    let start : Octets = line_start p.number ++ 32 ∷ [] in
    let s = length-line_start p.number in
    let at : length start ≡ 25 = simp length-append (omega (arith, s)) in
    let more : Octets = 32 ∷ digest_text p.digest ++ 32 ∷ [] in
    let regrouped : line_text p len ++ rest ≡ start ++ (number_text len ++ (more ++ rest)) = simp append_assoc in
    ap (λ (x : Octets). take 16 (drop 25 x)) regrouped
    ∙ ap (take 16) (drop_at start (number_text len ++ (more ++ rest)) 25 at)
    ∙ take_at (number_text len) (more ++ rest) 16 (length-number_text len)

-- no commit's octets begin with those of another one that follows the same point
pub written_once : (p : Point) (a b x y : Octets) → length a < 2 ^ 64 → length b < 2 ^ 64
    → written p a ++ x ≡ written p b ++ y → (a ≡ b) × (x ≡ y)
written_once p a b x y ha hb e =
    let apart : line_of p a ++ (a ++ x) ≡ line_of p b ++ (b ++ y) = sym (append_assoc (line_of p a) a x) ∙ e ∙ append_assoc (line_of p b) b y in
    let parts = same_parts (line_of p a) (line_of p b) (a ++ x) (b ++ y) (length-line_of p a ∙ sym (length-line_of p b)) apart in
    let text_a : Octets = line_text (next_point p a) (length a) in
    let text_b : Octets = line_text (next_point p b) (length b) in
    let fields : number_text (length a) ≡ number_text (length b) =
    sym (len_field (next_point p a) (length a) (seal_of text_a)) ∙ ap (λ (t : Octets). take 16 (drop 25 t)) parts.0
    ∙ len_field (next_point p b) (length b) (seal_of text_b) in
    same_parts a b x y (same_number (length a) (length b) ha hb fields) parts.1

-- the parts of a text that begins with a commit
pub record Parts (p : Point) (body rest text : Octets) : Type 0 where
  pub is : text ≡ line_of p body ++ (body ++ rest)
  pub line : take 179 text ≡ line_of p body
  pub back : drop 179 text ≡ body ++ rest
  pub len : take 16 (drop 25 (take 179 text)) ≡ number_text (length body)
  pub fits : length text ≡ 179 + (length body + length rest)

pub written_parts : (p : Point) (body rest text : Octets) → text ≡ written p body ++ rest → Parts p body rest text
written_parts p body rest text e =
    let is : text ≡ line_of p body ++ (body ++ rest) = e ∙ append_assoc (line_of p body) body rest in
    let line : take 179 text ≡ line_of p body = ap (take 179) is ∙ take_at (line_of p body) (body ++ rest) 179 (length-line_of p body) in
    let n = length-line_of p body in
    record {
      is = is;
      line = line;
      back = ap (drop 179) is ∙ drop_at (line_of p body) (body ++ rest) 179 (length-line_of p body);
      len = ap (λ (t : Octets). take 16 (drop 25 t)) line ∙ len_field (next_point p body) (length body) (seal_of (line_text (next_point p body) (length body)));
      fits = ap length is ∙ length-append (line_of p body) (body ++ rest) ∙ omega (arith, n, length-append body rest);
    }

-- a text whose line is that of a commit with its body begins with that commit
pub whole_is : (p : Point) (text body rest line : Octets) → IsCut text body rest → line ≡ line_of p body
    → Begins text line → text ≡ written p body ++ rest
whole_is p text body rest line cut is begins =
    let front : cut.line ++ (body ++ rest) ≡ line ++ drop (length line) text = sym (append_assoc cut.line body rest) ∙ sym cut.is ∙ begins_rest text line begins in
    let len : length cut.line ≡ length line = cut.len ∙ sym (ap length is ∙ length-line_of p body) in
    let same = same_parts cut.line line (body ++ rest) (drop (length line) text) len front in
    cut.is ∙ ap (λ (l : Octets). l ++ body ++ rest) (same.0 ∙ is)

-- the other way
pub begins_line : (p : Point) (text body rest line : Octets) → line ≡ line_of p body
    → text ≡ written p body ++ rest → Begins text line
begins_line p text body rest line is e =
    begins_from text line (body ++ rest) (e ∙ append_assoc (line_of p body) body rest ∙ ap (λ (l : Octets). l ++ (body ++ rest)) (sym is))
