-- What a digest stands for.
use Rattle.std.proofs.Common.{◌≡◌, ℕ, zero, suc, ◌^◌, ◌<◌, List, [], ◌∷◌, ◌++◌, length, take, drop, refl, sym, ap, ◌∙◌, append_assoc, arith, length-append}
use Rattle.std.specs.Int.{w32, to_be_bytes}
use Rattle.std.specs.Prelude.{slice_index}
use Rattle.hex.specs.Hex.{IsBytes, decode_of}
use Rattle.hex.proofs.HexLemmas.{decode_of-encode_lower}
use Rattle.sha2.specs.Sha256.{digest_bytes, final_hash, initial_hash_256, sha256}
use Rattle.sha2.proofs.Facts256.{length-sha256}
use Rattle.sipl_commits.specs.Commits.{after, line_start, line_text, link_text, next_number, next_point, written}
use Rattle.sipl_commits.specs.Cuts.{AreAllApart}
use Rattle.sipl_commits.specs.Seals.{Octets, digest_text, number_octets, number_text, seal_of, sealed}
use Rattle.sipl_commits.specs.declared.point.Point.{Point}
use Rattle.sipl_commits.proofs.Texts.{high_bytes, length-digest_text, length-number_octets, length-number_text, ok_is, same_number, same_parts}
use Rattle.sipl_commits.proofs.Written.{len_field, length-line_of, length-line_start, length-line_text, line_of, next_digest}

-- the text of a commit has one number, one digest and one body
same_links : (p q : Point) (a b : Octets) → length p.digest ≡ 32 → length q.digest ≡ 32 → link_text p a ≡ link_text q b
    → (p.digest ≡ q.digest) × (a ≡ b)
same_links p q a b hp hq e =
    let m = number_octets (next_number p.number) in
    let n = number_octets (next_number q.number) in
    let regrouped : m ++ (p.digest ++ a) ≡ n ++ (q.digest ++ b) = sym (append_assoc m p.digest a) ∙ e ∙ append_assoc n q.digest b in
    let first = same_parts m n (p.digest ++ a) (q.digest ++ b) (length-number_octets (next_number p.number) ∙ sym (length-number_octets (next_number q.number))) regrouped in
    same_parts p.digest q.digest a b (hp ∙ sym hq) first.1

pub all_alike : (p q : Point) (bodies others : List Octets) → length p.digest ≡ 32 → length q.digest ≡ 32 → length bodies ≡ length others
    → (after p bodies).digest ≡ (after q others).digest → AreAllApart p bodies q others → (bodies ≡ others) × (p.digest ≡ q.digest)
all_alike p q [] [] hp hq len e apart = (refl, e)
all_alike p q [] (b ∷ bs) hp hq len e apart = absurd (omega (arith, len))
all_alike p q (a ∷ more) [] hp hq len e apart = absurd (omega (arith, len))
all_alike p q (a ∷ more) (b ∷ bs) hp hq len e apart =
    let ih = all_alike (next_point p a) (next_point q b) more bs (length-sha256 (link_text p a)) (length-sha256 (link_text q b)) (omega (arith, len)) e apart.1 in
    let parts = same_links p q a b hp hq (apart.0 ih.1) in
    (ap (λ (c : Octets). c ∷ more) parts.1 ∙ ap (λ (cs : List Octets). b ∷ cs) ih.0, parts.0)

pub alike : (p : Point) (bodies others : List Octets) → length p.digest ≡ 32 → length bodies ≡ length others
    → (after p bodies).digest ≡ (after p others).digest → AreAllApart p bodies p others → bodies ≡ others
alike p bodies others h len e apart = (all_alike p p bodies others h h len e apart).0

bytes_append : (a b : Octets) → IsBytes a → IsBytes b → IsBytes (a ++ b)
bytes_append [] b ha hb i = hb i
bytes_append (x ∷ xs) b ha hb zero = ha 0
bytes_append (x ∷ xs) b ha hb (suc i) = bytes_append xs b (λ k. ha (suc k)) hb i

hash_bytes : (h : List ℕ) (n : ℕ) → IsBytes (digest_bytes h n)
unfolding digest_bytes
hash_bytes h zero = λ i. omega arith
hash_bytes h (suc n) = bytes_append (digest_bytes h n) (to_be_bytes w32 (slice_index h n)) (hash_bytes h n) (high_bytes 4 (slice_index h n))

pub digest_octets : (text : Octets) → IsBytes (sha256 text)
unfolding sha256
digest_octets text = hash_bytes (final_hash initial_hash_256 text) 8

-- a digest has a text of its own
pub same_digest : (a b : Octets) → digest_text (sha256 a) ≡ digest_text (sha256 b) → sha256 a ≡ sha256 b
unfolding digest_text
same_digest a b e =
    ok_is _ _ (decode_of (digest_text (sha256 a))) (decode_of-encode_lower (sha256 a) (digest_octets a))
    (ap decode_of e ∙ decode_of-encode_lower (sha256 b) (digest_octets b))

-- a commit's line has one digest
line_digest : (p q : Point) (m n : ℕ) → length p.digest ≡ 32 → length q.digest ≡ 32 → line_text p m ≡ line_text q n → digest_text p.digest ≡ digest_text q.digest
unfolding line_text
line_digest p q m n hp hq e =
    let front_p : Octets = (line_start p.number ++ 32 ∷ number_text m) ++ 32 ∷ [] in
    let front_q : Octets = (line_start q.number ++ 32 ∷ number_text n) ++ 32 ∷ [] in
    let a = length-line_start p.number in
    let b = length-line_start q.number in
    let d = length-number_text m in
    let f = length-number_text n in
    let len : length front_p ≡ length front_q = simp length-append (omega (arith, a, b, d, f)) in
    let left : line_text p m ≡ front_p ++ (digest_text p.digest ++ 32 ∷ []) = simp append_assoc in
    let right : line_text q n ≡ front_q ++ (digest_text q.digest ++ 32 ∷ []) = simp append_assoc in
    let parts = same_parts front_p front_q (digest_text p.digest ++ 32 ∷ []) (digest_text q.digest ++ 32 ∷ []) len (sym left ∙ e ∙ right) in
    (same_parts (digest_text p.digest) (digest_text q.digest) (32 ∷ []) (32 ∷ []) (length-digest_text p.digest hp ∙ sym (length-digest_text q.digest hq)) parts.1).0

pub other_body : (p : Point) (body other found rest more : Octets) → length other ≡ length body → length body < 2 ^ 64 → length found < 2 ^ 64
    → sealed (line_text (next_point p body) (length body)) ++ (other ++ rest) ≡ written p found ++ more
    → sha256 (link_text p body) ≡ sha256 (link_text p other)
other_body p body other found rest more len fits fits_found e =
    let text : Octets = line_text (next_point p body) (length body) in
    let text_found : Octets = line_text (next_point p found) (length found) in
    let lines = same_parts (line_of p body) (line_of p found) (other ++ rest) (found ++ more) (length-line_of p body ∙ sym (length-line_of p found))
    (e ∙ append_assoc (line_of p found) found more) in
    let texts = same_parts text text_found (seal_of text) (seal_of text_found)
    (length-line_text (next_point p body) (length body) (next_digest p body) ∙ sym (length-line_text (next_point p found) (length found) (next_digest p found))) lines.0 in
    let lens : number_text (length body) ≡ number_text (length found) =
    sym (len_field (next_point p body) (length body) (seal_of text)) ∙ ap (λ (t : Octets). take 16 (drop 25 t)) lines.0
    ∙ len_field (next_point p found) (length found) (seal_of text_found) in
    let same : other ≡ found =
    (same_parts other found rest more (len ∙ same_number (length body) (length found) fits fits_found lens) lines.1).0 in
    same_digest (link_text p body) (link_text p found)
    (line_digest (next_point p body) (next_point p found) (length body) (length found) (next_digest p body) (next_digest p found) texts.0)
    ∙ ap (λ (x : Octets). sha256 (link_text p x)) (sym same)
