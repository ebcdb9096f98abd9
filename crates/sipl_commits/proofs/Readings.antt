-- A log is read in one way, and refused in none.
use Rattle.std.proofs.Common.{◌≡◌, ◌+◌, ◌^◌, ◌<◌, List, [], ◌∷◌, ◌++◌, length, get_or, refl, sym, ap, subst, ◌∙◌, append_assoc, arith, length-append}
use Rattle.std.proofs.lemmas.List.{append_cancel_left}
use Rattle.sipl_commits.specs.Commits.{after, next_point, written, written_all}
use Rattle.sipl_commits.specs.Logs.{HasHead, IsDamagedLog, IsLog, LogFails, head_start, head_text, log_head, log_text}
use Rattle.sipl_commits.specs.Seals.{Octets, Begins}
use Rattle.sipl_commits.specs.States.{checkpoint_start}
use Rattle.sipl_commits.specs.Tails.{HasNoNext, HasOther}
use Rattle.sipl_commits.specs.declared.fault.LogFault.{LogFault}
use Rattle.sipl_commits.specs.declared.fault.LogFault.TheVariants.{Memory, FirstFormat, Head, OtherState, Commit}
use Rattle.sipl_commits.specs.declared.point.Point.{Point}
use Rattle.sipl_commits.proofs.Texts.{begins_from, length-digest_text, length-number_text}
use Rattle.sipl_commits.proofs.Written.{length-line_of, line_of, written_once}

-- how long a commit is
pub length-written : (p : Point) (body : Octets) → length (written p body) ≡ 179 + length body
length-written p body =
    let a = length-append (line_of p body) body in
    let b = length-line_of p body in
    omega (arith, a, b)

pub chain_once : (p : Point) (bodies others : List Octets) (tail rest : Octets) → length (written_all p bodies ++ tail) < 2 ^ 64
    → written_all p bodies ++ tail ≡ written_all p others ++ rest → HasNoNext (after p bodies) tail → HasNoNext (after p others) rest
    → (bodies ≡ others) × (tail ≡ rest)
chain_once p [] [] tail rest len e none none_b = (refl, e)
chain_once p [] (b ∷ bs) tail rest len e none none_b =
    absurd (none b (written_all (next_point p b) bs ++ rest) (e ∙ append_assoc (written p b) (written_all (next_point p b) bs) rest))
chain_once p (a ∷ more) [] tail rest len e none none_b =
    absurd (none_b a (written_all (next_point p a) more ++ tail) (sym e ∙ append_assoc (written p a) (written_all (next_point p a) more) tail))
chain_once p (a ∷ more) (b ∷ bs) tail rest len e none none_b =
    let x : Octets = written_all (next_point p a) more ++ tail in
    let y : Octets = written_all (next_point p b) bs ++ rest in
    let left : (written p a ++ written_all (next_point p a) more) ++ tail ≡ written p a ++ x = append_assoc (written p a) (written_all (next_point p a) more) tail in
    let right : (written p b ++ written_all (next_point p b) bs) ++ rest ≡ written p b ++ y = append_assoc (written p b) (written_all (next_point p b) bs) rest in
    let both : written p a ++ x ≡ written p b ++ y = sym left ∙ e ∙ right in
    let l = ap length left in
    let m = ap length both in
    let la = length-append (written p a) x in
    let lb = length-append (written p b) y in
    let wa = length-written p a in
    let wb = length-written p b in
    let fits_a : length a < 2 ^ 64 = omega (arith, l, la, wa, len) in
    let fits_b : length b < 2 ^ 64 = omega (arith, l, m, la, lb, wb, len) in
    let fits_x : length x < 2 ^ 64 = omega (arith, l, la, len) in
    let parts = written_once p a b x y fits_a fits_b both in
    let same : x ≡ written_all (next_point p a) bs ++ rest = parts.1 ∙ ap (λ (c : Octets). written_all (next_point p c) bs ++ rest) (sym parts.0) in
    let none_a : HasNoNext (after (next_point p a) bs) rest = subst (λ (c : Octets). HasNoNext (after (next_point p c) bs) rest) (sym parts.0) none_b in
    let ih = chain_once (next_point p a) more bs tail rest fits_x same none none_a in
    (ap (λ (c : Octets). c ∷ more) parts.0 ∙ ap (λ (cs : List Octets). b ∷ cs) ih.0, ih.1)

-- the commits of a log, after its head
pub after_head : (octets : Octets) (p : Point) (bodies : List Octets) (tail : Octets) → octets ≡ log_text p bodies ++ tail
    → octets ≡ log_head p ++ (written_all p bodies ++ tail)
after_head octets p bodies tail e = e ∙ append_assoc (log_head p) (written_all p bodies) tail

-- two ways to take a log apart are one
pub log_once : (octets : Octets) (p : Point) (bodies others : List Octets) (tail rest : Octets) → length octets < 2 ^ 64
    → octets ≡ log_text p bodies ++ tail → octets ≡ log_text p others ++ rest → HasNoNext (after p bodies) tail
    → HasNoNext (after p others) rest → (bodies ≡ others) × (tail ≡ rest)
log_once octets p bodies others tail rest len a b none none_b =
    let x = after_head octets p bodies tail a in
    let y = after_head octets p others rest b in
    let l = ap length x in
    let m = length-append (log_head p) (written_all p bodies ++ tail) in
    chain_once p bodies others tail rest (omega (arith, l, m, len)) (append_cancel_left (log_head p) _ _ (sym x ∙ y)) none none_b

pub one_reading : (octets : Octets) (p : Point) (bodies others : List Octets) (tail rest : Octets)
    → length octets < 2 ^ 64 → IsLog octets p bodies tail → IsLog octets p others rest → (bodies ≡ others) × (tail ≡ rest)
one_reading octets p bodies others tail rest len a b = log_once octets p bodies others tail rest len a.is b.is a.torn.no_next b.torn.no_next

pub length-head_text : (p : Point) → length p.digest ≡ 32 → length (head_text p) ≡ 96
unfolding head_text
length-head_text p h =
    let b = length-number_text p.number in
    let d = length-digest_text p.digest h in
    simp length-append (omega (arith, b, d))

pub head_begins : (p : Point) → Begins (head_text p) head_start
unfolding head_text
head_begins p = refl

no_checkpoint : (octets rest : Octets) (p : Point) → octets ≡ log_head p ++ rest → Begins octets checkpoint_start → ⊥
unfolding head_text
no_checkpoint octets rest p e h =
    let first : 115 ≡ 35 = ap (λ (t : Octets). get_or t 0 0) (rw e at h) in
    omega (arith, first)

has_head : (octets rest : Octets) (p : Point) → length p.digest ≡ 32 → octets ≡ log_head p ++ rest → HasHead octets
has_head octets rest p h e = record { text = head_text p; rest = rest; is = e; begins = head_begins p; len_is = length-head_text p h }

not_damaged : (octets : Octets) (p : Point) (bodies others : List Octets) (tail rest : Octets) → length octets < 2 ^ 64
    → IsLog octets p bodies tail → IsDamagedLog octets p others rest → ⊥
not_damaged octets p bodies others tail rest len log damaged =
    let same = log_once octets p bodies others tail rest len log.is damaged.is log.torn.no_next damaged.damaged.no_next in
    log.torn.no_other (subst (λ (b : List Octets). HasOther (after p b).number tail) (sym same.0)
    (subst (HasOther (after p others).number) (sym same.1) damaged.damaged.other))

pub not_refused : (octets : Octets) (p : Point) (bodies : List Octets) (tail : Octets) (fault : LogFault)
    → length octets < 2 ^ 64 → length p.digest ≡ 32 → IsLog octets p bodies tail → LogFails fault octets p → fault ≡ Memory
not_refused octets p bodies tail FirstFormat len h log fails = absurd (no_checkpoint octets _ p (after_head octets p bodies tail log.is) fails)
not_refused octets p bodies tail Head len h log fails = absurd (fails.1 (has_head octets _ p h (after_head octets p bodies tail log.is)))
not_refused octets p bodies tail OtherState len h log fails = absurd (fails.1 (begins_from octets (log_head p) _ (after_head octets p bodies tail log.is)))
not_refused octets p bodies tail (Commit place) len h log fails = absurd (not_damaged octets p bodies fails.0 tail fails.1 len log fails.2)
not_refused octets p bodies tail Memory len h log fails = refl
