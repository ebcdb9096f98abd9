-- What is left of a commit, or of a log, that was cut.
use Rattle.std.proofs.Common.{◌≡◌, ℕ, add-zero, zero, suc, ◌+◌, ◌-◌, ◌^◌, ◌<◌, ◌≤◌, ◌⊎◌, inl, inr, List, [], ◌∷◌, ◌++◌, codes, length, get_or, take, drop, refl, sym, ap, ◌∙◌, append_assoc, arith, length-append, length-drop}
use Rattle.std.proofs.lemmas.List.{append-nil, drop_at, get_or-drop, get_or-take, length-take, take-append-drop, take-take, take-append-le, take_all}
use Rattle.std.specs.List.{AllByRecursion}
use Rattle.sipl_commits.specs.Commits.{after, line_start, line_text, next_number, next_point, written, written_all}
use Rattle.sipl_commits.specs.Cuts.{HasNoTab, IsPlain, ReadsSome}
use Rattle.sipl_commits.specs.Logs.{HasHead, head_text, log_head, log_text}
use Rattle.sipl_commits.specs.Seals.{Octets, Begins, digest_text, number_text, seal_of, sealed}
use Rattle.sipl_commits.specs.States.{checkpoint_start}
use Rattle.sipl_commits.specs.Tails.{HasNoNext, HasOther, IsDamaged, IsOtherAt, IsTorn}
use Rattle.sipl_commits.specs.declared.point.Point.{Point}
use Rattle.sipl_commits.proofs.Others.{other_later, other_within}
use Rattle.sipl_commits.proofs.Readings.{length-head_text, length-written}
use Rattle.sipl_commits.proofs.Tabs.{tab_first}
use Rattle.sipl_commits.proofs.Texts.{begins_from, begins_rest, length-seal_of}
use Rattle.sipl_commits.proofs.Written.{length-line_start, length-line_text, next_digest, written_once}

-- a cut commit is not whole
cut_not_whole : (p : Point) (body : Octets) (n : ℕ) → length body < 2 ^ 64 → n < length (written p body) → HasNoNext p (take n (written p body))
cut_not_whole p body n fits less b rest e =
    let w : Octets = written p body in
    let x : Octets = rest ++ drop n w in
    let whole : written p body ++ [] ≡ written p b ++ x =
    append-nil w ∙ sym (take-append-drop n w) ∙ ap (λ (t : Octets). t ++ drop n w) e ∙ append_assoc (written p b) rest (drop n w) in
    let l = ap length e in
    let m = length-take n w in
    let la = length-append (written p b) rest in
    let wa = length-written p body in
    let wb = length-written p b in
    let fits_b : length b < 2 ^ 64 = omega (arith, l, m, la, wa, wb, less, fits) in
    let same = written_once p body b [] x fits fits_b whole in
    let s = ap length same.0 in
    omega (arith, l, m, la, wa, wb, less, s)

pub starts : (p : Point) (len : ℕ) (x : Octets) → (more : Octets) × (line_text p len ++ x ≡ line_start p.number ++ more)
unfolding line_text
starts p len x = (32 ∷ number_text len ++ (32 ∷ digest_text p.digest ++ (32 ∷ x)), simp append_assoc)

-- what a commit begins with
written_begins : (p : Point) (body : Octets) → Begins (written p body) (line_start (next_number p.number))
written_begins p body =
    let text : Octets = line_text (next_point p body) (length body) in
    let found = starts (next_point p body) (length body) (seal_of text ++ body) in
    begins_from (written p body) (line_start (next_number p.number)) found.0 (append_assoc text (seal_of text) body ∙ found.1)

-- a line of a commit begins with a tab
pub line_tab : (number : ℕ) (t : Octets) (place : ℕ) → IsOtherAt number t place → get_or t place 0 ≡ 9
line_tab number t place h =
    let line = h.line in
    let at : get_or (drop place t) 0 0 ≡ 9 = ap (λ (x : Octets). get_or x 0 0) (line.is ∙ ap (λ (x : Octets). (x ++ seal_of line.text) ++ line.rest) (begins_rest line.text _ line.begins)) in
    ap (λ (k : ℕ). get_or t k 0) (sym (add-zero place)) ∙ sym (get_or-drop place t 0 0) ∙ at

-- such a line is long
pub line_fits : (number : ℕ) (t : Octets) (place : ℕ) → IsOtherAt number t place → place + 179 ≤ length t
line_fits number t place h =
    let line = h.line in
    let a = ap length line.is in
    let b = length-append (sealed line.text) line.rest in
    let d = length-append line.text (seal_of line.text) in
    let e = length-seal_of line.text in
    let l = line.len_is in
    let f = length-drop place t in
    omega (arith, a, b, d, e, f, l)

-- a tab after the first octet
pub later_tab : (w more : Octets) (k : ℕ) → w ≡ 9 ∷ more → HasNoTab more → 0 < k → get_or w k 0 ≡ 9 → ⊥
later_tab w more zero is plain later tab = omega arith
later_tab w more (suc k) is plain later tab = plain k (sym (ap (λ (x : Octets). get_or x (suc k) 0) is) ∙ tab)

-- no line of another commit is in a cut one
cut_no_other_at : (p : Point) (body : Octets) (n k : ℕ) → HasNoTab body → IsOtherAt p.number (take n (written p body)) k → ⊥
cut_no_other_at p body n zero plain h =
    let w : Octets = written p body in
    let s : Octets = line_start (next_number p.number) in
    let fits = line_fits p.number (take n w) 0 h in
    let m = length-take n w in
    let len = length-line_start (next_number p.number) in
    let less : length s ≤ n = omega (arith, fits, m, len) in
    h.other refl (take-take (length s) n w less ∙ written_begins p body)
cut_no_other_at p body n (suc k) plain h =
    let w : Octets = written p body in
    let fits = line_fits p.number (take n w) (suc k) h in
    let m = length-take n w in
    let less : suc k < n = omega (arith, fits, m) in
    let first = tab_first p body plain in
    later_tab w first.0 (suc k) first.1 first.2 (omega arith) (sym (get_or-take n w (suc k) 0 less) ∙ line_tab p.number (take n w) (suc k) h)

cut_no_other : (p : Point) (body : Octets) (n : ℕ) → HasNoTab body → HasOther p.number (take n (written p body)) → ⊥
cut_no_other p body n plain h = cut_no_other_at p body n h.0 plain h.1

pub cut_torn : (p : Point) (body : Octets) (n : ℕ) → IsPlain body → n < length (written p body) → IsTorn p (take n (written p body))
cut_torn p body n plain less =
    record { no_next = cut_not_whole p body n plain.fits less; no_other = cut_no_other p body n plain.no_tab }

empty_torn : (p : Point) → IsTorn p []
empty_torn p =
    record {
      no_next = λ body rest e.
          let l = ap length e in
          let a = length-append (written p body) rest in
          let w = length-written p body in
          omega (arith, l, a, w);
      no_other = λ h. let within = other_within p.number [] h.0 h.1 in omega arith;
    }

below : (n m : ℕ) → (n < m) ⊎ (m ≤ n)
below n zero = inr (omega arith)
below zero (suc m) = inl (omega arith)
below (suc n) (suc m) = elim (below n m) [ inl l ↦ inl (omega arith) | inr r ↦ inr (omega arith) ]

take_past : (a b : Octets) (j n : ℕ) → length a + j ≡ n → take n (a ++ b) ≡ a ++ take j b
take_past [] b j n e =
    let same : n ≡ j = omega (arith, e) in
    ap (λ (k : ℕ). take k b) same
take_past (x ∷ xs) b j zero e = absurd (omega (arith, e))
take_past (x ∷ xs) b j (suc n) e = ap (λ (t : Octets). x ∷ t) (take_past xs b j n (omega (arith, e)))

-- the first of the commits, and what is left of the next one
pub record CutAt (p : Point) (bodies : List Octets) (text : Octets) : Type 0 where
  pub count : ℕ
  pub tail : Octets
  pub is : text ≡ written_all p (take count bodies) ++ tail
  pub torn : IsTorn (after p (take count bodies)) tail

cut_first : (p : Point) (body : Octets) (others : List Octets) (n : ℕ) → IsPlain body → n < length (written p body)
    → CutAt p (body ∷ others) (take n (written p body ++ written_all (next_point p body) others))
cut_first p body others n plain less =
    record {
      count = 0;
      tail = take n (written p body);
      is = take-append-le n (written p body) (written_all (next_point p body) others) (omega arith);
      torn = cut_torn p body n plain less;
    }

cut_later : (p : Point) (body : Octets) (others : List Octets) (n j : ℕ) → length (written p body) + j ≡ n
    → CutAt (next_point p body) others (take j (written_all (next_point p body) others))
    → CutAt p (body ∷ others) (take n (written p body ++ written_all (next_point p body) others))
cut_later p body others n j is cut =
    let w : Octets = written p body in
    let q = next_point p body in
    record {
      count = suc cut.count;
      tail = cut.tail;
      is = take_past w (written_all q others) j n is ∙ ap (λ (t : Octets). w ++ t) cut.is ∙ sym (append_assoc w (written_all q (take cut.count others)) cut.tail);
      torn = cut.torn;
    }

cut_all : (p : Point) (bodies : List Octets) (n : ℕ) → AllByRecursion IsPlain bodies → CutAt p bodies (take n (written_all p bodies))
cut_all p [] n plain = record { count = 0; tail = []; is = take_all n [] (omega arith); torn = empty_torn p }
cut_all p (body ∷ others) n plain =
    elim (below n (length (written p body))) [
      | inl less ↦ cut_first p body others n plain.0 less
      | inr past ↦ cut_later p body others n (n - length (written p body)) (omega arith)
          (cut_all (next_point p body) others (n - length (written p body)) plain.1)
    ]

pub cut_log : (p : Point) (bodies : List Octets) (n : ℕ) → AllByRecursion IsPlain bodies → length (log_head p) ≤ n
    → ReadsSome (take n (log_text p bodies)) p bodies
cut_log p bodies n plain past =
    let head : Octets = log_head p in
    let j = n - length head in
    let at : length head + j ≡ n = omega arith in
    let cut = cut_all p bodies j plain in (
      cut.count,
      cut.tail,
      record {
        is = take_past head (written_all p bodies) j n at ∙ ap (λ (t : Octets). head ++ t) cut.is ∙ sym (append_assoc head (written_all p (take cut.count bodies)) cut.tail);
        torn = cut.torn;
      },
    )

no_checkpoint : (p : Point) (n : ℕ) → Begins (take n (log_head p)) checkpoint_start → ⊥
unfolding head_text
no_checkpoint p zero h = let l = ap length h in omega (arith, l)
no_checkpoint p (suc n) h =
    let first : 115 ≡ 35 = ap (λ (t : Octets). get_or t 0 0) h in
    omega (arith, first)

pub cut_head : (p : Point) (n : ℕ) → length p.digest ≡ 32 → n < length (log_head p)
    → (Begins (take n (log_head p)) checkpoint_start → ⊥) × (HasHead (take n (log_head p)) → ⊥)
cut_head p n digest less = (
  no_checkpoint p n,
  λ h.
      let a = ap length h.is in
      let b = length-append (sealed h.text) h.rest in
      let d = length-append h.text (seal_of h.text) in
      let e = length-seal_of h.text in
      let l = h.len_is in
      let m = length-take n (log_head p) in
      let f = length-append (head_text p) (seal_of (head_text p)) in
      let g = length-seal_of (head_text p) in
      let k = length-head_text p digest in
      omega (arith, a, b, d, e, l, m, f, g, k, less),
)

line_starts : (p : Point) (len : ℕ) → Begins (line_text p len) (9 ∷ codes "commit ")
unfolding line_text line_start
line_starts p len = refl

pub damaged : (p q : Point) (before body rest : Octets) → 0 < length before → HasNoNext p (before ++ written q body ++ rest)
    → IsDamaged p (before ++ written q body ++ rest)
damaged p q before body rest later none =
    let text : Octets = line_text (next_point q body) (length body) in
    record {
      no_next = none;
      other = (
        length before,
        other_later p.number (before ++ written q body ++ rest) (length before)
            (record {
              text = text;
              rest = body ++ rest;
              is = ap (drop (length before)) (append_assoc before (written q body) rest) ∙ drop_at before (written q body ++ rest) (length before) refl
                  ∙ append_assoc (sealed text) body rest;
              begins = line_starts (next_point q body) (length body);
              len_is = length-line_text (next_point q body) (length body) (next_digest q body);
            }) later,
      );
    }
