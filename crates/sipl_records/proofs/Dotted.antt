-- A text of groups that is written from its end, over dots.
use Rattle.std.proofs.Common.{◌≡◌, ℕ, ◌+◌, ◌-◌, ◌/◌, ◌%◌, ◌^◌, length-append, ◌<◌, ◌≤◌, suc, List, [], ◌∷◌, ◌++◌, length, get_or, take, drop, sym, ap, ◌∙◌, arith, decimal, drop-cons, subst, append_assoc, append-nil, Result, Ok, Err, is_ok, if◌then◌else◌}
use Rattle.std.specs.Prelude.{OnOk}
use lib.ListN.{replicate}
use Rattle.std.proofs.lemmas.Fmt.{length-decimal-le}
use Rattle.sipl_records.specs.Ipv4.{text_of_number}
use Rattle.sipl_records.proofs.Groups.{rest_whole}
use Rattle.std.proofs.lemmas.List.{take-take, take-replicate, get_or-take, get_or-replicate}

-- an octet has at most three digits
pub octet_digits : (n : ℕ) → n < 256 → length (decimal n) ≤ 3
octet_digits n small = length-decimal-le 3 n (omega arith) (omega arith) (omega arith)

length-four : (a b c d : List ℕ) → length a ≤ 3 → length b ≤ 3 → length c ≤ 3 → length d ≤ 3 → length (a ++ 46 ∷ b ++ 46 ∷ c ++ 46 ∷ d) ≤ 15
length-four a b c d three_a three_b three_c three_d = simp length-append (omega arith)

-- four octets and three dots
pub length-text_of_number : (n : ℕ) → n < 2 ^ 32 → length (text_of_number n) ≤ 15
length-text_of_number n small =
    length-four (decimal (n / 16777216)) (decimal (n / 65536 % 256)) (decimal (n / 256 % 256)) (decimal (n % 256)) (octet_digits (n / 16777216) (omega arith)) (octet_digits (n / 65536 % 256) (omega arith)) (octet_digits (n / 256 % 256) (omega arith)) (octet_digits (n % 256) (omega arith))

-- dots before the end, and this text from there on
pub record IsDotted (end : ℕ) (tail text : List ℕ) : Type 0 where
  pub front : take end text ≡ replicate end 46
  pub back : drop end text ≡ tail
  pub within : end ≤ length text

-- digits written up to the end
pub written : (end start n : ℕ) (tail old new : List ℕ) → IsDotted end tail old → start + length (decimal n) ≡ end → drop start new ≡ decimal n ++ drop end old → take start new ≡ take start old → length new ≡ length old → IsDotted start (decimal n ++ tail) new
written end start n tail old new dotted ends after before same =
    let low : start ≤ end = omega arith in
    record {
      front = before ∙ sym (take-take start end old low) ∙ ap (take start) dotted.front ∙ take-replicate start end 46 low;
      back = after ∙ ap (λ t. decimal n ++ t) dotted.back;
      within = rw same (omega (arith, dotted.within));
    }

-- a dot of the front, taken to the text
pub with_dot : (end : ℕ) (tail text : List ℕ) → IsDotted (suc end) tail text → IsDotted end (46 ∷ tail) text
with_dot end tail text dotted =
    let dot : get_or text end 0 ≡ 46 = sym (get_or-take (suc end) text end 0 (omega arith)) ∙ ap (λ t. get_or t end 0) dotted.front ∙ get_or-replicate (suc end) end 46 0 (omega arith) in
    let within : end < length text = omega (arith, dotted.within) in
    record {
      front = sym (take-take end (suc end) text (omega arith)) ∙ ap (take end) dotted.front ∙ take-replicate end (suc end) 46 (omega arith);
      back = drop-cons text end 0 within ∙ ap (λ c. c ∷ drop (suc end) text) dot ∙ ap (λ t. 46 ∷ t) dotted.back;
      within = omega arith;
    }

-- a number written so that it ends at `end`, as `write_digits` says
pub record Writes (n end start : ℕ) (old new : List ℕ) : Type 0 where
  pub begins : start + length (decimal n) ≡ end
  pub digits : drop start new ≡ decimal n ++ drop end old
  pub before : take start new ≡ take start old
  pub length : length new ≡ length old

-- a group written before a text of groups, and the dot between them
next_group : (n end start begun : ℕ) (tail old new : List ℕ) → IsDotted begun tail old → suc end ≡ begun → Writes n end start old new → IsDotted start (decimal n ++ 46 ∷ tail) new
next_group n end start begun tail old new dotted one wrote =
    let here : IsDotted (suc end) tail old = subst (λ k. IsDotted k tail old) (sym one) dotted in
    written end start n (46 ∷ tail) old new (with_dot end tail old here) wrote.begins wrote.digits wrote.before wrote.length

-- four groups written from the last one on, over dots
pub groups_written : (a b c d first second third fourth : ℕ) (t0 t1 t2 t3 t4 : List ℕ) → a < 256 → b < 256 → c < 256 → d < 256 → length t0 ≡ 15 → IsDotted 15 [] t0 → Writes d 15 fourth t0 t1 → Writes c (fourth - 1) third t1 t2 → Writes b (third - 1) second t2 t3 → Writes a (second - 1) first t3 t4 → take (15 - first) (drop first t4) ≡ decimal a ++ 46 ∷ decimal b ++ 46 ∷ decimal c ++ 46 ∷ decimal d
groups_written a b c d first second third fourth t0 t1 t2 t3 t4 small_a small_b small_c small_d whole_buffer dots wrote_d wrote_c wrote_b wrote_a =
    let three_d : length (decimal d) ≤ 3 = octet_digits d small_d in
    let three_c : length (decimal c) ≤ 3 = octet_digits c small_c in
    let three_b : length (decimal b) ≤ 3 = octet_digits b small_b in
    let dotted_d = written 15 fourth d [] t0 t1 dots wrote_d.begins wrote_d.digits wrote_d.before wrote_d.length in
    let dotted_c = next_group c (fourth - 1) third fourth (decimal d ++ []) t1 t2 dotted_d (omega arith) wrote_c in
    let dotted_b = next_group b (third - 1) second third (decimal c ++ 46 ∷ (decimal d ++ [])) t2 t3 dotted_c (omega arith) wrote_b in
    let dotted_a = next_group a (second - 1) first second (decimal b ++ 46 ∷ (decimal c ++ 46 ∷ (decimal d ++ []))) t3 t4 dotted_b (omega arith) wrote_a in
    let size : length t4 ≡ 15 = wrote_a.length ∙ wrote_b.length ∙ wrote_c.length ∙ wrote_d.length ∙ whole_buffer in
    let whole : take (15 - first) (drop first t4) ≡ drop first t4 = subst (λ n. take (n - first) (drop first t4) ≡ drop first t4) size (rest_whole t4 first) in
    whole ∙ dotted_a.back ∙ simp (append_assoc, append-nil)

-- what is appended where the call returns Ok
pub appended : {E : Type 0} (r : Result (Unit {0}) E) (old added text : List ℕ) → added ≡ text → OnOk r ((if is_ok r then old ++ added else old) ≡ old ++ text)
appended (Ok u) old added text same = ap (λ t. old ++ t) same
appended (Err e) old added text same = tt
