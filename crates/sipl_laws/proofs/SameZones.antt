-- Where the random words of an event, records or the lines of a zone begin two texts, and the texts are equal, they are the same.
use Rattle.std.proofs.Common.{◌≡◌, ℕ, ◌^◌, ◌<◌, Bool, true, false, List, [], ◌∷◌, ◌++◌, length, Ok, refl, sym, ap, ◌∙◌, arith, append_assoc, codes, decimal}
use Rattle.std.specs.Prelude.{◌==◌, if◌then◌else◌}
use Rattle.std.specs.List.{AllByRecursion, flat_map}
use Rattle.std.proofs.lemmas.Bool.Decides.{nat_tests}
use Rattle.std.proofs.lemmas.List.{append_cancel_left}
use Rattle.sipl_names.specs.Labels.{Octets, Labels}
use Rattle.sipl_names.specs.NamePrint.{text_of}
use Rattle.sipl_records.specs.declared.record.Record.{Record}
use Rattle.sipl_masterfile.specs.RecordPrint.{IsRecord, record_text}
use Rattle.sipl_masterfile.specs.RecordText.{record_of}
use Rattle.sipl_masterfile.specs.Zones.{Zone}
use Rattle.sipl_book.specs.Words.{before_zeros, without_last_zeros}
use Rattle.sipl_lines.specs.ReplyText.{number_field}
use Rattle.sipl_lines.specs.CommandText.{listed_words, record_line, zone_lines}
use Rattle.sipl_laws.specs.Events.{IsLoadable}
use Rattle.sipl_laws.proofs.Cuts.{From, Opens, cut, from-append, from-lower, from-test}
use Rattle.sipl_laws.proofs.Octets.{from-decimal, from-record}
use Rattle.sipl_laws.proofs.SameLines.{joined, same-name, same-number}

-- random words

same-single : (w v : ℕ) (a b : Bool) → (w == 0) ≡ a → (v == 0) ≡ b → (if a then [] else w ∷ []) ≡ (if b then [] else v ∷ []) → w ≡ v
same-single w v true true first second is = grind (arith, nat_tests)
same-single w v true false first second is = absurd (let never = is in cc)
same-single w v false true first second is = absurd (let never = is in cc)
same-single w v false false first second is = let same = is in cc

not-single : {A : Type 0} (w v x : ℕ) (xs : List ℕ) (a : Bool) → (if a then [] else w ∷ []) ≡ v ∷ x ∷ xs → A
not-single w v x xs true is = absurd (let never = is in cc)
not-single w v x xs false is = absurd (let never = is in cc)

same-before : (w v : ℕ) (ws vs : List ℕ) → before_zeros w ws ≡ before_zeros v vs → (w ≡ v) × (ws ≡ vs)
same-before w v [] [] is = (same-single w v (w == 0) (v == 0) refl refl is, refl)
same-before w v [] (x ∷ xs) is = not-single w v x xs (w == 0) is
same-before w v (x ∷ xs) [] is = not-single v w x xs (v == 0) (sym is)
same-before w v (x ∷ xs) (y ∷ ys) is = (let same = is in cc, let same = is in cc)

-- as many words are the same where they are without the words of 0 at their end
pub same-words : (ws vs : List ℕ) → length ws ≡ length vs → without_last_zeros ws ≡ without_last_zeros vs → ws ≡ vs
same-words [] [] long is = refl
same-words [] (v ∷ vs) long is = absurd (omega (arith, long))
same-words (w ∷ ws) [] long is = absurd (omega (arith, long))
same-words (w ∷ ws) (v ∷ vs) long is =
    let parts = same-before w v (without_last_zeros ws) (without_last_zeros vs) is in
    let rest = same-words ws vs (omega (arith, long)) parts.1 in
    λ i. parts.0 i ∷ rest i

before-fit : (w : ℕ) (ws : List ℕ) (P : ℕ → Type 0) → P w → AllByRecursion P ws → AllByRecursion P (before_zeros w ws)
before-fit w [] P fits all = by (w == 0)
  where
    by : (b : Bool) → AllByRecursion P (if b then [] else w ∷ [])
    by true = tt
    by false = (fits, tt)
before-fit w (x ∷ ws) P fits all = (fits, all)

pub left-fit : (ws : List ℕ) (P : ℕ → Type 0) → AllByRecursion P ws → AllByRecursion P (without_last_zeros ws)
left-fit [] P all = tt
left-fit (w ∷ ws) P all = before-fit w (without_last_zeros ws) P all.0 (left-fit ws P all.1)

opens-more : (ws : List ℕ) → Opens 44 (flat_map (λ other. 44 ∷ decimal other) ws)
opens-more [] = tt
opens-more (w ∷ ws) = refl

same-more : (ws vs : List ℕ) → AllByRecursion (λ word. word < 2 ^ 32) ws → AllByRecursion (λ word. word < 2 ^ 32) vs → flat_map (λ other. 44 ∷ decimal other) ws ≡ flat_map (λ other. 44 ∷ decimal other) vs → ws ≡ vs
same-more [] [] all each is = refl
same-more [] (v ∷ vs) all each is = absurd (let never = is in cc)
same-more (w ∷ ws) [] all each is = absurd (let never = is in cc)
same-more (w ∷ ws) (v ∷ vs) all each is =
    let small = all.0 in
    let few = each.0 in
    let first = same-number w v 44 (flat_map (λ other. 44 ∷ decimal other) ws) (flat_map (λ other. 44 ∷ decimal other) vs) (omega arith) (omega (arith, small)) (omega (arith, few)) (opens-more ws) (opens-more vs) (let same = is in cc) in
    let rest = same-more ws vs all.1 each.1 first.1 in
    λ i. first.0 i ∷ rest i

pub same-listed : (ws vs : List ℕ) → AllByRecursion (λ word. word < 2 ^ 32) ws → AllByRecursion (λ word. word < 2 ^ 32) vs → listed_words ws ≡ listed_words vs → ws ≡ vs
same-listed [] [] all each is = refl
same-listed [] (v ∷ vs) all each is = absurd (let never = is in cc)
same-listed (w ∷ ws) [] all each is = absurd (let never = is in cc)
same-listed (w ∷ ws) (v ∷ vs) all each is =
    let more : Octets = flat_map (λ other. 44 ∷ decimal other) ws in
    let further : Octets = flat_map (λ other. 44 ∷ decimal other) vs in
    let small = all.0 in
    let few = each.0 in
    let first = same-number w v 44 more further (omega arith) (omega (arith, small)) (omega (arith, few)) (opens-more ws) (opens-more vs) (append_cancel_left (codes " words ") (decimal w ++ more) (decimal v ++ further) is) in
    let rest = same-more ws vs all.1 each.1 first.1 in
    λ i. first.0 i ∷ rest i

pub opens-listed : (ws : List ℕ) → Opens 32 (listed_words ws)
opens-listed [] = tt
opens-listed (w ∷ ws) = refl

pub from-listed : (ws : List ℕ) → AllByRecursion (λ word. word < 2 ^ 32) ws → From 32 (listed_words ws)
from-listed [] all = tt
from-listed (w ∷ ws) all =
    from-append 32 (codes " words" ++ number_field w) (flat_map (λ other. 44 ∷ decimal other) ws)
    (from-append 32 (codes " words") (number_field w) (from-test 32 (codes " words") refl) (omega arith, number w all.0)) (others ws all.1)
  where
    number : (n : ℕ) → n < 2 ^ 32 → From 32 (decimal n)
    number n small = from-lower 32 48 (decimal n) (omega arith) (from-decimal n (omega (arith, small)))

    others : (vs : List ℕ) → AllByRecursion (λ word. word < 2 ^ 32) vs → From 32 (flat_map (λ other. 44 ∷ decimal other) vs)
    others [] each = tt
    others (v ∷ vs) each = (omega arith, from-append 32 (decimal v) (flat_map (λ other. 44 ∷ decimal other) vs) (number v each.0) (others vs each.1))

-- records and zones

module _ (reads : (r : Record) (origin : Labels) → IsRecord r → record_of (record_text r) origin ≡ Ok r) where
  pub same-record : (one other : Record) (r q : Octets) → IsRecord one → IsRecord other → record_line one ++ r ≡ record_line other ++ q → (one ≡ other) × (r ≡ q)
  same-record one other r q is are same =
      let line : record_text one ++ 10 ∷ r ≡ record_text other ++ 10 ∷ q = sym (joined (record_text one) (10 ∷ []) r) ∙ same ∙ joined (record_text other) (10 ∷ []) q in
      let parts = cut 10 32 (omega arith) (record_text one) (record_text other) (10 ∷ r) (10 ∷ q) (from-record one is) (from-record other are) refl refl line in
      let read : Ok one ≡ Ok other = sym (reads one [] is) ∙ ap (λ text. record_of text []) parts.0 ∙ reads other [] are in
      (let same_one = read in cc, let rest = parts.1 in cc)

  same-records : (rs ss : List Record) (r q : Octets) → length rs ≡ length ss → AllByRecursion IsRecord rs → AllByRecursion IsRecord ss → flat_map record_line rs ++ r ≡ flat_map record_line ss ++ q → (rs ≡ ss) × (r ≡ q)
  same-records [] [] r q long all each is = (refl, is)
  same-records [] (s ∷ ss) r q long all each is = absurd (omega (arith, long))
  same-records (s ∷ rs) [] r q long all each is = absurd (omega (arith, long))
  same-records (a ∷ rs) (b ∷ ss) r q long all each is =
      let first = same-record a b (flat_map record_line rs ++ r) (flat_map record_line ss ++ q) all.0 each.0 (sym (joined (record_line a) (flat_map record_line rs) r) ∙ is ∙ joined (record_line b) (flat_map record_line ss) q) in
      let rest = same-records rs ss r q (omega (arith, long)) all.1 each.1 first.1 in
      (λ i. first.0 i ∷ rest.0 i, rest.1)

  zone-parts : (apex : Labels) (records : List Record) (r : Octets) → zone_lines apex records ++ r ≡ codes "zone " ++ (text_of apex ++ 32 ∷ (decimal (length records) ++ 10 ∷ (flat_map record_line records ++ r)))
  zone-parts apex records r = simp append_assoc

  pub same-zone : (z y : Zone) (r q : Octets) → IsLoadable z → IsLoadable y → zone_lines z.apex z.records ++ r ≡ zone_lines y.apex y.records ++ q → (z.apex ≡ y.apex) × (z.records ≡ y.records) × (r ≡ q)
  same-zone z y r q is are same =
      let line = append_cancel_left (codes "zone ") _ _ (sym (zone-parts z.apex z.records r) ∙ same ∙ zone-parts y.apex y.records q) in
      let first = same-name z.apex y.apex 32 _ _ (omega arith) is.apex are.apex refl refl line in
      let few = is.few in
      let small = are.few in
      let second = same-number (length z.records) (length y.records) 10 (10 ∷ (flat_map record_line z.records ++ r)) (10 ∷ (flat_map record_line y.records ++ q)) (omega arith) (omega (arith, few)) (omega (arith, small)) refl refl (let all = first.1 in cc) in
      let last = same-records z.records y.records r q second.0 is.records are.records (let all = second.1 in cc) in
      (first.0, last.0, last.1)
