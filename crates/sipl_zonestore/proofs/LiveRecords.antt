-- Records beside codes, some of which were removed.
use Rattle.std.proofs.Common.{◌≡◌, ℕ, zero, suc, ◌+◌, ◌≤◌, ◌<◌, Bool, true, false, not, ◌||◌, ◌&&◌, List, [], ◌∷◌, ◌++◌, length, take, drop, set, get_or, nat_eq, if◌then◌else◌, true≢false, refl, ap, sym, ◌∙◌, inl, inr, arith, append-nil}
use Rattle.std.specs.List.{drop-map, filter, list_any, take-map, SwappedAt}
use Rattle.std.proofs.lemmas.Bool.{cases_Bool}
use Rattle.std.proofs.lemmas.Bool.Decides.{nat_tests}
use Rattle.std.proofs.lemmas.List.{length-set, map-append, take_all, take_more, take-set-le, drop_more, drop-set-lt}
use Rattle.sipl_records.specs.declared.record.Record.{Record}
use Rattle.sipl_records.specs.Sets.{same_record}
use Rattle.sipl_records.proofs.Public.{same_record-Decides}
use Rattle.sipl_masterfile.specs.Zones.{has_repeats}
use Rattle.sipl_zonestore.specs.Edits.{records_without}
use Rattle.sipl_records.specs.Codes.{code_of_name}
use Rattle.sipl_zonestore.specs.RecordList.{codes_of, is_first, live}
use Rattle.sipl_zonestore.proofs.Elements.{or_left, or_right}

same-code : (n : ℕ) → nat_eq n n ≡ true
same-code n = grind (arith, nat_tests)

live-none : (records : List Record) → live records [] ≡ []
live-none [] = refl
live-none (r ∷ records) = refl

-- each record beside its own code is there
pub live-all : (records : List Record) → live records (codes_of records) ≡ records
live-all [] = refl
live-all (r ∷ records) = rw (same-code (code_of_name r.owner)) (ap (λ rest. r ∷ rest) (live-all records))

pub length-codes_of : (records : List Record) → length (codes_of records) ≡ length records
length-codes_of [] = refl
length-codes_of (r ∷ records) = ap suc (length-codes_of records)

pub live-le : (records : List Record) (codes : List ℕ) → length (live records codes) ≤ length records
live-le [] codes = omega arith
live-le (r ∷ records) [] = omega arith
live-le (r ∷ records) (code ∷ codes) = elim (cases_Bool (nat_eq code (code_of_name r.owner))) [
  | inl is ↦ rw is (omega (arith, live-le records codes))
  | inr other ↦ rw other (omega (arith, live-le records codes))
]

-- where as many are there as were, none was removed
pub live-whole : (records : List Record) (codes : List ℕ) → length (live records codes) ≡ length records → live records codes ≡ records
live-whole [] codes long = refl
live-whole (r ∷ records) [] long = absurd (omega arith)
live-whole (r ∷ records) (code ∷ codes) long = elim (cases_Bool (nat_eq code (code_of_name r.owner))) [
  | inl is ↦
      let rest : length (r ∷ live records codes) ≡ length (r ∷ records) = rw is at long in
      rw is (ap (λ rest. r ∷ rest) (live-whole records codes (omega arith)))
  | inr other ↦
      let rest : length (live records codes) ≡ length (r ∷ records) = rw other at long in
      absurd (omega (arith, live-le records codes))
]

equal_code : (code own : ℕ) → nat_eq code own ≡ true → code ≡ own
equal_code code own is = grind (arith, nat_tests)

-- where none was removed, the codes are those of the records
pub codes-whole : (records : List Record) (codes : List ℕ) → length codes ≡ length records → live records codes ≡ records → codes ≡ codes_of records
codes-whole [] [] long whole = refl
codes-whole [] (code ∷ codes) long whole = absurd (omega arith)
codes-whole (r ∷ records) [] long whole = absurd (omega arith)
codes-whole (r ∷ records) (code ∷ codes) long whole = elim (cases_Bool (nat_eq code (code_of_name r.owner))) [
  | inl is ↦
      let rest : live records codes ≡ records = ap tail_of (rw is at whole) in
      λ i. equal_code code (code_of_name r.owner) is i ∷ codes-whole records codes (omega arith) rest i
  | inr other ↦
      let shorter : live records codes ≡ r ∷ records = rw other at whole in
      absurd (omega (arith, live-le records codes, ap length shorter))
] where
  tail_of : List Record → List Record
  tail_of [] = []
  tail_of (first ∷ rest) = rest

-- a list of which a part was replaced, and its codes
pub codes-replaced : (xs ys : List Record) (start end : ℕ) → codes_of (take start xs ++ (ys ++ drop end xs)) ≡ take start (codes_of xs) ++ (codes_of ys ++ drop end (codes_of xs))
codes-replaced xs ys start end =
    map-append (λ r. code_of_name r.owner) (take start xs) (ys ++ drop end xs)
    ∙ (λ i. sym (take-map (λ (r : Record). code_of_name r.owner) start xs) i ++ (map-append (λ r. code_of_name r.owner) ys (drop end xs) ∙ ap (λ codes. codes_of ys ++ codes) (sym (drop-map (λ (r : Record). code_of_name r.owner) end xs))) i)

-- a record that is appended with its code
pub live-push : (records : List Record) (codes : List ℕ) (r : Record) → length codes ≡ length records → live (records ++ r ∷ []) (codes ++ code_of_name r.owner ∷ []) ≡ live records codes ++ r ∷ []
live-push [] [] r long = rw (same-code (code_of_name r.owner)) refl
live-push [] (code ∷ codes) r long = absurd (omega arith)
live-push (first ∷ records) [] r long = absurd (omega arith)
live-push (first ∷ records) (code ∷ codes) r long = elim (cases_Bool (nat_eq code (code_of_name first.owner))) [
  | inl is ↦ rw is (ap (λ rest. first ∷ rest) (live-push records codes r (omega arith)))
  | inr other ↦ rw other (live-push records codes r (omega arith))
]

-- a search goes on within the list
pub sought-within : (s : Record) (records : List Record) (codes : List ℕ) (p : ℕ) → list_any (same_record s) (live (drop p records) (drop p codes)) ≡ true → p < length records
sought-within s [] codes zero any = cc
sought-within s [] codes (suc p) any = cc
sought-within s (r ∷ records) codes zero any = omega arith
sought-within s (r ∷ records) [] (suc p) any =
    let none : false ≡ true = rw (live-none (drop p records)) at any in cc
sought-within s (r ∷ records) (code ∷ codes) (suc p) any = omega (arith, sought-within s records codes p any)

or-false : (a b : Bool) → (a || b) ≡ true → a ≡ false → b ≡ true
or-false false b is not_so = is
or-false true b is not_so = cc

first-not : (s r : Record) (code : ℕ) → (nat_eq code (code_of_name s.owner) && same_record s r) ≡ false → nat_eq code (code_of_name r.owner) ≡ true → same_record s r ≡ false
first-not s r code not_so is = elim (cases_Bool (same_record s r)) [
  | inl same ↦
      let one : s ≡ r = (same_record-Decides s r).0 same in
      let both : (nat_eq code (code_of_name s.owner) && same_record s r) ≡ true = rw (same, ap (λ r. nat_eq code (code_of_name r.owner)) one, is) refl in
      let never : true ≡ false = sym both ∙ not_so in cc
  | inr other ↦ other
]

-- the search goes on past a record that is not the one
pub sought-later : (s : Record) (records : List Record) (codes : List ℕ) (p : ℕ) → is_first s (drop p records) (drop p codes) ≡ false → list_any (same_record s) (live (drop p records) (drop p codes)) ≡ true → list_any (same_record s) (live (drop (suc p) records) (drop (suc p) codes)) ≡ true
sought-later s [] codes zero not_so any = cc
sought-later s [] codes (suc p) not_so any = cc
sought-later s (r ∷ records) [] zero not_so any = cc
sought-later s (r ∷ records) (code ∷ codes) zero not_so any = elim (cases_Bool (nat_eq code (code_of_name r.owner))) [
  | inl is ↦
      let there : (same_record s r || list_any (same_record s) (live records codes)) ≡ true = rw is at any in
      or-false (same_record s r) (list_any (same_record s) (live records codes)) there (first-not s r code not_so is)
  | inr other ↦ rw other at any
]
sought-later s (r ∷ records) [] (suc p) not_so any =
    let none : false ≡ true = rw (live-none (drop p records)) at any in cc
sought-later s (r ∷ records) (code ∷ codes) (suc p) not_so any = sought-later s records codes p not_so any

without-none : (p : Record → Bool) (records : List Record) → list_any p records ≡ false → filter (λ r. not (p r)) records ≡ records
without-none p [] none = refl
without-none p (r ∷ records) none =
    rw (or_left (p r) (list_any p records) none) (ap (λ rest. r ∷ rest) (without-none p records (or_right (p r) (list_any p records) none)))

or-true : (b : Bool) → (b || true) ≡ true
or-true true = refl
or-true false = refl

same-self : (s : Record) → same_record s s ≡ true
same-self s = (same_record-Decides s s).1 refl

and-left : (a b : Bool) → (a && b) ≡ true → a ≡ true
and-left true b is = refl
and-left false b is = cc

and-right : (a b : Bool) → b ≡ false → (a && b) ≡ false
and-right true b not_so = not_so
and-right false b not_so = refl

first-none : (s : Record) (rest : List Record) → is_first s rest [] ≡ true → ⊥
first-none s [] is = true≢false (sym is)
first-none s (r ∷ rest) is = true≢false (sym is)

-- the record is the first, and was not removed
pub first-is : (s : Record) (records : List Record) (codes : List ℕ) (p : ℕ) → is_first s (drop p records) (drop p codes) ≡ true → list_any (same_record s) (live (drop p records) (drop p codes)) ≡ true
first-is s [] codes zero is = cc
first-is s [] codes (suc p) is = cc
first-is s (r ∷ records) [] zero is = cc
first-is s (r ∷ records) (code ∷ codes) zero is = elim (cases_Bool (same_record s r)) [
  | inl same ↦
      let coded : nat_eq code (code_of_name s.owner) ≡ true = and-left (nat_eq code (code_of_name s.owner)) (same_record s r) is in
      rw (ap (λ r. nat_eq code (code_of_name r.owner)) (sym ((same_record-Decides s r).0 same)), coded, same) refl
  | inr other ↦
      let never : true ≡ false = sym is ∙ and-right (nat_eq code (code_of_name s.owner)) (same_record s r) other in cc
]
first-is s (r ∷ records) [] (suc p) is = absurd (first-none s (drop p records) is)
first-is s (r ∷ records) (code ∷ codes) (suc p) is = first-is s records codes p is

past : (s : Record) (records : List Record) (codes : List ℕ) (p : ℕ) → list_any (same_record s) (live (drop p records) (drop p codes)) ≡ true → list_any (same_record s) (live records codes) ≡ true
past s records codes zero any = any
past s [] codes (suc p) any = cc
past s (r ∷ records) [] (suc p) any =
    let none : false ≡ true = rw (live-none (drop p records)) at any in cc
past s (r ∷ records) (code ∷ codes) (suc p) any = elim (cases_Bool (nat_eq code (code_of_name r.owner))) [
  | inl is ↦ rw (is, past s records codes p any) (or-true (same_record s r))
  | inr other ↦ rw other (past s records codes p any)
]

-- where another code is written at the record's place, it is not there, and all others are
pub live-without : (s : Record) (records : List Record) (codes : List ℕ) (p c : ℕ) → nat_eq c (code_of_name s.owner) ≡ false → has_repeats (live records codes) ≡ false → is_first s (drop p records) (drop p codes) ≡ true → live records (set codes p c) ≡ records_without s (live records codes)
live-without s [] codes p c other distinct at = refl
live-without s (r ∷ records) [] zero c other distinct at = cc
live-without s (r ∷ records) [] (suc p) c other distinct at = refl
live-without s (r ∷ records) (code ∷ codes) zero c other distinct at = elim (cases_Bool (same_record s r)) [
  | inl same ↦
      let one : s ≡ r = (same_record-Decides s r).0 same in
      let coded : nat_eq code (code_of_name r.owner) ≡ true = ap (λ r. nat_eq code (code_of_name r.owner)) (sym one) ∙ and-left (nat_eq code (code_of_name s.owner)) (same_record s r) at in
      let gone : nat_eq c (code_of_name r.owner) ≡ false = ap (λ r. nat_eq c (code_of_name r.owner)) (sym one) ∙ other in
      let once : (list_any (same_record r) (live records codes) || has_repeats (live records codes)) ≡ false = rw coded at distinct in
      let none : list_any (same_record s) (live records codes) ≡ false = ap (λ s. list_any (same_record s) (live records codes)) one ∙ or_left (list_any (same_record r) (live records codes)) (has_repeats (live records codes)) once in
      rw (coded, gone, same) (sym (without-none (same_record s) (live records codes) none))
  | inr differs ↦
      let never : true ≡ false = sym at ∙ and-right (nat_eq code (code_of_name s.owner)) (same_record s r) differs in cc
]
live-without s (r ∷ records) (code ∷ codes) (suc p) c other distinct at = elim (cases_Bool (nat_eq code (code_of_name r.owner))) [
  | inl is ↦
      let once : (list_any (same_record r) (live records codes) || has_repeats (live records codes)) ≡ false = rw is at distinct in
      let there : list_any (same_record s) (live records codes) ≡ true = past s records codes p (first-is s records codes p at) in
      let differs : same_record s r ≡ false = apart (same_record s r) (λ same. sym there ∙ ap (λ s. list_any (same_record s) (live records codes)) ((same_record-Decides s r).0 same) ∙ or_left (list_any (same_record r) (live records codes)) (has_repeats (live records codes)) once) in
      rw (is, differs) (ap (λ rest. r ∷ rest) (live-without s records codes p c other (or_right (list_any (same_record r) (live records codes)) (has_repeats (live records codes)) once) at))
  | inr not_there ↦
      let rest : has_repeats (live records codes) ≡ false = rw not_there at distinct in
      rw not_there (live-without s records codes p c other rest at)
] where
  apart : (b : Bool) → (b ≡ true → true ≡ false) → b ≡ false
  apart true never = absurd (true≢false (never refl))
  apart false never = refl

-- and there is one record less
pub length-without : (s : Record) (records : List Record) (codes : List ℕ) (p c : ℕ) → nat_eq c (code_of_name s.owner) ≡ false → is_first s (drop p records) (drop p codes) ≡ true → length (live records codes) ≡ suc (length (live records (set codes p c)))
length-without s [] codes zero c other at = cc
length-without s [] codes (suc p) c other at = cc
length-without s (r ∷ records) [] zero c other at = cc
length-without s (r ∷ records) [] (suc p) c other at = absurd (first-none s (drop p records) at)
length-without s (r ∷ records) (code ∷ codes) zero c other at = elim (cases_Bool (same_record s r)) [
  | inl same ↦
      let one : s ≡ r = (same_record-Decides s r).0 same in
      let coded : nat_eq code (code_of_name r.owner) ≡ true = ap (λ r. nat_eq code (code_of_name r.owner)) (sym one) ∙ and-left (nat_eq code (code_of_name s.owner)) (same_record s r) at in
      let gone : nat_eq c (code_of_name r.owner) ≡ false = ap (λ r. nat_eq c (code_of_name r.owner)) (sym one) ∙ other in
      rw (coded, gone) refl
  | inr differs ↦
      let never : true ≡ false = sym at ∙ and-right (nat_eq code (code_of_name s.owner)) (same_record s r) differs in cc
]
length-without s (r ∷ records) (code ∷ codes) (suc p) c other at = elim (cases_Bool (nat_eq code (code_of_name r.owner))) [
  | inl is ↦ rw is (ap suc (length-without s records codes p c other at))
  | inr not_there ↦ rw not_there (length-without s records codes p c other at)
]

-- ys began as xs. What was not removed of the first i of xs stands in the first k places of ys, and from i on ys is as it was
pub record LiveInPlace (xs : List Record) (codes : List ℕ) (ys : List Record) (k i : ℕ) : Type 0 where
  pub front : take k ys ≡ live (take i xs) (take i codes)
  pub rest : drop i ys ≡ drop i xs
  pub behind : k ≤ i
  pub long : length ys ≡ length xs

abbrev one : Record → ℕ → List Record
one r code = if nat_eq code (code_of_name r.owner) then r ∷ [] else []

live-suc : (xs : List Record) (codes : List ℕ) (i c : ℕ) (x : Record) → i < length xs → length codes ≡ length xs → live (take (suc i) xs) (take (suc i) codes) ≡ live (take i xs) (take i codes) ++ one (get_or xs i x) (get_or codes i c)
live-suc [] codes i c x lt long = absurd (omega arith)
live-suc (r ∷ xs) [] i c x lt long = absurd (omega arith)
live-suc (r ∷ xs) (code ∷ codes) zero c x lt long = refl
live-suc (r ∷ xs) (code ∷ codes) (suc i) c x lt long = elim (cases_Bool (nat_eq code (code_of_name r.owner))) [
  | inl is ↦ rw is (ap (λ rest. r ∷ rest) (live-suc xs codes i c x (omega arith) (omega arith)))
  | inr other ↦ rw other (live-suc xs codes i c x (omega arith) (omega arith))
]

module _ {xs : List Record} {codes : List ℕ} {ys : List Record} {k i : ℕ} where
  both : {x : Record} → LiveInPlace xs codes ys k i → i < length ys → x ≡ get_or ys i x → x ∷ drop (i + 1) ys ≡ get_or xs i x ∷ drop (i + 1) xs
  both {x} h lt is = let long = h.long in ap (λ y. y ∷ drop (i + 1) ys) is ∙ sym (drop_more ys i x lt) ∙ h.rest ∙ drop_more xs i x (omega arith)

  step : {x : Record} (c : ℕ) → LiveInPlace xs codes ys k i → length codes ≡ length xs → i < length ys → x ≡ get_or ys i x → live (take (i + 1) xs) (take (i + 1) codes) ≡ take k ys ++ one x (get_or codes i c)
  step {x} c h coded lt is =
      let long = h.long in
      let next : i + 1 ≡ suc i = omega arith in
      let read : get_or xs i x ≡ x = sym (ap (λ l. get_or l 0 x) (both h lt is)) in
      (λ t. live (take (next t) xs) (take (next t) codes)) ∙ live-suc xs codes i c x (omega arith) coded ∙ (λ t. sym h.front t ++ one (read t) (get_or codes i c))

  pub LiveInPlace-no : {x : Record} (c : ℕ) → LiveInPlace xs codes ys k i → length codes ≡ length xs → i < length ys → x ≡ get_or ys i x → nat_eq (get_or codes i c) (code_of_name x.owner) ≡ false → LiveInPlace xs codes ys k (i + 1)
  LiveInPlace-no {x} c h coded lt is not_so =
      let behind = h.behind in
      let none : one x (get_or codes i c) ≡ [] = rw not_so refl in
      record { front = sym (step c h coded lt is ∙ ap (λ l. take k ys ++ l) none ∙ append-nil (take k ys)); rest = ap (drop 1) (both h lt is); behind = omega arith; long = h.long }

  pub LiveInPlace-swap : {x : Record} {zs : List Record} (c : ℕ) → LiveInPlace xs codes ys k i → length codes ≡ length xs → i < length ys → x ≡ get_or ys i x → nat_eq (get_or codes i c) (code_of_name x.owner) ≡ true → SwappedAt ys zs k i → LiveInPlace xs codes zs (k + 1) (i + 1)
  LiveInPlace-swap {x} {zs} c h coded lt is so s =
      let behind = h.behind in
      let all : one x (get_or codes i c) ≡ x ∷ [] = rw so refl in
      let a = get_or ys i x in
      let b = get_or ys k x in
      let sets = s.3 x in
      let long : length zs ≡ length ys = ap length sets ∙ length-set (set ys k a) i b ∙ length-set ys k a in
      let front : take k zs ≡ take k ys = ap (take k) sets ∙ take-set-le k (set ys k a) i b behind ∙ take-set-le k ys k a (omega arith) in
      let here : get_or zs k x ≡ x = s.0 x ∙ sym is in
      let rest : drop (i + 1) zs ≡ drop (i + 1) ys = ap (drop (i + 1)) sets ∙ drop-set-lt (i + 1) (set ys k a) i b (omega arith) ∙ drop-set-lt (i + 1) ys k a (omega arith) in
      record {
        front = take_more zs k x (omega arith) ∙ (λ t. front t ++ here t ∷ []) ∙ sym (step c h coded lt is ∙ ap (λ l. take k ys ++ l) all);
        rest = rest ∙ ap (drop 1) (both h lt is);
        behind = omega arith;
        long = long ∙ h.long;
      }

-- at the end
pub LiveInPlace-all : {xs : List Record} {codes : List ℕ} {ys : List Record} {k i : ℕ} → LiveInPlace xs codes ys k i → length codes ≡ length xs → length xs ≤ i → take k ys ≡ live xs codes
LiveInPlace-all {xs} {codes} {ys} {k} {i} h coded le = h.front ∙ (λ t. live (take_all i xs le t) (take_all i codes (omega arith) t))

pub equal-codes : (a b : ℕ) → a ≡ b → nat_eq a b ≡ true
equal-codes a b same = grind (arith, nat_tests)

pub other-codes : (a b : ℕ) → (a ≡ b → ⊥) → nat_eq a b ≡ false
other-codes a b other = grind (arith, nat_tests)

pub sought-next : (s : Record) (records : List Record) (codes : List ℕ) (p : ℕ) → is_first s (drop p records) (drop p codes) ≡ false → list_any (same_record s) (live (drop p records) (drop p codes)) ≡ true → list_any (same_record s) (live (drop (p + 1) records) (drop (p + 1) codes)) ≡ true
sought-next s records codes p other any =
    let next : p + 1 ≡ suc p = omega arith in
    ap (λ n. list_any (same_record s) (live (drop n records) (drop n codes))) next ∙ sought-later s records codes p other any

first-code : (s : Record) (records : List Record) (codes : List ℕ) (p d : ℕ) → is_first s (drop p records) (drop p codes) ≡ true → get_or codes p d ≡ code_of_name s.owner
first-code s [] codes zero d is = cc
first-code s [] codes (suc p) d is = cc
first-code s (r ∷ records) [] zero d is = cc
first-code s (r ∷ records) [] (suc p) d is = absurd (first-none s (drop p records) is)
first-code s (r ∷ records) (code ∷ codes) zero d is =
    codes-equal code (code_of_name s.owner) (and-left (nat_eq code (code_of_name s.owner)) (same_record s r) is) where
      codes-equal : (a b : ℕ) → nat_eq a b ≡ true → a ≡ b
      codes-equal a b same = grind (arith, nat_tests)
first-code s (r ∷ records) (code ∷ codes) (suc p) d is = first-code s records codes p d is

-- a code other than that at the record's place is not that of its owner
pub not-its-code : (s : Record) (records : List Record) (codes : List ℕ) (p c d : ℕ) → is_first s (drop p records) (drop p codes) ≡ true → d ≡ get_or codes p d → nat_eq c d ≡ false → nat_eq c (code_of_name s.owner) ≡ false
not-its-code s records codes p c d is here other = ap (nat_eq c) (sym (here ∙ first-code s records codes p d is)) ∙ other
