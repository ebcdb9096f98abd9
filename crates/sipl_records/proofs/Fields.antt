-- The first field of a line, and the rest after it.
use Rattle.std.proofs.Common.{◌≡◌, ℕ, nat_lt, ◌+◌, ◌<◌, ◌≤◌, Bool, true, false, cond, not, Option, Some, None, List, [], ◌∷◌, ◌++◌, length, take, drop, unwrap_or, refl, ap, sym, ◌∙◌, ◌⊎◌, inl, inr, arith}
use Rattle.std.specs.List.{position_or_len, filter, slice_split, onto_first}
use Rattle.std.proofs.lemmas.Bool.{cases_Bool, false_from_ne_true}
use Rattle.memchr.specs.Find.{IsFirstByte}
use Rattle.std.proofs.lemmas.List.Sums.{position_or_len_is}
use Rattle.std.proofs.lemmas.Grind.{common_steps}
use Rattle.std.proofs.lemmas.Bool.Decides.{nat_tests}
use Rattle.sipl_records.specs.Fields.{is_wsp, trim_start, before_wsp, from_wsp, after_field, prepend_octet, fields_of}

take-one : (n c : ℕ) (line : List ℕ) → take (1 + n) (c ∷ line) ≡ c ∷ take n line
take-one n c line = grind (arith, common_steps)

drop-one : (n c : ℕ) (line : List ℕ) → drop (1 + n) (c ∷ line) ≡ drop n line
drop-one n c line = grind (arith, common_steps)

before_wsp-step : (wsp : Bool) (c n : ℕ) (front line : List ℕ) → front ≡ take n line → cond wsp [] (c ∷ front) ≡ take (cond (not wsp) (1 + n) 0) (c ∷ line)
before_wsp-step true c n front line e = refl
before_wsp-step false c n front line e = ap (λ rest. c ∷ rest) e ∙ sym (take-one n c line)

from_wsp-step : (wsp : Bool) (c n : ℕ) (back line : List ℕ) → back ≡ drop n line → cond wsp (c ∷ line) back ≡ drop (cond (not wsp) (1 + n) 0) (c ∷ line)
from_wsp-step true c n back line e = refl
from_wsp-step false c n back line e = e ∙ sym (drop-one n c line)

-- the first white space, by its index
pub before_wsp-is : (line : List ℕ) → before_wsp line ≡ take (position_or_len is_wsp line) line
before_wsp-is [] = refl
before_wsp-is (c ∷ line) = before_wsp-step (is_wsp c) c _ _ line (before_wsp-is line)

pub from_wsp-is : (line : List ℕ) → from_wsp line ≡ drop (position_or_len is_wsp line) line
from_wsp-is [] = refl
from_wsp-is (c ∷ line) = from_wsp-step (is_wsp c) c _ _ line (from_wsp-is line)

-- a line split at its first white space is that line
pub before_wsp-append : (line : List ℕ) → before_wsp line ++ from_wsp line ≡ line
before_wsp-append [] = refl
before_wsp-append (c ∷ line) = elim (cases_Bool (is_wsp c)) [ inl wsp ↦ rw wsp refl | inr octet ↦ rw octet (ap (λ rest. c ∷ rest) (before_wsp-append line)) ]

pub length-from_wsp-le : (line : List ℕ) → length (from_wsp line) ≤ length line
length-from_wsp-le [] = omega arith
length-from_wsp-le (c ∷ line) = elim (cases_Bool (is_wsp c)) [ inl wsp ↦ rw wsp (omega arith) | inr octet ↦ rw octet (omega (arith, length-from_wsp-le line)) ]

pub length-trim_start-le : (line : List ℕ) → length (trim_start line) ≤ length line
length-trim_start-le [] = omega arith
length-trim_start-le (c ∷ line) = elim (cases_Bool (is_wsp c)) [ inl wsp ↦ rw wsp (omega (arith, length-trim_start-le line)) | inr octet ↦ rw octet (omega arith) ]

-- white space before the first field changes no field
pub fields_of-trim_start : (line : List ℕ) → fields_of (trim_start line) ≡ fields_of line
fields_of-trim_start [] = refl
fields_of-trim_start (c ∷ line) = elim (cases_Bool (is_wsp c)) [ inl wsp ↦ rw wsp (fields_of-trim_start line) | inr octet ↦ rw octet (rw octet refl) ]

prepend_octet-wsp : (c next : ℕ) (line : List ℕ) (fields : List (List ℕ)) → is_wsp next ≡ true → prepend_octet c (next ∷ line) fields ≡ (c ∷ []) ∷ fields
prepend_octet-wsp c next line [] wsp = refl
prepend_octet-wsp c next line (field ∷ fields) wsp = rw wsp refl

-- an octet of a field prepended to a line: the field that it begins, and those after it
prepend_octet-is : (c : ℕ) (line : List ℕ) → prepend_octet c line (fields_of line) ≡ (c ∷ before_wsp line) ∷ fields_of (from_wsp line)
prepend_octet-is c [] = refl
prepend_octet-is c (next ∷ line) = elim (cases_Bool (is_wsp next)) [
  | inl wsp ↦ rw wsp (rw wsp (prepend_octet-wsp c next line (fields_of line) wsp))
  | inr octet ↦ rw octet (rw (prepend_octet-is next line) (rw octet refl))
]

-- a line that begins with a field: that field, and those after it
pub fields_of-octet : (c : ℕ) (line : List ℕ) → is_wsp c ≡ false → fields_of (c ∷ line) ≡ before_wsp (c ∷ line) ∷ fields_of (from_wsp (c ∷ line))
fields_of-octet c line octet = rw octet (prepend_octet-is c line)

-- the index that a search for white space finds, or the end of the line
pub position_or_len-found : (line : List ℕ) (r : Option ℕ) → IsFirstByte is_wsp line r → unwrap_or r (length line) ≡ position_or_len is_wsp line
position_or_len-found line None none =
    sym (position_or_len_is is_wsp line (length line) 0 (omega arith) (λ k below. false_from_ne_true _ (none k (omega arith) below)) (λ past. absurd (omega arith)))
position_or_len-found line (Some end) found =
    sym (position_or_len_is is_wsp line end 0 (omega (arith, found.0.high)) (λ k below. false_from_ne_true _ (found.0.before k (omega arith) below)) (λ within. found.1))

-- a line without white space at its start is empty, or begins with an octet of a field
trim_start-cases : (line : List ℕ) → (trim_start line ≡ []) ⊎ ((c : ℕ) × (rest : List ℕ) × (trim_start line ≡ c ∷ rest) × (is_wsp c ≡ false))
trim_start-cases [] = inl refl
trim_start-cases (c ∷ line) = elim (cases_Bool (is_wsp c)) [ inl wsp ↦ rw wsp (trim_start-cases line) | inr octet ↦ rw octet (inr (c, line, refl, octet)) ]

-- a line with a field: its first field, and those after it
pub fields_of-first : (line : List ℕ) → 0 < length (trim_start line) → fields_of line ≡ before_wsp (trim_start line) ∷ fields_of (after_field line)
fields_of-first line some = elim (trim_start-cases line) [
  | inl none ↦ absurd (omega (arith, ap length none))
  | inr first ↦ sym (fields_of-trim_start line) ∙ rw first.2 (fields_of-octet first.0 first.1 first.3)
]

-- the rest after a field is shorter than the line
pub length-after_field-lt : (line : List ℕ) → 0 < length (trim_start line) → length (after_field line) < length line
length-after_field-lt line some = elim (trim_start-cases line) [
  | inl none ↦ absurd (omega (arith, ap length none))
  | inr first ↦ rw first.2 (rw first.3 (omega (arith, ap length first.2, length-from_wsp-le first.1, length-trim_start-le line)))
]

-- whether a part has an octet
abbrev pub is_field : List ℕ → Bool
is_field part = nat_lt 0 (length part)

filter-some : (c : ℕ) (part : List ℕ) (others : List (List ℕ)) → filter is_field ((c ∷ part) ∷ others) ≡ (c ∷ part) ∷ filter is_field others
filter-some c part others =
    let some : is_field (c ∷ part) ≡ true = grind (arith, nat_tests) in
    rw some refl

prepend_after-field : (c next : ℕ) (line : List ℕ) (others fields : List (List ℕ)) → is_wsp next ≡ false → fields ≡ filter is_field (onto_first next others) → prepend_octet c (next ∷ line) fields ≡ filter is_field (onto_first c (onto_first next others))
prepend_after-field c next line [] fields octet is = rw is (rw octet refl)
prepend_after-field c next line (part ∷ others) fields octet is =
    ap (prepend_octet c (next ∷ line)) (is ∙ filter-some next part others) ∙ rw octet (sym (filter-some c (next ∷ part) others))

prepend_parts : (c : ℕ) (line : List ℕ) → fields_of line ≡ filter is_field (slice_split is_wsp line) → prepend_octet c line (fields_of line) ≡ filter is_field (onto_first c (slice_split is_wsp line))
prepend_parts c [] is = refl
prepend_parts c (next ∷ line) is = elim (cases_Bool (is_wsp next)) [
  | inl wsp ↦ let rest : fields_of line ≡ filter is_field (slice_split is_wsp line) = rw wsp at is in prepend_octet-wsp c next line (fields_of (next ∷ line)) wsp ∙ rw wsp (ap (λ fields. (c ∷ []) ∷ fields) rest)
  | inr octet ↦ prepend_after-field c next line (slice_split is_wsp line) (fields_of (next ∷ line)) octet (is ∙ rw octet refl) ∙ rw octet refl
]

-- the fields are the parts between white space that have an octet
pub fields_of-slice_split : (line : List ℕ) → fields_of line ≡ filter is_field (slice_split is_wsp line)
fields_of-slice_split [] = refl
fields_of-slice_split (c ∷ line) = elim (cases_Bool (is_wsp c)) [
  | inl wsp ↦ rw wsp (fields_of-slice_split line)
  | inr octet ↦ rw octet (prepend_parts c line (fields_of-slice_split line))
]
