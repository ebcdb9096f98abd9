-- Names with their ancestors, and counts of what is within them.
use Rattle.std.proofs.Common.{◌≡◌, ℕ, ◌+◌, ◌<◌, ◌≤◌, Bool, true, false, not, ◌||◌, List, [], ◌∷◌, ◌++◌, cond, length, nat_eq, refl, ap, sym, ◌∙◌, inl, inr, arith, length-append}
use Rattle.std.specs.List.{count_by, filter, list_any}
use Rattle.std.proofs.lemmas.Bool.{cases_Bool}
use Rattle.std.proofs.lemmas.Bool.Decides.{nat_tests}
use Rattle.std.proofs.lemmas.List.Sums.{count_by-le-length, sum_by-append}
use Rattle.sipl_names.specs.Labels.{Labels, is_within, same_name}
use Rattle.sipl_names.proofs.Public.{is_within-suffix, same_name_decides}
use Rattle.sipl_records.specs.Sets.{exists_in}
use Rattle.sipl_records.specs.Unique.{unique}
use Rattle.sipl_records.specs.declared.record.Record.{Record}
use Rattle.sipl_records.proofs.Public.{same_name-sym}
use Rattle.sipl_zonestore.specs.Changes.{with_ancestors}
use Rattle.sipl_zonestore.specs.NameTable.{count_within}
use Rattle.sipl_zonestore.proofs.Elements.{or_right}

-- ---- counts

count-one : {X : Type 0} (p : X → Bool) (x : X) → count_by p (x ∷ []) ≡ cond (p x) 1 0
count-one p x = elim (cases_Bool (p x)) [ inl holds ↦ rw holds refl | inr fails ↦ rw fails refl ]

pub count-append : {X : Type 0} (p : X → Bool) (xs ys : List X) → count_by p (xs ++ ys) ≡ count_by p xs + count_by p ys
count-append p xs ys = sum_by-append (λ x. cond (p x) 1 0) xs ys

pub count-cons : {X : Type 0} (p : X → Bool) (x : X) (xs : List X) → count_by p (x ∷ xs) ≡ cond (p x) 1 0 + count_by p xs
count-cons p x xs = count-append p (x ∷ []) xs ∙ ap (λ n. n + count_by p xs) (count-one p x)

pub count-push : {X : Type 0} (p : X → Bool) (xs : List X) (x : X) → count_by p (xs ++ x ∷ []) ≡ count_by p xs + cond (p x) 1 0
count-push p xs x = count-append p xs (x ∷ []) ∙ ap (λ n. count_by p xs + n) (count-one p x)

-- those that pass a test, and the others
pub count-parts : {X : Type 0} (p q : X → Bool) (xs : List X) → count_by p xs ≡ count_by p (filter q xs) + count_by p (filter (λ x. not (q x)) xs)
count-parts p q [] = refl
count-parts p q (x ∷ xs) = elim (cases_Bool (q x)) [
  | inl kept ↦ rw kept (omega (arith, count-cons p x xs, count-parts p q xs, count-cons p x (filter q xs)))
  | inr left ↦ rw left (omega (arith, count-cons p x xs, count-parts p q xs, count-cons p x (filter (λ x. not (q x)) xs)))
]

is_zero : (n : ℕ) → n ≡ 0 → nat_eq n 0 ≡ true
is_zero n none = grind (arith, nat_tests)

is_more : (n : ℕ) → 0 < n → nat_eq n 0 ≡ false
is_more n some = grind (arith, nat_tests)

-- some element passes where the count is not 0
pub count-any : {X : Type 0} (p : X → Bool) (xs : List X) → nat_eq (count_by p xs) 0 ≡ not (list_any p xs)
count-any p [] = is_zero (count_by p []) refl
count-any p (x ∷ xs) = ap (λ n. nat_eq n 0) (count-cons p x xs) ∙ by_case (p x) (count-any p xs) where
  by_case : (b : Bool) → nat_eq (count_by p xs) 0 ≡ not (list_any p xs) → nat_eq (cond b 1 0 + count_by p xs) 0 ≡ not (b || list_any p xs)
  by_case true rest = is_more (1 + count_by p xs) (omega arith)
  by_case false rest = ap (λ n. nat_eq n 0) (omega arith) ∙ rest

-- a name exists where the count of the records within it is not 0
pub count-exists : (records : List Record) (name : Labels) → nat_eq (count_within records name) 0 ≡ not (exists_in records name)
count-exists records name = count-any (λ r. is_within r.owner name) records

-- ---- ancestors

-- a name is that of an owner or of its ancestors where the owner is within it
pub any-ancestors : (owner name : Labels) → list_any (λ other. same_name other name) (with_ancestors owner) ≡ is_within owner name
any-ancestors [] name = or_false (same_name [] name) where
  or_false : (b : Bool) → (b || false) ≡ b
  or_false true = refl
  or_false false = refl
any-ancestors (label ∷ owner) name = ap (λ b. same_name (label ∷ owner) name || b) (any-ancestors owner name)

-- no name is within one below it
pub not-below : (label : List ℕ) (name : Labels) → is_within name (label ∷ name) ≡ false
not-below label name = elim (cases_Bool (is_within name (label ∷ name))) [
  | inr apart ↦ apart
  | inl within ↦
      let front : (first : Labels) × (name ≡ first ++ label ∷ name) = (is_within-suffix name (label ∷ name)).0 within in
      absurd (omega (arith, ap length front.1, length-append front.0 (label ∷ name)))
]

-- so each is there once
pub count-ancestors : (owner name : Labels) → count_by (λ other. same_name other name) (with_ancestors owner) ≡ cond (is_within owner name) 1 0
count-ancestors [] name = count-one (λ other. same_name other name) []
count-ancestors (label ∷ owner) name =
    count-cons (λ other. same_name other name) (label ∷ owner) (with_ancestors owner) ∙ ap (λ n. cond (same_name (label ∷ owner) name) 1 0 + n) (count-ancestors owner name) ∙ by_case (same_name (label ∷ owner) name) refl where
      by_case : (b : Bool) → same_name (label ∷ owner) name ≡ b → cond b 1 0 + cond (is_within owner name) 1 0 ≡ cond (b || is_within owner name) 1 0
      by_case true same =
          let apart : is_within owner name ≡ false = ap (is_within owner) (sym ((same_name_decides (label ∷ owner) name).0 same)) ∙ not-below label owner in
          rw apart refl
      by_case false other = omega arith

filter-kept : (name : Labels) (names : List Labels) → list_any (λ other. same_name other name) names ≡ false → filter (λ other. not (same_name name other)) names ≡ names
filter-kept name [] none = refl
filter-kept name (first ∷ names) none =
    let apart : same_name name first ≡ false = same_name-sym name first ∙ left (same_name first name) (list_any (λ other. same_name other name) names) none in
    rw apart (ap (λ rest. first ∷ rest) (filter-kept name names (or_right (same_name first name) (list_any (λ other. same_name other name) names) none))) where
      left : (a b : Bool) → (a || b) ≡ false → a ≡ false
      left true b h = h
      left false b h = refl

pub unique-ancestors : (owner : Labels) → unique same_name (with_ancestors owner) ≡ with_ancestors owner
unique-ancestors [] = refl
unique-ancestors (label ∷ owner) =
    ap (λ names. (label ∷ owner) ∷ filter (λ other. not (same_name (label ∷ owner) other)) names) (unique-ancestors owner) ∙ ap (λ names. (label ∷ owner) ∷ names) (filter-kept (label ∷ owner) (with_ancestors owner) (any-ancestors owner (label ∷ owner) ∙ not-below label owner))

-- how many records are within a name, with one more
pub count-within_push : (records : List Record) (r : Record) (name : Labels) → count_within (records ++ r ∷ []) name ≡ count_within records name + cond (is_within r.owner name) 1 0
count-within_push records r name = count-push (λ r. is_within r.owner name) records r

-- what a count by the ancestors of an owner adds
pub count-owner : (records : List Record) (r : Record) (name : Labels) → count_within records name + count_by (λ other. same_name other name) (with_ancestors r.owner) ≡ count_within (records ++ r ∷ []) name
count-owner records r name =
    ap (λ n. count_within records name + n) (count-ancestors r.owner name) ∙ sym (count-within_push records r name)

-- no more records are within a name than there are
pub count-limit : (records : List Record) (name : Labels) → count_within records name ≤ length records
count-limit records name = count_by-le-length (λ r. is_within r.owner name) records
