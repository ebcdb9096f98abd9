-- The ends of the records of owners.
use Rattle.std.proofs.Common.{◌≡◌, ℕ, zero, suc, ◌+◌, ◌<◌, ◌≤◌, Bool, true, false, ◌||◌, cond, List, [], ◌∷◌, ◌++◌, Option, Some, if◌then◌else◌, length, take, get_or, nat_eq, refl, ap, sym, ◌∙◌, inl, inr, arith, length-append, add-one, add-zero}
use Rattle.std.specs.List.{filter, list_any, count_by}
use Rattle.std.specs.Option.{unwrap_or}
use Rattle.std.proofs.lemmas.Bool.{cases_Bool, cases_lt}
use Rattle.std.proofs.lemmas.Bool.Decides.{nat_tests}
use Rattle.std.proofs.lemmas.List.{take-append-le, take-take, length-take-le, get_or_push, get_or_append_left}
use Rattle.std.proofs.Math.Seq.{take-append_seam, take-suc}
use Rattle.std.proofs.lemmas.List.Folds.{list_any-append}
use Rattle.std.proofs.lemmas.List.Sums.{length-filter, sum_by-append}
use Rattle.sipl_records.specs.Codes.{code_of_name}
use Rattle.sipl_records.specs.declared.record.Record.{Record}
use Rattle.sipl_masterfile.specs.ByOwner.{end_of, IsIndexed}

nat_eq-is : (a b : ℕ) → nat_eq a b ≡ true → a ≡ b
nat_eq-is a b same = grind (arith, nat_tests)

nat_eq-sym : (a b : ℕ) → nat_eq a b ≡ nat_eq b a
nat_eq-sym a b = grind (arith, nat_tests)

-- the end with one record more
pub end_of-push : (code : ℕ) (records : List Record) (r : Record) → end_of code (records ++ r ∷ []) ≡ (if nat_eq code (code_of_name r.owner) then suc (length records) else end_of code records)
end_of-push code [] r = refl
end_of-push code (x ∷ records) r = elim (cases_Bool (nat_eq code (code_of_name r.owner))) [
  | inl same ↦ let rest : end_of code (records ++ r ∷ []) ≡ suc (length records) = end_of-push code records r ∙ rw same refl in rw (rest, same) refl
  | inr other ↦ let rest : end_of code (records ++ r ∷ []) ≡ end_of code records = end_of-push code records r ∙ rw other refl in rw (rest, other) refl
]

pub end_of-le : (code : ℕ) (records : List Record) → end_of code records ≤ length records
end_of-le code [] = omega arith
end_of-le code (r ∷ records) = at (end_of code records) (nat_eq code (code_of_name r.owner)) (end_of-le code records)
  where
    at : (n : ℕ) (c : Bool) → n ≤ length records → (elim n [ zero ↦ if c then 1 else 0 | suc n ↦ suc (suc n) ]) ≤ suc (length records)
    at zero true below = omega arith
    at zero false below = omega arith
    at (suc n) c below = omega arith

-- up to its end an owner has the same end
pub end_of-take : (code : ℕ) (records : List Record) → end_of code (take (end_of code records) records) ≡ end_of code records
end_of-take code [] = refl
end_of-take code (r ∷ records) = at (end_of code records) (nat_eq code (code_of_name r.owner)) refl (end_of-take code records)
  where
    at : (n : ℕ) (c : Bool) → nat_eq code (code_of_name r.owner) ≡ c → end_of code (take n records) ≡ n → end_of code (take (elim n [ zero ↦ if c then 1 else 0 | suc n ↦ suc (suc n) ]) (r ∷ records)) ≡ (elim n [ zero ↦ if c then 1 else 0 | suc n ↦ suc (suc n) ])
    at zero true same rest = rw same refl
    at zero false other rest = refl
    at (suc n) c is rest = rw rest refl

module _ (code : ℕ) (p : Record → Bool) (own : (r : Record) → nat_eq code (code_of_name r.owner) ≡ false → p r ≡ false) where
  -- a test that only records of the owner pass needs no others than those up to its end
  filter-end : (records : List Record) → filter p (take (end_of code records) records) ≡ filter p records
  filter-end [] = refl
  filter-end (r ∷ records) = at (end_of code records) (nat_eq code (code_of_name r.owner)) refl (filter-end records)
    where
      at : (n : ℕ) (c : Bool) → nat_eq code (code_of_name r.owner) ≡ c → filter p (take n records) ≡ filter p records → filter p (take (elim n [ zero ↦ if c then 1 else 0 | suc n ↦ suc (suc n) ]) (r ∷ records)) ≡ filter p (r ∷ records)
      at zero true same rest = ap (λ rs. cond (p r) (r ∷ rs) rs) rest
      at zero false other rest = rw (own r other) rest
      at (suc n) c is rest = ap (λ rs. cond (p r) (r ∷ rs) rs) rest

  pub count-end : (records : List Record) → count_by p (take (end_of code records) records) ≡ count_by p records
  count-end records =
      sym (length-filter p (take (end_of code records) records)) ∙ ap length (filter-end records) ∙ length-filter p records

  pub any-end : (records : List Record) → list_any p (take (end_of code records) records) ≡ list_any p records
  any-end [] = refl
  any-end (r ∷ records) = at (end_of code records) (nat_eq code (code_of_name r.owner)) refl (any-end records)
    where
      at : (n : ℕ) (c : Bool) → nat_eq code (code_of_name r.owner) ≡ c → list_any p (take n records) ≡ list_any p records → list_any p (take (elim n [ zero ↦ if c then 1 else 0 | suc n ↦ suc (suc n) ]) (r ∷ records)) ≡ list_any p (r ∷ records)
      at zero true same rest = ap (λ b. p r || b) rest
      at zero false other rest = rw (own r other) rest
      at (suc n) c is rest = ap (λ b. p r || b) rest

-- a record more, and its end beside it
pub indexed-push : (records : List Record) (earlier : List ℕ) (ends ends' : ℕ → Option ℕ) (r : Record) (old : ℕ) → IsIndexed records earlier ends → old ≡ unwrap_or (ends (code_of_name r.owner)) 0 → ((q : ℕ) → ends' q ≡ cond (nat_eq (code_of_name r.owner) q) (Some (length records + 1)) (ends q)) → IsIndexed (records ++ r ∷ []) (earlier ++ old ∷ []) ends'
indexed-push records earlier ends ends' r old before old_is after = record {
  table = λ q. ap (λ o. unwrap_or o 0) (after q) ∙ at q (nat_eq (code_of_name r.owner) q) refl ∙ sym (end_of-push q records r);
  len = simp length-append (omega (arith, before.len));
  beside = λ i d inside. elim (cases_lt i (length records)) [
    | inl old_place ↦ beside_old i d old_place
    | inr new_place ↦ beside_new i d (omega (arith, length-append records (r ∷ [])))
  ];
}
  where
    beside_old : (i : ℕ) (d : Record) → i < length records → get_or (earlier ++ old ∷ []) i 0 ≡ end_of (code_of_name (get_or (records ++ r ∷ []) i d).owner) (take i (records ++ r ∷ []))
    beside_old i d inside =
        let inside' : i < length earlier = omega (arith, before.len) in
        let below : i ≤ length records = omega arith in
        rw (get_or_append_left earlier (old ∷ []) 0 i inside', get_or_append_left records (r ∷ []) d i inside, take-append-le i records (r ∷ []) below) (before.beside i d inside)

    beside_new : (i : ℕ) (d : Record) → i ≡ length records → get_or (earlier ++ old ∷ []) i 0 ≡ end_of (code_of_name (get_or (records ++ r ∷ []) i d).owner) (take i (records ++ r ∷ []))
    beside_new i d last =
        rw (get_or_push earlier old 0 i (before.len ∙ sym last), get_or_push records r d i (sym last), last, take-append_seam records (r ∷ [])) (old_is ∙ before.table (code_of_name r.owner))

    at : (q : ℕ) (b : Bool) → nat_eq (code_of_name r.owner) q ≡ b → unwrap_or (cond b (Some (length records + 1)) (ends q)) 0 ≡ (if nat_eq q (code_of_name r.owner) then suc (length records) else end_of q records)
    at q true same = rw (nat_eq-sym q (code_of_name r.owner), same) (add-one (length records))
    at q false other = rw (nat_eq-sym q (code_of_name r.owner), other) (before.table q)

-- a step of the walk from the last record of an owner to the first, at the record in this place
module _ (code : ℕ) (records : List Record) (end place : ℕ) (r : Record) (next : ℕ)
    (below : place + 1 ≡ end) (within : end ≤ length records) (here : r ≡ get_or records place r)
    (last : end_of code (take end records) ≡ end)
    (next_is : next ≡ end_of (code_of_name r.owner) (take place records)) where
  inside : place < length records
  inside = omega arith

  one_more : take end records ≡ take place records ++ r ∷ []
  one_more = rw (← below, add-one) (take-suc records place r inside ∙ ap (λ x. take place records ++ x ∷ []) (sym here))

  pub own : nat_eq code (code_of_name r.owner) ≡ true
  own = at (nat_eq code (code_of_name r.owner)) refl
    where
      at : (b : Bool) → nat_eq code (code_of_name r.owner) ≡ b → b ≡ true
      at true same = refl
      at false other =
          let before : end ≡ end_of code (take place records) = sym last ∙ ap (end_of code) one_more ∙ end_of-push code (take place records) r ∙ rw other refl in
          absurd (omega (arith, end_of-le code (take place records), length-take-le place records))

  next_end : next ≡ end_of code (take place records)
  next_end = next_is ∙ ap (λ c. end_of c (take place records)) (sym (nat_eq-is code (code_of_name r.owner) own))

  pub next-le : next ≤ place
  next-le = omega (arith, next_end, end_of-le code (take place records), length-take-le place records)

  up_to_next : take (end_of code (take place records)) (take place records) ≡ take next records
  up_to_next = ap (λ n. take n (take place records)) (sym next_end) ∙ take-take next place records next-le

  pub next_last : end_of code (take next records) ≡ next
  next_last = ap (end_of code) (sym up_to_next) ∙ end_of-take code (take place records) ∙ sym next_end

  module _ (p : Record → Bool) (only : (x : Record) → nat_eq code (code_of_name x.owner) ≡ false → p x ≡ false) where
    pub count-step : (found found' : ℕ) → count_by p records ≡ count_by p (take end records) + found → found' ≡ cond (p r) 1 0 + found → count_by p records ≡ count_by p (take next records) + found'
    count-step found found' before after =
        let parts : count_by p (take end records) ≡ count_by p (take place records) + (0 + cond (p r) 1 0) = ap (count_by p) one_more ∙ sum_by-append (λ x. cond (p x) 1 0) (take place records) (r ∷ []) in
        let rest : count_by p (take place records) ≡ count_by p (take next records) = sym (count-end code p only (take place records)) ∙ ap (count_by p) up_to_next in
        omega arith

    pub any-step : (found found' : Bool) → list_any p records ≡ (list_any p (take end records) || found) → found' ≡ (p r || found) → list_any p records ≡ (list_any p (take next records) || found')
    any-step found found' before after =
        let parts : list_any p (take end records) ≡ (list_any p (take place records) || (p r || false)) = ap (list_any p) one_more ∙ list_any-append p (take place records) (r ∷ []) in
        let rest : list_any p (take place records) ≡ list_any p (take next records) = sym (any-end code p only (take place records)) ∙ ap (list_any p) up_to_next in
        before ∙ ap (λ b. b || found) (parts ∙ ap (λ b. b || (p r || false)) rest) ∙ moved (list_any p (take next records)) (p r) found ∙ ap (λ b. list_any p (take next records) || b) (sym after)
      where
        moved : (a b c : Bool) → ((a || (b || false)) || c) ≡ (a || (b || c))
        moved true b c = refl
        moved false true c = refl
        moved false false c = refl

-- the walk begins at the end of the owner's records
module _ (code : ℕ) (records : List Record) (end : ℕ) (end_is : end ≡ end_of code records)
    (p : Record → Bool) (only : (x : Record) → nat_eq code (code_of_name x.owner) ≡ false → p x ≡ false) where
  pub count-init : count_by p records ≡ count_by p (take end records) + 0
  count-init = rw end_is (sym (count-end code p only records) ∙ sym (add-zero (count_by p (take (end_of code records) records))))

  pub any-init : list_any p records ≡ (list_any p (take end records) || false)
  any-init = rw end_is (sym (any-end code p only records) ∙ or_false (list_any p (take (end_of code records) records)))
    where
      or_false : (b : Bool) → b ≡ (b || false)
      or_false true = refl
      or_false false = refl
