-- How many records there are once a zone is loaded.
use Rattle.std.proofs.Common.{◌≡◌, ℕ, ◌+◌, ◌-◌, ◌≤◌, Bool, false, not, List, length, nat_le, true, refl, ap, sym, ◌∙◌, arith}
use Rattle.std.proofs.lemmas.Bool.Decides.{nat_tests}
use Rattle.std.proofs.lemmas.List.Sums.{length-filter, count_by-le-length}
use Rattle.sipl_names.specs.Labels.{is_within}
use Rattle.sipl_records.specs.declared.record.Record.{Record}
use Rattle.sipl_zonestore.specs.Store.{records_outside}

-- no more records are kept than the maximum
pub kept-le : (apex : List (List ℕ)) (records : List Record) (kept max_records : ℕ) → kept ≡ length (records_outside apex records) → length records ≤ max_records → kept ≤ max_records
kept-le apex records kept max_records kept_is below =
    let kept_by : Record → Bool = λ r. not (is_within r.owner apex) in
    omega (arith, length-filter kept_by records, count_by-le-length kept_by records)

-- whether they fit in beside those that are kept
pub fits-beside : (apex : List (List ℕ)) (records : List Record) (kept count max_records : ℕ) → kept ≡ length (records_outside apex records) → length records ≤ max_records → nat_le count (max_records - kept) ≡ nat_le (length (records_outside apex records) + count) max_records
fits-beside apex records kept count max_records kept_is below =
    ap (nat_le count) (ap (λ n. max_records - n) kept_is) ∙ same _ _ (length (records_outside apex records)) count max_records refl refl (kept-le apex records (length (records_outside apex records)) max_records refl below) where
      same : (a b : Bool) (n count max_records : ℕ) → nat_le count (max_records - n) ≡ a → nat_le (n + count) max_records ≡ b → n ≤ max_records → nat_le count (max_records - n) ≡ nat_le (n + count) max_records
      same true true n count max_records left right le = left ∙ sym right
      same false false n count max_records left right le = left ∙ sym right
      same true false n count max_records left right le = absurd (grind (arith, nat_tests))
      same false true n count max_records left right le = absurd (grind (arith, nat_tests))

-- they do where they fit in beside all
pub fits-all : (apex : List (List ℕ)) (records : List Record) (count max_records : ℕ) → length records ≤ max_records → count ≤ max_records - length records → nat_le (length (records_outside apex records) + count) max_records ≡ true
fits-all apex records count max_records below few =
    fit (length (records_outside apex records)) (length records) count max_records (kept-le apex records (length (records_outside apex records)) (length records) refl (omega arith)) below few where
      fit : (n all count max_records : ℕ) → n ≤ all → all ≤ max_records → count ≤ max_records - all → nat_le (n + count) max_records ≡ true
      fit n all count max_records le below few = grind (arith, nat_tests)

pub le-is : (m n : ℕ) → m ≤ n → nat_le m n ≡ true
le-is m n le = grind (arith, nat_tests)
