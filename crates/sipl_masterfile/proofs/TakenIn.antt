-- A record that is taken in leaves a zone.
use Rattle.std.proofs.Common.{◌≡◌, ℕ, zero, suc, ◌+◌, ◌<◌, Bool, true, false, ◌&&◌, ◌||◌, List, [], ◌∷◌, ◌++◌, Some, length, get_or, cond, refl, ap, sym, ◌∙◌, inl, inr, nat_le, arith}
use Rattle.std.specs.List.{list_any, list_all, count_by, AllPairs}
use Rattle.std.proofs.lemmas.Bool.{cases_Bool}
use Rattle.std.proofs.lemmas.Bool.Decides.{nat_tests}
use Rattle.std.proofs.lemmas.List.Elements.{filter_agree}
use Rattle.std.proofs.lemmas.List.Folds.{list_any-append, list_all-append}
use Rattle.std.proofs.lemmas.List.Quantifiers.{all_pairs_push}
use Rattle.std.proofs.lemmas.List.Sums.{length-filter, sum_by-append}
use Rattle.sipl_names.specs.Labels.{is_within}
use Rattle.sipl_records.specs.declared.kind.Kind.TheVariants.{Alias}
use Rattle.sipl_records.specs.declared.record.Record.{Record}
use Rattle.sipl_records.specs.declared.record.Key.{Key}
use Rattle.sipl_records.specs.Sets.{same_record, conflicts, has_own_kind, has_some_kind, key_of, shares_set}
use Rattle.sipl_records.proofs.Public.{same_name-sym, shares_set-Decides, shares_set-Some, same_record-sym}
use Rattle.sipl_masterfile.specs.Intake.{Fits}
use Rattle.sipl_masterfile.specs.Zones.{Zone, IsZone, has_repeats, sets_fit}

first_false : (a b : Bool) → (a || b) ≡ false → a ≡ false
first_false true b h = h
first_false false b h = refl

second_false : (a b : Bool) → (a || b) ≡ false → b ≡ false
second_false true b h = let never : true ≡ false = h in cc
second_false false b h = h

first_true : (a b : Bool) → (a && b) ≡ true → a ≡ true
first_true true b h = refl
first_true false b h = h

second_true : (a b : Bool) → (a && b) ≡ true → b ≡ true
second_true true b h = h
second_true false b h = let never : false ≡ true = h in cc

-- no record passes, at each place
none_at : (p : Record → Bool) (records : List Record) → list_any p records ≡ false → (k : ℕ) (d : Record) → k < length records → p (get_or records k d) ≡ false
none_at p [] none k d inside = absurd (omega arith)
none_at p (r ∷ records) none zero d inside = first_false (p r) (list_any p records) none
none_at p (r ∷ records) none (suc k) d inside = none_at p records (second_false (p r) (list_any p records) none) k d (omega arith)

-- one more record, which is none of the others
pub repeats-push : (records : List Record) (r : Record) → has_repeats records ≡ false → list_any (same_record r) records ≡ false → has_repeats (records ++ r ∷ []) ≡ false
repeats-push [] r distinct new = refl
repeats-push (x ∷ records) r distinct new =
    let here : list_any (same_record x) records ≡ false = first_false (list_any (same_record x) records) (has_repeats records) distinct in
    let last : same_record x r ≡ false = same_record-sym x r ∙ first_false (same_record r x) (list_any (same_record r) records) new in
    let rest : has_repeats (records ++ r ∷ []) ≡ false = repeats-push records r (second_false (list_any (same_record x) records) (has_repeats records) distinct) (second_false (same_record r x) (list_any (same_record r) records) new) in
    rw (list_any-append (same_record x) records (r ∷ []), here, last) rest

pub conflicts-sym : (a b : Record) → conflicts a b ≡ conflicts b a
conflicts-sym a b =
    swapped _ _ (has_some_kind a.value) (has_some_kind b.value) (has_own_kind Alias a.value) (has_own_kind Alias b.value) (same_name-sym a.owner b.owner)
  where
    swapped : (s t k l x y : Bool) → s ≡ t → (s && k && l && (x || y)) ≡ (t && l && k && (y || x))
    swapped s true true true true true same = rw same refl
    swapped s true true true true false same = rw same refl
    swapped s true true true false true same = rw same refl
    swapped s true true true false false same = rw same refl
    swapped s true true false x y same = rw same refl
    swapped s true false true x y same = rw same refl
    swapped s true false false x y same = rw same refl
    swapped s false true true x y same = rw same refl
    swapped s false true false x y same = rw same refl
    swapped s false false true x y same = rw same refl
    swapped s false false false x y same = rw same refl

pub aliases-push : (records : List Record) (r : Record) → AllPairs (λ a b. conflicts a b ≡ false) records → list_any (conflicts r) records ≡ false → AllPairs (λ a b. conflicts a b ≡ false) (records ++ r ∷ [])
aliases-push records r apart new =
    all_pairs_push (λ a b. conflicts a b ≡ false) records r apart (λ k d inside. conflicts-sym (get_or records k d) r ∙ none_at (conflicts r) records new k d inside)

-- two records of one set share it with the same records
shares_set-swap : (a b : Record) → shares_set a b ≡ true → (c : Record) → shares_set a c ≡ shares_set b c
shares_set-swap a b shared c =
    let both : (key : Key) × (key_of a ≡ Some key) × (key_of b ≡ Some key) = (shares_set-Decides a b).0 shared in
    shares_set-Some a both.0 both.1 c ∙ sym (shares_set-Some b both.0 both.2 c)

same_count : (p q : Record → Bool) → ((x : Record) → p x ≡ q x) → (records : List Record) → count_by p records ≡ count_by q records
same_count p q same records =
    sym (length-filter p records) ∙ ap length (filter_agree p q same records) ∙ length-filter q records

all_weaker : (p q : Record → Bool) → ((x : Record) → p x ≡ true → q x ≡ true) → (records : List Record) → list_all p records ≡ true → list_all q records ≡ true
all_weaker p q weaker [] all = refl
all_weaker p q weaker (r ∷ records) all =
    rw (weaker r (first_true (p r) (list_all p records) all)) (all_weaker p q weaker records (second_true (p r) (list_all p records) all))

one_more : (m n : ℕ) (b : Bool) → m ≡ n + (0 + cond b 1 0) → nat_le 32 n ≡ false → nat_le m 32 ≡ true
one_more m n true whole below = grind (arith, nat_tests)
one_more m n false whole below = grind (arith, nat_tests)

none_more : (m n : ℕ) (b : Bool) → m ≡ n + (0 + cond b 1 0) → b ≡ false → nat_le n 32 ≡ true → nat_le m 32 ≡ true
none_more m n true whole other fits = cc
none_more m n false whole other fits = grind (arith, nat_tests)

-- one more record, whose set has less than 32
pub sets_fit-push : (records : List Record) (r : Record) → sets_fit records ≡ true → nat_le 32 (count_by (shares_set r) records) ≡ false → sets_fit (records ++ r ∷ []) ≡ true
sets_fit-push records r fits below =
    let after : List Record = records ++ r ∷ [] in
    let counted : (x : Record) → count_by (shares_set x) after ≡ count_by (shares_set x) records + (0 + cond (shares_set x r) 1 0) = λ x. sum_by-append (λ y. cond (shares_set x y) 1 0) records (r ∷ []) in
    let last : nat_le (count_by (shares_set r) after) 32 ≡ true = one_more _ _ (shares_set r r) (counted r) below in
    let old : list_all (λ x. nat_le (count_by (shares_set x) after) 32) records ≡ true = all_weaker (λ x. nat_le (count_by (shares_set x) records) 32) (λ x. nat_le (count_by (shares_set x) after) 32) (λ x fit. elim (cases_Bool (shares_set x r)) [
      | inl shared ↦ one_more _ _ (shares_set x r) (counted x) (ap (nat_le 32) (same_count (shares_set x) (shares_set r) (shares_set-swap x r shared) records) ∙ below)
      | inr other ↦ none_more _ _ (shares_set x r) (counted x) other fit
    ]) records fits in
    list_all-append (λ x. nat_le (count_by (shares_set x) after) 32) records (r ∷ []) ∙ rw (old, last) refl

pub zone-push : (zone : Zone) (r : Record) → IsZone zone → is_within r.owner zone.apex ≡ true → list_any (same_record r) zone.records ≡ false → list_any (conflicts r) zone.records ≡ false → nat_le 32 (count_by (shares_set r) zone.records) ≡ false → IsZone (record zone { records = zone.records ++ r ∷ [] })
zone-push zone r before inside new apart below = record {
  within = list_all-append (λ x. is_within x.owner zone.apex) zone.records (r ∷ []) ∙ rw (before.within, inside) refl;
  distinct = repeats-push zone.records r before.distinct new;
  aliases = aliases-push zone.records r before.aliases apart;
  fits = sets_fit-push zone.records r before.fits below;
}

-- a record that passes the tests is to be appended
pub fits-new : (zone : Zone) (r : Record) → IsZone zone → is_within r.owner zone.apex ≡ true → list_any (same_record r) zone.records ≡ false → list_any (conflicts r) zone.records ≡ false → nat_le 32 (count_by (shares_set r) zone.records) ≡ false → Fits r zone zone
fits-new zone r before inside new apart below = record {
  taken = rw (inside, new, apart, below) refl;
  zone = zone-push zone r before inside new apart below;
  unchanged = refl;
}
