-- Accepted edits keep the store consistent.
use Rattle.std.proofs.Common.{◌≡◌, ◌≢◌, ℕ, suc, ◌+◌, ◌^◌, ◌≤◌, Bool, true, false, not, ◌&&◌, ◌||◌, List, [], ◌∷◌, ◌++◌, length, Option, None, Some, if◌then◌else◌, get_or, cond, refl, ap, subst, sym, ◌∙◌, inl, inr, nat_le, nat_lt, arith, length-append}
use Rattle.std.specs.List.{filter, list_any, list_all, count_by, AllPairs, All}
use Rattle.std.proofs.lemmas.Bool.{cases_Bool}
use Rattle.std.proofs.lemmas.Bool.Decides.{nat_tests}
use Rattle.std.proofs.lemmas.List.Elements.{All-nil, All-cons, All-append}
use Rattle.std.proofs.lemmas.List.Folds.{list_any-append, list_all-append}
use Rattle.std.proofs.lemmas.List.Kept.{AllPairs-cons, AllPairs-filter}
use Rattle.std.proofs.lemmas.List.Quantifiers.{all_pairs_push}
use Rattle.std.proofs.lemmas.List.Sums.{sum_by-append, length-filter, count_by-le-length}
use Rattle.sipl_names.specs.Labels.{same_name, is_wildcard, is_within}
use Rattle.sipl_names.proofs.Public.{same_name_decides}
use Rattle.sipl_records.specs.declared.kind.Kind.TheVariants.{Alias}
use Rattle.sipl_records.specs.declared.record.Record.{Record}
use Rattle.sipl_records.specs.declared.record.Key.{Key}
use Rattle.sipl_records.specs.Sets.{conflicts, has_own_kind, has_some_kind, is_existence, same_record, key_of, shares_set}
use Rattle.sipl_records.proofs.Public.{same_name-sym, shares_set-Decides, shares_set-Some, same_record-sym}
use Rattle.sipl_masterfile.specs.Zones.{Zone, IsZone, has_repeats, sets_fit}
use Rattle.sipl_zonestore.specs.declared.fault.StoreFault.{StoreFault}
use Rattle.sipl_zonestore.specs.Numbers.{IsNumbered, number_after, number_by, next_after, number_refusal}
use Rattle.sipl_zonestore.specs.Store.{Zones, Store, number_in, overlaps, is_covered, records_outside, apexes_after_load, apexes_without}
use Rattle.sipl_zonestore.specs.Edits.{Edit, load, unload, add, remove, after, refusal_of}
use Rattle.sipl_zonestore.specs.Consistent.{IsConsistent}
use Rattle.sipl_zonestore.proofs.Numbering.{numbered-after, set_of-nothing}
use Rattle.sipl_zonestore.proofs.Elements.{or_left, or_right, or_first, or_second, and_first, and_second, all-weaker, all-both, all-kept, all-filter_weaker, any-filter, none-at, count-filter-le, count-same}

or_swapped : (a b : Bool) → (a || b) ≡ (b || a)
or_swapped true true = refl
or_swapped true false = refl
or_swapped false true = refl
or_swapped false false = refl

overlaps-sym : (a b : List (List ℕ)) → overlaps a b ≡ overlaps b a
overlaps-sym a b = λ i. or_swapped (is_within a b) (is_within b a) i && not (same_name-sym a b i)

-- one more zone, apart from each other one
overlap-push : (apexes : List (List (List ℕ))) (apex : List (List ℕ)) → list_any (overlaps apex) apexes ≡ false → AllPairs (λ a b. overlaps a b ≡ false) apexes → AllPairs (λ a b. overlaps a b ≡ false) (apexes ++ apex ∷ [])
overlap-push apexes apex none apart =
    all_pairs_push (λ a b. overlaps a b ≡ false) apexes apex apart (λ k d inside. overlaps-sym (get_or apexes k d) apex ∙ none-at (overlaps apex) apexes none k d inside)

apart_after : (apexes : List (List (List ℕ))) (apex : List (List ℕ)) → list_any (overlaps apex) apexes ≡ false → AllPairs (λ a b. overlaps a b ≡ false) apexes → AllPairs (λ a b. overlaps a b ≡ false) (apexes_after_load apex apexes)
apart_after apexes apex none apart = elim (cases_Bool (list_any (same_name apex) apexes)) [ inl known ↦ rw known apart | inr fresh ↦ rw fresh (overlap-push apexes apex none apart) ]

other_name : (a b : List (List ℕ)) → same_name a b ≡ false → b ≢ a
other_name a b differs e = let never : true ≡ false = sym ((same_name_decides a b).1 (sym e)) ∙ differs in cc

-- one more apex, which is none of the others
distinct_after : (apexes : List (List (List ℕ))) (apex : List (List ℕ)) → AllPairs (λ a b. a ≢ b) apexes → AllPairs (λ a b. a ≢ b) (apexes_after_load apex apexes)
distinct_after apexes apex distinct = elim (cases_Bool (list_any (same_name apex) apexes)) [
  | inl known ↦ rw known distinct
  | inr fresh ↦ rw fresh (all_pairs_push (λ a b. a ≢ b) apexes apex distinct (λ k d inside. other_name apex (get_or apexes k d) (none-at (same_name apex) apexes fresh k d inside)))
]

-- one more apex, which is no wildcard
tame_after : (apexes : List (List (List ℕ))) (apex : List (List ℕ)) → is_wildcard apex ≡ false → list_any is_wildcard apexes ≡ false → list_any is_wildcard (apexes_after_load apex apexes) ≡ false
tame_after apexes apex tame none = elim (cases_Bool (list_any (same_name apex) apexes)) [
  | inl known ↦ rw known none
  | inr fresh ↦ rw fresh (list_any-append is_wildcard apexes (apex ∷ []) ∙ rw (none, tame) refl)
]

-- what is covered stays so
covered_more : (p : List (List ℕ) → Bool) (apexes : List (List (List ℕ))) (apex : List (List ℕ)) → list_any p apexes ≡ true → list_any p (apexes_after_load apex apexes) ≡ true
covered_more p apexes apex some = elim (cases_Bool (list_any (same_name apex) apexes)) [
  | inl known ↦ rw known some
  | inr fresh ↦ rw fresh (list_any-append p apexes (apex ∷ []) ∙ or_first (list_any p apexes) _ some)
]

any_same : (p : List (List ℕ) → Bool) (apexes : List (List (List ℕ))) (apex : List (List ℕ)) → list_any (same_name apex) apexes ≡ true → p apex ≡ true → list_any p apexes ≡ true
any_same p [] apex known here = known
any_same p (first ∷ apexes) apex known here = elim (cases_Bool (same_name apex first)) [
  | inl same ↦ or_first (p first) (list_any p apexes) (ap p (sym ((same_name_decides apex first).0 same)) ∙ here)
  | inr other ↦ or_second (p first) (list_any p apexes) (any_same p apexes apex (rw other at known) here)
]

-- and what is within the apex is covered
covered_new : (p : List (List ℕ) → Bool) (apexes : List (List (List ℕ))) (apex : List (List ℕ)) → p apex ≡ true → list_any p (apexes_after_load apex apexes) ≡ true
covered_new p apexes apex here = elim (cases_Bool (list_any (same_name apex) apexes)) [
  | inl known ↦ rw known (any_same p apexes apex known here)
  | inr fresh ↦ rw fresh (list_any-append p apexes (apex ∷ []) ∙ or_second (list_any p apexes) _ (or_first (p apex) false here))
]

pub repeats-filter : (q : Record → Bool) (records : List Record) → has_repeats records ≡ false → has_repeats (filter q records) ≡ false
repeats-filter q [] distinct = refl
repeats-filter q (r ∷ records) distinct =
    let rest : has_repeats (filter q records) ≡ false = repeats-filter q records (or_right (list_any (same_record r) records) (has_repeats records) distinct) in
    elim (cases_Bool (q r)) [
      | inl kept ↦ rw kept (rw (any-filter (same_record r) q records (or_left (list_any (same_record r) records) (has_repeats records) distinct)) rest)
      | inr left ↦ rw left rest
    ]

-- two lists without repeats that share no record
repeats-append : (a b : List Record) → has_repeats a ≡ false → has_repeats b ≡ false → list_all (λ r. not (list_any (same_record r) b)) a ≡ true → has_repeats (a ++ b) ≡ false
repeats-append [] b distinct distinct' apart = distinct'
repeats-append (r ∷ a) b distinct distinct' apart =
    let here : list_any (same_record r) a ≡ false = or_left (list_any (same_record r) a) (has_repeats a) distinct in
    let there : list_any (same_record r) b ≡ false = not_true (list_any (same_record r) b) (and_first (not (list_any (same_record r) b)) _ apart) in
    rw (list_any-append (same_record r) a b, here, there) (repeats-append a b (or_right (list_any (same_record r) a) (has_repeats a) distinct) distinct' (and_second (not (list_any (same_record r) b)) _ apart)) where
      not_true : (b : Bool) → not b ≡ true → b ≡ false
      not_true true h = sym h
      not_true false h = refl

other_owner : (apex : List (List ℕ)) (a b : Record) → is_within a.owner apex ≡ false → is_within b.owner apex ≡ true → same_record a b ≡ false
other_owner apex a b outside inside = elim (cases_Bool (same_name a.owner b.owner)) [
  | inl same ↦ let never : true ≡ false = sym inside ∙ ap (λ name. is_within name apex) (sym ((same_name_decides a.owner b.owner).0 same)) ∙ outside in cc
  | inr other ↦ rw other refl
]

none_within : (apex : List (List ℕ)) (r : Record) (text : List Record) → is_within r.owner apex ≡ false → list_all (λ r. is_within r.owner apex) text ≡ true → list_any (same_record r) text ≡ false
none_within apex r [] outside all = refl
none_within apex r (first ∷ text) outside all =
    rw (other_owner apex r first outside (and_first (is_within first.owner apex) _ all)) (none_within apex r text outside (and_second (is_within first.owner apex) _ all))

apart_from_text : (apex : List (List ℕ)) (records text : List Record) → list_all (λ r. is_within r.owner apex) text ≡ true → list_all (λ r. not (list_any (same_record r) text)) (records_outside apex records) ≡ true
apart_from_text apex [] text all = refl
apart_from_text apex (r ∷ records) text all = elim (cases_Bool (is_within r.owner apex)) [
  | inl inside ↦ rw inside (apart_from_text apex records text all)
  | inr outside ↦ rw outside (rw (none_within apex r text outside all) (apart_from_text apex records text all))
]

apart_from_one : (records : List Record) (added : Record) → list_any (same_record added) records ≡ false → list_all (λ r. not (list_any (same_record r) (added ∷ []))) records ≡ true
apart_from_one [] added none = refl
apart_from_one (r ∷ records) added none =
    rw (same_record-sym r added, or_left (same_record added r) (list_any (same_record added) records) none) (apart_from_one records added (or_right (same_record added r) (list_any (same_record added) records) none))

accepted : (b : Bool) (fault : StoreFault) (rest : Option StoreFault) → (if b then Some fault else rest) ≡ None → (b ≡ false) × (rest ≡ None)
accepted true fault rest e = cc
accepted false fault rest e = (refl, e)

was_true : (b : Bool) → not b ≡ false → b ≡ true
was_true true h = refl
was_true false h = sym h

-- records that share a set have the same owner
shares_set-owner : (a b : Record) → shares_set a b ≡ true → a.owner ≡ b.owner
shares_set-owner a b shared = (same_name_decides a.owner b.owner).0 (and_first (same_name a.owner b.owner) _ shared)

other_set : (apex : List (List ℕ)) (a b : Record) → is_within a.owner apex ≡ false → is_within b.owner apex ≡ true → shares_set a b ≡ false
other_set apex a b outside inside = elim (cases_Bool (shares_set a b)) [
  | inl shared ↦ let never : true ≡ false = sym inside ∙ ap (λ name. is_within name apex) (sym (shares_set-owner a b shared)) ∙ outside in cc
  | inr other ↦ other
]

other_set' : (apex : List (List ℕ)) (a b : Record) → is_within a.owner apex ≡ true → is_within b.owner apex ≡ false → shares_set a b ≡ false
other_set' apex a b inside outside = elim (cases_Bool (shares_set a b)) [
  | inl shared ↦ let never : true ≡ false = sym inside ∙ ap (λ name. is_within name apex) (shares_set-owner a b shared) ∙ outside in cc
  | inr other ↦ other
]

-- of a record outside the zone, no record of the text is in its set
count_text : (apex : List (List ℕ)) (r : Record) (text : List Record) → is_within r.owner apex ≡ false → list_all (λ r. is_within r.owner apex) text ≡ true → count_by (shares_set r) text ≡ 0
count_text apex r [] outside all = refl
count_text apex r (first ∷ text) outside all =
    rw (other_set apex r first outside (and_first (is_within first.owner apex) _ all)) (count_text apex r text outside (and_second (is_within first.owner apex) _ all))

-- of a record within it, no record outside
count_outside : (apex : List (List ℕ)) (r : Record) (records : List Record) → is_within r.owner apex ≡ true → count_by (shares_set r) (records_outside apex records) ≡ 0
count_outside apex r [] inside = refl
count_outside apex r (first ∷ records) inside = elim (cases_Bool (is_within first.owner apex)) [
  | inl within ↦ rw within (count_outside apex r records inside)
  | inr outside ↦ rw outside (rw (other_set' apex r first inside outside) (count_outside apex r records inside))
]

count-append : (r : Record) (a b : List Record) → count_by (shares_set r) (a ++ b) ≡ count_by (shares_set r) a + count_by (shares_set r) b
count-append r a b = sum_by-append (λ x. cond (shares_set r x) 1 0) a b

at_most : (m n k l : ℕ) → m ≡ k + l → k ≤ n → l ≡ 0 → nat_le n 32 ≡ true → nat_le m 32 ≡ true
at_most m n k l whole fewer none fits = grind (arith, nat_tests)

at_most' : (m k l : ℕ) → m ≡ k + l → k ≡ 0 → nat_le l 32 ≡ true → nat_le m 32 ≡ true
at_most' m k l whole none fits = grind (arith, nat_tests)

fit_after_load : (apex : List (List ℕ)) (records text : List Record) → list_all (λ r. is_within r.owner apex) text ≡ true → sets_fit records ≡ true → sets_fit text ≡ true → sets_fit (records_outside apex records ++ text) ≡ true
fit_after_load apex records text all fits text_fits =
    let after : List Record = records_outside apex records ++ text in
    let old : list_all (λ r. nat_le (count_by (shares_set r) after) 32) (records_outside apex records) ≡ true = all-filter_weaker (λ r. nat_le (count_by (shares_set r) records) 32) (λ r. nat_le (count_by (shares_set r) after) 32) (λ r. not (is_within r.owner apex)) (λ r out fit. at_most _ _ _ _ (count-append r (records_outside apex records) text) (count-filter-le (shares_set r) (λ r. not (is_within r.owner apex)) records) (count_text apex r text (was_false _ out) all) fit) records fits in
    let new : list_all (λ r. nat_le (count_by (shares_set r) after) 32) text ≡ true = all-both (λ r. is_within r.owner apex) (λ r. nat_le (count_by (shares_set r) text) 32) (λ r. nat_le (count_by (shares_set r) after) 32) (λ r inside fit. at_most' _ _ _ (count-append r (records_outside apex records) text) (count_outside apex r records inside) fit) text all text_fits in
    list_all-append (λ r. nat_le (count_by (shares_set r) after) 32) (records_outside apex records) text ∙ rw old new where
      was_false : (b : Bool) → not b ≡ true → b ≡ false
      was_false true h = sym h
      was_false false h = refl

-- two records of one set share it with the same records
shares_set-swap : (a b : Record) → shares_set a b ≡ true → (c : Record) → shares_set a c ≡ shares_set b c
shares_set-swap a b shared c =
    let both : (key : Key) × (key_of a ≡ Some key) × (key_of b ≡ Some key) = (shares_set-Decides a b).0 shared in
    shares_set-Some a both.0 both.1 c ∙ sym (shares_set-Some b both.0 both.2 c)

one_more : (m n : ℕ) (b : Bool) → m ≡ n + cond b 1 0 → nat_le 32 n ≡ false → nat_le m 32 ≡ true
one_more m n true whole below = grind (arith, nat_tests)
one_more m n false whole below = grind (arith, nat_tests)

none_more : (m n : ℕ) (b : Bool) → m ≡ n + cond b 1 0 → b ≡ false → nat_le n 32 ≡ true → nat_le m 32 ≡ true
none_more m n true whole other fits = cc
none_more m n false whole other fits = grind (arith, nat_tests)

fit_after_add : (records : List Record) (r : Record) → nat_le 32 (count_by (shares_set r) records) ≡ false → sets_fit records ≡ true → sets_fit (records ++ r ∷ []) ≡ true
fit_after_add records r below fits =
    let after : List Record = records ++ r ∷ [] in
    let counted : (x : Record) → count_by (shares_set x) after ≡ count_by (shares_set x) records + cond (shares_set x r) 1 0 = λ x. count-append x records (r ∷ []) ∙ ap (λ n. count_by (shares_set x) records + n) (one_count (shares_set x r)) in
    let last : nat_le (count_by (shares_set r) after) 32 ≡ true = one_more _ _ (shares_set r r) (counted r) below in
    let old : list_all (λ x. nat_le (count_by (shares_set x) after) 32) records ≡ true = all-weaker (λ x. nat_le (count_by (shares_set x) records) 32) (λ x. nat_le (count_by (shares_set x) after) 32) (λ x fit. elim (cases_Bool (shares_set x r)) [
      | inl shared ↦ one_more _ _ (shares_set x r) (counted x) (ap (nat_le 32) (count-same (shares_set x) (shares_set r) (shares_set-swap x r shared) records) ∙ below)
      | inr other ↦ none_more _ _ (shares_set x r) (counted x) other fit
    ]) records fits in
    list_all-append (λ x. nat_le (count_by (shares_set x) after) 32) records (r ∷ []) ∙ rw (old, last) refl where
      one_count : (b : Bool) → 0 + cond b 1 0 ≡ cond b 1 0
      one_count true = refl
      one_count false = refl

and_swapped : (n : Bool) (a b x y : Bool) → (n && a && b && (x || y)) ≡ (n && b && a && (y || x))
and_swapped true true true true true = refl
and_swapped true true true true false = refl
and_swapped true true true false true = refl
and_swapped true true true false false = refl
and_swapped true true false x y = refl
and_swapped true false true x y = refl
and_swapped true false false x y = refl
and_swapped false a b x y = refl

conflicts-sym : (a b : Record) → conflicts a b ≡ conflicts b a
conflicts-sym a b =
    rw (same_name-sym a.owner b.owner) (and_swapped (same_name b.owner a.owner) (has_some_kind a.value) (has_some_kind b.value) (has_own_kind Alias a.value) (has_own_kind Alias b.value))

-- records that conflict have one owner
conflicts-owner : (a b : Record) → same_name a.owner b.owner ≡ false → conflicts a b ≡ false
conflicts-owner a b other = rw other refl

-- records of two zones do not conflict
other_zone : (apex : List (List ℕ)) (a b : Record) → is_within a.owner apex ≡ false → is_within b.owner apex ≡ true → conflicts a b ≡ false
other_zone apex a b outside inside = elim (cases_Bool (same_name a.owner b.owner)) [
  | inl same ↦ let never : true ≡ false = sym inside ∙ ap (λ name. is_within name apex) (sym ((same_name_decides a.owner b.owner).0 same)) ∙ outside in cc
  | inr other ↦ conflicts-owner a b other
]

-- two lists, each of whose pairs are related, and the elements of one to those of the other
pub pairs-append : {X : Type 0} (R : X → X → Type 0) (P Q : X → Bool) → ((x y : X) → P x ≡ true → Q y ≡ true → R x y) → (xs ys : List X) → list_all P xs ≡ true → list_all Q ys ≡ true → AllPairs R xs → AllPairs R ys → AllPairs R (xs ++ ys)
pairs-append R P Q across [] ys passes passes' apart apart' = apart'
pairs-append {X} R P Q across (x ∷ xs) ys passes passes' apart apart' =
    let here : P x ≡ true = and_first (P x) (list_all P xs) passes in
    let own : All (R x) xs = λ k d inside. apart 0 (suc k) d (omega arith) (omega arith) in
    let rest : AllPairs R (xs ++ ys) = pairs-append R P Q across xs ys (and_second (P x) (list_all P xs) passes) passes' (λ i j d below inside. apart (suc i) (suc j) d (omega arith) (omega arith)) apart' in
    AllPairs-cons R x (xs ++ ys) (All-append (R x) xs ys own (related x here ys passes')) rest where
      related : (x : X) → P x ≡ true → (ys : List X) → list_all Q ys ≡ true → All (R x) ys
      related x here [] all = All-nil (R x)
      related x here (y ∷ ys) all = All-cons (R x) y ys (across x y here (and_first (Q y) (list_all Q ys) all)) (related x here ys (and_second (Q y) (list_all Q ys) all))

-- no record conflicts with one of another zone
aliases_after_load : (apex : List (List ℕ)) (records text : List Record) → list_all (λ r. is_within r.owner apex) text ≡ true → AllPairs (λ a b. conflicts a b ≡ false) records → AllPairs (λ a b. conflicts a b ≡ false) text → AllPairs (λ a b. conflicts a b ≡ false) (records_outside apex records ++ text)
aliases_after_load apex records text all apart apart' =
    pairs-append (λ a b. conflicts a b ≡ false) (λ r. not (is_within r.owner apex)) (λ r. is_within r.owner apex) (λ a b outside inside. other_zone apex a b (was_false _ outside) inside) (records_outside apex records) text (all-kept (λ r. not (is_within r.owner apex)) records) all (AllPairs-filter (λ a b. conflicts a b ≡ false) (λ r. not (is_within r.owner apex)) records apart) apart' where
      was_false : (b : Bool) → not b ≡ true → b ≡ false
      was_false true h = sym h
      was_false false h = refl

-- nor does one that is added
aliases_after_add : (records : List Record) (r : Record) → list_any (conflicts r) records ≡ false → AllPairs (λ a b. conflicts a b ≡ false) records → AllPairs (λ a b. conflicts a b ≡ false) (records ++ r ∷ [])
aliases_after_add records r none apart =
    all_pairs_push (λ a b. conflicts a b ≡ false) records r apart (λ k d inside. conflicts-sym (get_or records k d) r ∙ none-at (conflicts r) records none k d inside)

-- what is covered by a zone that stays is covered
covered_by_others : (apex owner : List (List ℕ)) (apexes : List (List (List ℕ))) → is_within owner apex ≡ false → is_covered apexes owner ≡ true → is_covered (apexes_without apex apexes) owner ≡ true
covered_by_others apex owner [] outside some = some
covered_by_others apex owner (first ∷ apexes) outside some =
    let rest : is_covered apexes owner ≡ true → is_covered (apexes_without apex apexes) owner ≡ true = covered_by_others apex owner apexes outside in
    elim (cases_Bool (same_name apex first)) [
      | inl same ↦
          let apart : is_within owner first ≡ false = ap (is_within owner) (sym ((same_name_decides apex first).0 same)) ∙ outside in
          rw same (rest (rw apart at some))
      | inr other ↦ rw other (kept (is_within owner first) rest some)
    ] where
      kept : (b : Bool) → (is_covered apexes owner ≡ true → is_covered (apexes_without apex apexes) owner ≡ true) → (b || is_covered apexes owner) ≡ true → (b || is_covered (apexes_without apex apexes) owner) ≡ true
      kept true rest some = refl
      kept false rest some = rest some

covered_after_unload : (apex : List (List ℕ)) (apexes : List (List (List ℕ))) (records : List Record) → list_all (λ (r : Record). is_covered apexes r.owner) records ≡ true → list_all (λ (r : Record). is_covered (apexes_without apex apexes) r.owner) (records_outside apex records) ≡ true
covered_after_unload apex apexes records covered =
    all-filter_weaker (λ (r : Record). is_covered apexes r.owner) (λ r. is_covered (apexes_without apex apexes) r.owner) (λ r. not (is_within r.owner apex)) (λ r out some. covered_by_others apex r.owner apexes (was_false _ out) some) records covered where
      was_false : (b : Bool) → not b ≡ true → b ≡ false
      was_false true h = sym h
      was_false false h = refl

-- sets of fewer records fit too
fit-filter : (q : Record → Bool) (records : List Record) → sets_fit records ≡ true → sets_fit (filter q records) ≡ true
fit-filter q records fits =
    all-filter_weaker (λ r. nat_le (count_by (shares_set r) records) 32) (λ r. nat_le (count_by (shares_set r) (filter q records)) 32) q (λ r kept fit. fewer _ _ (count-filter-le (shares_set r) q records) fit) records fits where
      fewer : (m n : ℕ) → m ≤ n → nat_le n 32 ≡ true → nat_le m 32 ≡ true
      fewer m n less fit = grind (arith, nat_tests)

-- and there are no more of them
filter-limit : (q : Record → Bool) (records : List Record) (max_records : ℕ) → length records ≤ max_records → length (filter q records) ≤ max_records
filter-limit q records max_records below = omega (arith, length-filter q records, count_by-le-length q records)

few : (n max_records : ℕ) → nat_lt max_records n ≡ false → n ≤ max_records
few n max_records not_more = grind (arith, nat_tests)

still_few : (m n max_records : ℕ) → m ≡ n + 1 → nat_le max_records n ≡ false → m ≤ max_records
still_few m n max_records one_longer below = grind (arith, nat_tests)

-- what always holds of zones of at most this many records
pub record AreConsistent (max_records : ℕ) (zones : Zones) : Type 0 where
  pub apart : AllPairs (λ a b. overlaps a b ≡ false) zones.apexes
  pub apexes_distinct : AllPairs (λ a b. a ≢ b) zones.apexes
  pub covered : list_all (λ (r : Record). is_covered zones.apexes r.owner) zones.records ≡ true
  pub records_distinct : has_repeats zones.records ≡ false
  pub sets_fit : sets_fit zones.records ≡ true
  pub aliases : AllPairs (λ a b. conflicts a b ≡ false) zones.records
  pub limit : length zones.records ≤ max_records
  pub no_wildcard : list_any is_wildcard zones.apexes ≡ false

pub consistent-zones : (store : Store) → IsConsistent store → AreConsistent store.max_records store.zones
consistent-zones store held = record {
  apart = held.apart;
  apexes_distinct = held.apexes_distinct;
  covered = held.covered;
  records_distinct = held.records_distinct;
  sets_fit = held.sets_fit;
  aliases = held.aliases;
  limit = held.limit;
  no_wildcard = held.no_wildcard;
}

-- a store of such zones, whose sets are numbered
pub consistent-store : (store : Store) → AreConsistent store.max_records store.zones → IsNumbered store.zones.records (number_in store) store.next → IsConsistent store
consistent-store store held numbered = record {
  apart = held.apart;
  apexes_distinct = held.apexes_distinct;
  covered = held.covered;
  records_distinct = held.records_distinct;
  sets_fit = held.sets_fit;
  aliases = held.aliases;
  limit = held.limit;
  no_wildcard = held.no_wildcard;
  numbered = numbered;
}

-- the number of each set of nothing
number-nothing : (key : Key) → number_by [] [] key ≡ 0
number-nothing key = elim (cases_Bool (is_existence key)) [
  | inl of ↦ rw of refl
  | inr other ↦ rw other refl
]

pub consistent-new : (max_records next : ℕ) → 1 ≤ next → next ≤ 2 ^ 52 → IsConsistent (record { zones = record { apexes = []; records = [] }; max_records = max_records; numbers = []; next = next; looks = 0 })
consistent-new max_records next first last = record {
  apart = λ i j d below inside. absurd (omega arith);
  apexes_distinct = λ i j d below inside. absurd (omega arith);
  covered = refl;
  records_distinct = refl;
  sets_fit = refl;
  aliases = λ i j d below inside. absurd (omega arith);
  limit = omega arith;
  no_wildcard = refl;
  numbered = record { empty = λ key. (λ none. set_of-nothing key, λ empty. number-nothing key); below = λ key other. omega (arith, number-nothing key, first); one_key = λ a b _ _ same some. absurd (some (number-nothing a)); last = omega arith };
}

-- the zone that is loaded is one that a text gives
abbrev pub IsGood : Edit → Type 0
IsGood (load zone) = IsZone zone
IsGood (unload apex) = Unit {0}
IsGood (add r) = Unit {0}
IsGood (remove r) = Unit {0}

consistent-load : (max_records : ℕ) (zone : Zone) (zones : Zones) → IsZone zone → AreConsistent max_records zones → refusal_of max_records (load zone) zones ≡ None → AreConsistent max_records (after (load zone) zones)
consistent-load max_records zone zones ok before refusal =
    let tame = accepted _ _ _ refusal in
    let first = accepted _ _ _ tame.1 in
    let second = accepted _ _ _ first.1 in
    let apexes : List (List (List ℕ)) = apexes_after_load zone.apex zones.apexes in
    let old : list_all (λ (r : Record). is_covered apexes r.owner) (records_outside zone.apex zones.records) ≡ true = all-filter_weaker (λ (r : Record). is_covered zones.apexes r.owner) (λ r. is_covered apexes r.owner) (λ r. not (is_within r.owner zone.apex)) (λ r _ some. covered_more (λ apex. is_within r.owner apex) zones.apexes zone.apex some) zones.records before.covered in
    let new : list_all (λ (r : Record). is_covered apexes r.owner) zone.records ≡ true = all-weaker (λ (r : Record). is_within r.owner zone.apex) (λ r. is_covered apexes r.owner) (λ r inside. covered_new (λ apex. is_within r.owner apex) zones.apexes zone.apex inside) zone.records ok.within in
    record {
      apart = apart_after zones.apexes zone.apex first.0 before.apart;
      apexes_distinct = distinct_after zones.apexes zone.apex before.apexes_distinct;
      covered = list_all-append (λ (r : Record). is_covered apexes r.owner) (records_outside zone.apex zones.records) zone.records ∙ rw old new;
      records_distinct = repeats-append (records_outside zone.apex zones.records) zone.records (repeats-filter (λ r. not (is_within r.owner zone.apex)) zones.records before.records_distinct) ok.distinct (apart_from_text zone.apex zones.records zone.records ok.within);
      sets_fit = fit_after_load zone.apex zones.records zone.records ok.within before.sets_fit ok.fits;
      aliases = aliases_after_load zone.apex zones.records zone.records ok.within before.aliases ok.aliases;
      limit = few _ _ second.0;
      no_wildcard = tame_after zones.apexes zone.apex tame.0 before.no_wildcard;
    }

consistent-unload : (max_records : ℕ) (apex : List (List ℕ)) (zones : Zones) → AreConsistent max_records zones → AreConsistent max_records (after (unload apex) zones)
consistent-unload max_records apex zones before =
    let outside : Record → Bool = λ r. not (is_within r.owner apex) in
    record {
      apart = AllPairs-filter (λ a b. overlaps a b ≡ false) (λ other. not (same_name apex other)) zones.apexes before.apart;
      apexes_distinct = AllPairs-filter (λ a b. a ≢ b) (λ other. not (same_name apex other)) zones.apexes before.apexes_distinct;
      covered = covered_after_unload apex zones.apexes zones.records before.covered;
      records_distinct = repeats-filter outside zones.records before.records_distinct;
      sets_fit = fit-filter outside zones.records before.sets_fit;
      aliases = AllPairs-filter (λ a b. conflicts a b ≡ false) outside zones.records before.aliases;
      limit = filter-limit outside zones.records max_records before.limit;
      no_wildcard = any-filter is_wildcard (λ other. not (same_name apex other)) zones.apexes before.no_wildcard;
    }

consistent-add : (max_records : ℕ) (r : Record) (zones : Zones) → AreConsistent max_records zones → refusal_of max_records (add r) zones ≡ None → AreConsistent max_records (after (add r) zones)
consistent-add max_records r zones before refusal =
    let first = accepted _ _ _ refusal in
    let second = accepted _ _ _ first.1 in
    let third = accepted _ _ _ second.1 in
    let fourth = accepted _ _ _ third.1 in
    let fifth = accepted _ _ _ fourth.1 in
    let here : is_covered zones.apexes r.owner ≡ true = was_true _ first.0 in
    record {
      apart = before.apart;
      apexes_distinct = before.apexes_distinct;
      covered = list_all-append (λ (r : Record). is_covered zones.apexes r.owner) zones.records (r ∷ []) ∙ rw (before.covered, here) refl;
      records_distinct = repeats-append zones.records (r ∷ []) before.records_distinct refl (apart_from_one zones.records r second.0);
      sets_fit = fit_after_add zones.records r fourth.0 before.sets_fit;
      aliases = aliases_after_add zones.records r third.0 before.aliases;
      limit = still_few _ _ _ (length-append zones.records (r ∷ [])) fifth.0;
      no_wildcard = before.no_wildcard;
    }

consistent-remove : (max_records : ℕ) (r : Record) (zones : Zones) → AreConsistent max_records zones → AreConsistent max_records (after (remove r) zones)
consistent-remove max_records r zones before =
    let others : Record → Bool = λ other. not (same_record r other) in
    record {
      apart = before.apart;
      apexes_distinct = before.apexes_distinct;
      covered = all-filter_weaker (λ (r : Record). is_covered zones.apexes r.owner) (λ r. is_covered zones.apexes r.owner) others (λ r kept some. some) zones.records before.covered;
      records_distinct = repeats-filter others zones.records before.records_distinct;
      sets_fit = fit-filter others zones.records before.sets_fit;
      aliases = AllPairs-filter (λ a b. conflicts a b ≡ false) others zones.records before.aliases;
      limit = filter-limit others zones.records max_records before.limit;
      no_wildcard = before.no_wildcard;
    }

-- an edit that is accepted keeps zones consistent
pub consistent-after : (max_records : ℕ) (edit : Edit) (zones : Zones) → IsGood edit → AreConsistent max_records zones → refusal_of max_records edit zones ≡ None → AreConsistent max_records (after edit zones)
consistent-after max_records (load zone) zones good before refusal = consistent-load max_records zone zones good before refusal
consistent-after max_records (unload apex) zones good before refusal = consistent-unload max_records apex zones before
consistent-after max_records (add r) zones good before refusal = consistent-add max_records r zones before refusal
consistent-after max_records (remove r) zones good before refusal = consistent-remove max_records r zones before

abbrev Triple : Type 0
Triple = List Record × (Key → ℕ) × ℕ

-- a store whose edit was accepted, as its fields are then
pub consistent-edited : (edit : Edit) (old new : Store) → IsGood edit → IsConsistent old → refusal_of old.max_records edit old.zones ≡ None → number_refusal old.zones.records (after edit old.zones).records old.next ≡ None → new.zones ≡ after edit old.zones → new.max_records ≡ old.max_records → new.next ≡ next_after old.zones.records (after edit old.zones).records old.next → ((key : Key) → number_in new key ≡ number_after old.zones.records (after edit old.zones).records old.next (number_in old) key) → IsConsistent new
consistent-edited edit old new good held accepted enough zones limit next numbers =
    let records : List Record = (after edit old.zones).records in
    let all : IsNumbered (after edit old.zones).records (number_after old.zones.records (after edit old.zones).records old.next (number_in old)) (next_after old.zones.records (after edit old.zones).records old.next) = numbered-after old.zones.records (after edit old.zones).records old.next (number_in old) held.numbered enough in
    let kept : IsNumbered new.zones.records (number_in new) new.next = subst (λ (p : Triple). IsNumbered p.0 p.1 p.2) (λ i. ((sym zones i).records, (λ key. sym (numbers key) i), sym next i)) all in
    consistent-store new (rw (zones, limit) (consistent-after old.max_records edit old.zones good (consistent-zones old held) accepted)) kept
