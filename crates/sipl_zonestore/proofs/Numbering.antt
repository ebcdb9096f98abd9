-- The numbers that changed sets take.
use Rattle.std.proofs.Common.{◌≡◌, ◌≢◌, ◌⊎◌, ℕ, ◌+◌, ◌^◌, ◌<◌, ◌≤◌, Bool, true, false, not, ◌||◌, List, [], ◌∷◌, length, None, Some, if◌then◌else◌, refl, ap, sym, ◌∙◌, inl, inr, arith, nat_lt}
use Rattle.std.specs.Prelude.{◌↔◌}
use Rattle.std.specs.List.{list_any, position_from}
use Rattle.std.proofs.lemmas.Bool.{cases_Bool}
use Rattle.std.proofs.lemmas.Bool.Decides.{nat_tests}
use Rattle.sipl_records.specs.declared.data.Data.{Data}
use Rattle.sipl_records.specs.declared.record.Record.{Record}
use Rattle.sipl_records.specs.declared.record.Key.{Key}
use Rattle.sipl_records.specs.Sets.{data_of, exists_in, existence_of, is_existence, same_key, set_of}
use Rattle.sipl_zonestore.specs.Changes.{is_changed, changed_count, changed_sets}
use Rattle.sipl_zonestore.specs.Numbers.{is_empty, existence_number, numbered_keys, number_after, set_number_after, next_after, number_refusal, IsNumbered}
use Rattle.sipl_zonestore.proofs.SameSets.{same_set-true}
use Rattle.sipl_zonestore.proofs.ChangedKeys.{among-no_existence, changed-no_existence, kept-any, failed-none, changed-any}
use Rattle.sipl_records.proofs.Public.{same_key-sym, set_of-data, set_of-existence}
use Rattle.sipl_zonestore.specs.declared.fault.StoreFault.TheVariants.{NumberSpent}
use Rattle.sipl_zonestore.proofs.Elements.{any-filter}
use Rattle.sipl_zonestore.proofs.Positions.{from-le, from-lt, from-none, from-some, from-same}

pub empty-is : (values : List Data) → is_empty values ≡ true → values ≡ []
empty-is [] empty = refl
empty-is (value ∷ values) empty = cc

was_true : (b : Bool) → not b ≡ false → b ≡ true
was_true true h = refl
was_true false h = sym h

pub unchanged-is : (old new : List Record) (key : Key) → is_changed old new key ≡ false → data_of old key ≡ data_of new key
unchanged-is old new key same = same_set-true (data_of old key) (data_of new key) (was_true _ same)

-- no set of no records has data
pub set_of-nothing : (key : Key) → set_of [] key ≡ []
set_of-nothing key = elim (cases_Bool (is_existence key)) [
  | inl of ↦ set_of-existence [] key of
  | inr other ↦ set_of-data [] key other
]

-- the keys that take a number are those whose set has changed and is not empty
pub numbered-any : (old new : List Record) (key : Key) → is_changed old new key ≡ true → is_empty (data_of new key) ≡ false → list_any (λ other. same_key other key) (numbered_keys old new) ≡ true
numbered-any old new key differs filled =
    kept-any (λ key. not (is_empty (data_of new key))) key (rw filled refl) (changed_sets old new) ∙ changed-any old new key differs

pub numbered-none_same : (old new : List Record) (key : Key) → is_changed old new key ≡ false → list_any (λ other. same_key other key) (numbered_keys old new) ≡ false
numbered-none_same old new key same = elim (cases_Bool (is_empty (data_of new key))) [
  | inl empty ↦ failed-none (λ key. not (is_empty (data_of new key))) key (rw empty refl) (changed_sets old new)
  | inr filled ↦ kept-any (λ key. not (is_empty (data_of new key))) key (rw filled refl) (changed_sets old new) ∙ failed-none (is_changed old new) key same _
]

pub numbered-none_empty : (old new : List Record) (key : Key) → is_empty (data_of new key) ≡ true → list_any (λ other. same_key other key) (numbered_keys old new) ≡ false
numbered-none_empty old new key empty =
    failed-none (λ key. not (is_empty (data_of new key))) key (rw empty refl) (changed_sets old new)

-- a key that takes a number is that of a record set
pub numbered-no_existence : (old new : List Record) (key : Key) → list_any (λ other. same_key other key) (numbered_keys old new) ≡ true → is_existence key ≡ false
numbered-no_existence old new key some =
    among-no_existence key (numbered_keys old new) (any-filter is_existence (λ key. not (is_empty (data_of new key))) (changed_sets old new) (changed-no_existence old new)) some

-- the number of a record set, and that of existence
pub number_after-set : (old new : List Record) (next : ℕ) (numbers : Key → ℕ) (key : Key) → is_existence key ≡ false → number_after old new next numbers key ≡ set_number_after old new next numbers key
number_after-set old new next numbers key other = rw other refl

pub number_after-existence : (old new : List Record) (next : ℕ) (numbers : Key → ℕ) (key : Key) → is_existence key ≡ true → number_after old new next numbers key ≡ existence_number (exists_in new key.name)
number_after-existence old new next numbers key of = rw of refl

-- a record set that has changed and is not empty takes one of the next numbers
pub record IsTaken (old new : List Record) (next : ℕ) (numbers : Key → ℕ) (key : Key) : Type 0 where
  pub filled : is_empty (set_of new key) ≡ false
  pub found : position_from (λ other. same_key other key) next (numbered_keys old new) ≡ Some (number_after old new next numbers key)
  pub from : next ≤ number_after old new next numbers key
  pub below : number_after old new next numbers key < next_after old new next

-- an empty set has the number 0
pub record IsGone (old new : List Record) (next : ℕ) (numbers : Key → ℕ) (key : Key) : Type 0 where
  pub empty : set_of new key ≡ []
  pub zero_number : number_after old new next numbers key ≡ 0

-- another one stays, and keeps its number
pub record IsKept (old new : List Record) (next : ℕ) (numbers : Key → ℕ) (key : Key) : Type 0 where
  pub filled : is_empty (set_of new key) ≡ false
  pub same : set_of old key ≡ set_of new key
  pub number : number_after old new next numbers key ≡ numbers key

pub taken : (old new : List Record) (next : ℕ) (numbers : Key → ℕ) (key : Key) (n : ℕ) → is_existence key ≡ false → is_empty (data_of new key) ≡ false → position_from (λ other. same_key other key) next (numbered_keys old new) ≡ Some n → IsTaken old new next numbers key
taken old new next numbers key n other filled found =
    let number : number_after old new next numbers key ≡ n = number_after-set old new next numbers key other ∙ rw found refl in
    let low : next ≤ n = from-le (λ other. same_key other key) next n (numbered_keys old new) found in
    let high : n < next + length (numbered_keys old new) = from-lt (λ other. same_key other key) next n (numbered_keys old new) found in
    record {
      filled = ap is_empty (set_of-data new key other) ∙ filled;
      found = found ∙ ap (λ m. Some m) (sym number);
      from = omega (arith, number, low);
      below = omega (arith, number, high);
    }

-- what becomes of the number of a record set
pub number-cases : (old new : List Record) (next : ℕ) (numbers : Key → ℕ) (key : Key) → is_existence key ≡ false → IsTaken old new next numbers key ⊎ (IsGone old new next numbers key ⊎ IsKept old new next numbers key)
number-cases old new next numbers key other = elim (cases_Bool (is_empty (data_of new key))) [
  | inl empty ↦ inr (inl (record {
    empty = set_of-data new key other ∙ empty-is (data_of new key) empty;
    zero_number = number_after-set old new next numbers key other ∙ rw (from-none (λ other. same_key other key) next (numbered_keys old new) (numbered-none_empty old new key empty), empty) refl;
  }))
  | inr filled ↦ elim (cases_Bool (is_changed old new key)) [
    | inl differs ↦
        let some : (n : ℕ) × (position_from (λ other. same_key other key) next (numbered_keys old new) ≡ Some n) = from-some (λ other. same_key other key) next (numbered_keys old new) (numbered-any old new key differs filled) in
        inl (taken old new next numbers key some.0 other filled some.1)
    | inr same ↦ inr (inr (record {
      filled = ap is_empty (set_of-data new key other) ∙ filled;
      same = set_of-data old key other ∙ unchanged-is old new key same ∙ sym (set_of-data new key other);
      number = number_after-set old new next numbers key other ∙ rw (from-none (λ other. same_key other key) next (numbered_keys old new) (numbered-none_same old new key same), filled) refl;
    }))
  ]
]

pub same_key-flipped : (key : Key) (keys : List Key) → list_any (λ other. same_key other key) keys ≡ list_any (same_key key) keys
same_key-flipped key [] = refl
same_key-flipped key (first ∷ keys) = λ i. same_key-sym first key i || same_key-flipped key keys i

unchanged-none : (old new : List Record) (key : Key) → list_any (same_key key) (changed_sets old new) ≡ false → is_changed old new key ≡ false
unchanged-none old new key none = elim (cases_Bool (is_changed old new key)) [
  | inl differs ↦
      let never : true ≡ false = sym (changed-any old new key differs) ∙ same_key-flipped key (changed_sets old new) ∙ none in cc
  | inr same ↦ same
]

-- a record set whose key is not among the changed keys is as it was, and so is its number
pub kept-after : (old new : List Record) (next : ℕ) (numbers : Key → ℕ) → IsNumbered old numbers next → (key : Key) → is_existence key ≡ false → list_any (same_key key) (changed_sets old new) ≡ false → (set_of new key ≡ set_of old key) × (number_after old new next numbers key ≡ numbers key)
kept-after old new next numbers held key other none =
    let unchanged : is_changed old new key ≡ false = unchanged-none old new key none in
    let same : set_of old key ≡ set_of new key = set_of-data old key other ∙ unchanged-is old new key unchanged ∙ sym (set_of-data new key other) in
    let untaken : position_from (λ other. same_key other key) next (numbered_keys old new) ≡ None = from-none (λ other. same_key other key) next (numbered_keys old new) (numbered-none_same old new key unchanged) in (
      sym same,
      elim (number-cases old new next numbers key other) [
        | inl taken ↦ cc (sym untaken ∙ taken.found)
        | inr (inl gone) ↦ gone.zero_number ∙ sym ((held.empty key).1 (same ∙ gone.empty))
        | inr (inr kept) ↦ kept.number
      ],
    )

not_filled : (set : List Data) → is_empty set ≡ false → set ≢ []
not_filled set filled none = let never : true ≡ false = ap is_empty (sym none) ∙ filled in cc

-- the number of existence is 0 exactly where its set is empty
existence-empty : (exists : Bool) → (existence_number exists ≡ 0) ↔ (existence_of exists ≡ [])
existence-empty true = (λ none. absurd (omega (arith, none)), λ empty. cc)
existence-empty false = (λ none. refl, λ empty. refl)

empty_after : (old new : List Record) (next : ℕ) (numbers : Key → ℕ) → IsNumbered old numbers next → (key : Key) → (number_after old new next numbers key ≡ 0) ↔ (set_of new key ≡ [])
empty_after old new next numbers held key = elim (cases_Bool (is_existence key)) [
  | inl of ↦
      let number = number_after-existence old new next numbers key of in
      let set = set_of-existence new key of in
      let both = existence-empty (exists_in new key.name) in
      (λ none. set ∙ both.0 (sym number ∙ none), λ empty. number ∙ both.1 (sym set ∙ empty))
  | inr other ↦ elim (number-cases old new next numbers key other) [
    | inl taken ↦
        let above : numbers key < next = held.below key other in
        (λ none. absurd (omega (arith, taken.from, above, none)), λ empty. absurd (not_filled (set_of new key) taken.filled empty))
    | inr (inl gone) ↦ (λ none. gone.empty, λ empty. gone.zero_number)
    | inr (inr kept) ↦
        (λ none. sym kept.same ∙ (held.empty key).0 (sym kept.number ∙ none), λ empty. kept.number ∙ (held.empty key).1 (kept.same ∙ empty))
  ]
]

below_after : (old new : List Record) (next : ℕ) (numbers : Key → ℕ) → IsNumbered old numbers next → (key : Key) → is_existence key ≡ false → number_after old new next numbers key < next_after old new next
below_after old new next numbers held key other =
    let above : numbers key < next = held.below key other in
    elim (number-cases old new next numbers key other) [
      | inl taken ↦ taken.below
      | inr (inl gone) ↦ omega (arith, gone.zero_number, above)
      | inr (inr kept) ↦ omega (arith, kept.number, above)
    ]

-- a number that was taken is another one than each that was kept
apart_after : (old new : List Record) (next : ℕ) (numbers : Key → ℕ) → IsNumbered old numbers next → (a b : Key) → is_existence b ≡ false → IsTaken old new next numbers a → number_after old new next numbers a ≡ number_after old new next numbers b → number_after old new next numbers a ≢ 0 → same_key a b ≡ true
apart_after old new next numbers held a b other taken same some =
    let above : numbers b < next = held.below b other in
    elim (number-cases old new next numbers b other) [
      | inl taken' ↦ from-same next (number_after old new next numbers a) (numbered_keys old new) a b taken.found (taken'.found ∙ ap (λ n. Some n) (sym same))
      | inr (inl gone) ↦ absurd (some (same ∙ gone.zero_number))
      | inr (inr kept) ↦ absurd (omega (arith, taken.from, same, kept.number, above))
    ]

one_key_after : (old new : List Record) (next : ℕ) (numbers : Key → ℕ) → IsNumbered old numbers next → (a b : Key) → is_existence a ≡ false → is_existence b ≡ false → number_after old new next numbers a ≡ number_after old new next numbers b → number_after old new next numbers a ≢ 0 → same_key a b ≡ true
one_key_after old new next numbers held a b other other' same some = elim (number-cases old new next numbers a other) [
  | inl taken ↦ apart_after old new next numbers held a b other' taken same some
  | inr (inl gone) ↦ absurd (some gone.zero_number)
  | inr (inr kept) ↦ elim (number-cases old new next numbers b other') [
    | inl taken' ↦ same_key-sym a b ∙ apart_after old new next numbers held b a other taken' (sym same) (λ none. some (same ∙ none))
    | inr (inl gone') ↦ absurd (some (same ∙ gone'.zero_number))
    | inr (inr kept') ↦ held.one_key a b other other' (sym kept.number ∙ same ∙ kept'.number) (λ none. some (kept.number ∙ none))
  ]
]

enough : (next : ℕ) → (if nat_lt (2 ^ 52 + 1) next then Some NumberSpent else None) ≡ None → next ≤ 2 ^ 52 + 1
enough next accepted = elim (cases_Bool (nat_lt (2 ^ 52 + 1) next)) [
  | inl many ↦ let never : Some NumberSpent ≡ None = rw many at accepted in cc
  | inr few ↦ grind (arith, nat_tests)
]

-- an accepted change keeps what holds of numbers
pub numbered-after : (old new : List Record) (next : ℕ) (numbers : Key → ℕ) → IsNumbered old numbers next → number_refusal old new next ≡ None → IsNumbered new (number_after old new next numbers) (next_after old new next)
numbered-after old new next numbers held accepted =
    record {
      empty = empty_after old new next numbers held;
      below = below_after old new next numbers held;
      one_key = one_key_after old new next numbers held;
      last = enough (next_after old new next) accepted;
    }

-- a record set that stays as it is, and is not empty, keeps its number
pub number-kept : (old new : List Record) (next : ℕ) (numbers : Key → ℕ) (key : Key) → is_existence key ≡ false → is_changed old new key ≡ false → set_of old key ≢ [] → number_after old new next numbers key ≡ numbers key
number-kept old new next numbers key other same filled =
    let full : is_empty (data_of new key) ≡ false = elim (cases_Bool (is_empty (data_of new key))) [
      | inl empty ↦ absurd (filled (set_of-data old key other ∙ unchanged-is old new key same ∙ empty-is (data_of new key) empty))
      | inr full ↦ full
    ] in
    number_after-set old new next numbers key other ∙ rw (from-none (λ other. same_key other key) next (numbered_keys old new) (numbered-none_same old new key same), full) refl

-- where no record set has changed, that of no key has
pub none-changed : (old new : List Record) (key : Key) → changed_count old new ≡ 0 → is_changed old new key ≡ false
none-changed old new key none = elim (cases_Bool (is_changed old new key)) [
  | inl differs ↦
      let any : list_any (λ other. same_key other key) (changed_sets old new) ≡ true = changed-any old new key differs in
      let never : false ≡ true = sym (ap (λ keys. list_any (λ other. same_key other key) keys) (no-items (changed_sets old new) none)) ∙ any in cc
  | inr same ↦ same
]
  where
    no-items : (keys : List Key) → length keys ≡ 0 → keys ≡ []
    no-items [] none = refl
    no-items (key ∷ keys) none = absurd (omega (arith, none))
