-- Tables that are made of records, and numbered, one by one.
use Rattle.std.proofs.Common.{◌≡◌, ℕ, zero, suc, ◌+◌, ◌<◌, ◌≤◌, Bool, true, false, not, List, [], ◌∷◌, ◌++◌, length, take, get_or, Option, None, Some, if◌then◌else◌, cond, refl, ap, sym, ◌∙◌, inl, inr, arith, append-nil, length-append}
use Rattle.std.specs.List.{filter, list_any, position_from, IsDistinct}
use Rattle.std.specs.Option.{option_or, unwrap_or}
use mir.Val.{bool_byte}
use Rattle.std.proofs.lemmas.Bool.{cases_Bool}
use Rattle.std.proofs.lemmas.List.{take_more}
use Rattle.std.proofs.lemmas.List.Elements.{filter_more}
use Rattle.std.proofs.lemmas.Map.Keys.{apart_from_distinct}
use Rattle.sipl_names.specs.Labels.{same_name}
use Rattle.sipl_records.specs.declared.data.Data.{Data}
use Rattle.sipl_records.specs.declared.record.Record.{Record}
use Rattle.sipl_records.specs.declared.record.Key.{Key}
use Rattle.sipl_records.specs.Sets.{data_of, same_data, same_key, key_of}
use Rattle.sipl_records.proofs.Public.{same_key-Decides, has_key-key_of, is_key, data_of-append}
use Rattle.sipl_zonestore.specs.Numbers.{is_empty}
use Rattle.sipl_zonestore.specs.Content.{Content, carried, pushed, renumbered}
use Rattle.sipl_zonestore.specs.SetTable.{OwnerTable, set_at, content_of, has_set, keys_left, numbered_content}
use Rattle.sipl_zonestore.proofs.Elements.{any-filter}
use Rattle.sipl_zonestore.proofs.Positions.{from-append, from-none}
use Rattle.sipl_zonestore.proofs.Contents.{is_empty-push}

-- the set of a key with one more record
data_of-more : (records : List Record) (i : ℕ) (r : Record) (own : Option Key) (key : Key) → i < length records → r ≡ get_or records i r → key_of r ≡ own → data_of (take (i + 1) records) key ≡ data_of (take i records) key ++ cond (is_key key own) (r.value ∷ []) []
data_of-more records i r own key inside here is =
    ap (λ rs. data_of rs key) (take_more records i r inside ∙ ap (λ s. take i records ++ s ∷ []) (sym here))
    ∙ data_of-append (take i records) (r ∷ []) key
    ∙ ap (λ b. data_of (take i records) key ++ cond b (r.value ∷ []) []) (has_key-key_of key r ∙ ap (is_key key) is)

-- a record that is in no set
pub made-none : (sets old : OwnerTable) (records : List Record) (i : ℕ) (r : Record) → i < length records → r ≡ get_or records i r → key_of r ≡ None → ((key : Key) → content_of sets key ≡ carried (content_of old key).number (data_of (take i records) key)) → (key : Key) → content_of sets key ≡ carried (content_of old key).number (data_of (take (i + 1) records) key)
made-none sets old records i r inside here none made key =
    made key ∙ ap (carried (content_of old key).number) (sym (data_of-more records i r None key inside here none ∙ append-nil (data_of (take i records) key)))

-- a record of a set
pub made-some : (sets sets' old : OwnerTable) (records : List Record) (i : ℕ) (r : Record) (own : Key) (number : ℕ) (value : Data) → i < length records → r ≡ get_or records i r → key_of r ≡ Some own → number ≡ (content_of old own).number → value ≡ r.value → ((key : Key) → content_of sets key ≡ carried (content_of old key).number (data_of (take i records) key)) → ((key : Key) → content_of sets' key ≡ (if same_key own key then pushed number value (content_of sets key) else content_of sets key)) → (key : Key) → content_of sets' key ≡ carried (content_of old key).number (data_of (take (i + 1) records) key)
made-some sets sets' old records i r own number value inside here is number_is value_is made more key =
    more key ∙ own_case (same_key own key) refl where
      own_case : (b : Bool) → same_key own key ≡ b → (if b then pushed number value (content_of sets key) else content_of sets key) ≡ carried (content_of old key).number (data_of (take (i + 1) records) key)
      own_case true same =
          let there : data_of (take (i + 1) records) key ≡ data_of (take i records) key ++ r.value ∷ [] = data_of-more records i r (Some own) key inside here is ∙ rw same refl in
          let numbers : number ≡ (content_of old key).number = number_is ∙ ap (λ k. (content_of old k).number) ((same_key-Decides own key).0 same) in
          rw (there, is_empty-push (data_of (take i records) key) r.value) (λ j. record { number = numbers j; values = (ap (λ (c : Content). c.values) (made key)) j ++ value_is j ∷ [] })
      own_case false other =
          made key ∙ ap (carried (content_of old key).number) (sym (data_of-more records i r (Some own) key inside here is ∙ rw other (append-nil (data_of (take i records) key))))

any-take_none : {X : Type 0} (p : X → Bool) (xs : List X) (i : ℕ) (d : X) → i ≤ length xs → ((j : ℕ) → j < i → p (get_or xs j d) ≡ false) → list_any p (take i xs) ≡ false
any-take_none p [] zero d inside none = refl
any-take_none p [] (suc i) d inside none = absurd (omega arith)
any-take_none p (x ∷ xs) zero d inside none = refl
any-take_none p (x ∷ xs) (suc i) d inside none =
    rw (none 0 (omega arith)) (any-take_none p xs i d (omega arith) (λ j below. none (suc j) (omega arith)))

-- no key before the next one is the same
before-none : (q : Key → Bool) (keys : List Key) (i : ℕ) (key other : Key) → IsDistinct same_key keys → i < length keys → key ≡ get_or keys i key → same_key key other ≡ true → list_any (λ k. same_key k other) (filter q (take i keys)) ≡ false
before-none q keys i key other distinct inside here same =
    any-filter (λ k. same_key k other) q (take i keys) (any-take_none (λ k. same_key k other) keys i key (omega arith) (λ j below. ap (same_key (get_or keys j key)) (sym ((same_key-Decides key other).0 same) ∙ here) ∙ apart_from_distinct same_key keys j i key distinct below inside))

pub carried-empty : (m n : ℕ) (values : List Data) → is_empty values ≡ true → carried m values ≡ carried n values
carried-empty m n values empty = rw empty refl

-- whether the next key has a set, as before the others were numbered
pub has_set-same : (sets now : OwnerTable) (keys : List Key) (next : ℕ) (key : Key) → content_of now key ≡ numbered_content sets keys next key → has_set now key ≡ has_set sets key
has_set-same sets now keys next key held = ap (λ (c : Content). not (is_empty c.values)) held

pub filter-next : (p : Key → Bool) (keys : List Key) (i : ℕ) (key : Key) → i < length keys → key ≡ get_or keys i key → filter p (take (i + 1) keys) ≡ filter p (take i keys) ++ cond (p key) (key ∷ []) []
filter-next p keys i key inside here =
    filter_more p keys i key inside ∙ ap (λ k. filter p (take i keys) ++ cond (p k) (k ∷ []) []) (sym here)

-- the next key is numbered, where it has a set
pub numbered-step : (sets : OwnerTable) (keys : List Key) (i next : ℕ) (key other : Key) → IsDistinct same_key keys → i < length keys → key ≡ get_or keys i key → (if same_key key other then renumbered (next + length (filter (has_set sets) (take i keys))) (numbered_content sets (take i keys) next other) else numbered_content sets (take i keys) next other) ≡ numbered_content sets (take (i + 1) keys) next other
numbered-step sets keys i next key other distinct inside here = elim (cases_Bool (has_set sets key)) [
  | inl there ↦ rw (filter-next (has_set sets) keys i key inside here, there, from-append (λ k. same_key k other) next (filter (has_set sets) (take i keys)) key) (numbered_case (same_key key other) refl)
  | inr none ↦ rw (filter-next (has_set sets) keys i key inside here, none, append-nil (filter (has_set sets) (take i keys))) (empty_case (same_key key other) refl none)
] where
  numbered_case : (b : Bool) → same_key key other ≡ b → (if b then renumbered (next + length (filter (has_set sets) (take i keys))) (numbered_content sets (take i keys) next other) else numbered_content sets (take i keys) next other) ≡ carried (unwrap_or (option_or (position_from (λ k. same_key k other) next (filter (has_set sets) (take i keys))) (if b then Some (next + length (filter (has_set sets) (take i keys))) else None)) (content_of sets other).number) (content_of sets other).values
  numbered_case true same = rw (from-none (λ k. same_key k other) next (filter (has_set sets) (take i keys)) (before-none (has_set sets) keys i key other distinct inside here same)) refl
  numbered_case false apart = ap (λ place. carried (unwrap_or place (content_of sets other).number) (content_of sets other).values) (whole (position_from (λ k. same_key k other) next (filter (has_set sets) (take i keys)))) where
    whole : (place : Option ℕ) → place ≡ option_or place None
    whole None = refl
    whole (Some n) = refl

  empty_case : (b : Bool) → same_key key other ≡ b → has_set sets key ≡ false → (if b then renumbered (next + length (filter (has_set sets) (take i keys))) (numbered_content sets (take i keys) next other) else numbered_content sets (take i keys) next other) ≡ numbered_content sets (take i keys) next other
  empty_case true same none = carried-empty _ _ (content_of sets other).values (was_true _ (ap (has_set sets) (sym ((same_key-Decides key other).0 same)) ∙ none)) where
    was_true : (b : Bool) → not b ≡ false → b ≡ true
    was_true true h = refl
    was_true false h = sym h
  empty_case false apart none = refl

-- no more numbers are taken by the first of the keys than by all
pub taken-le : (p : Key → Bool) (keys : List Key) (i : ℕ) → length (filter p (take i keys)) ≤ length (filter p keys)
taken-le p [] i = none i where
  none : (i : ℕ) → length (filter p (take i [])) ≤ 0
  none zero = omega arith
  none (suc i) = omega arith
taken-le p (key ∷ keys) zero = omega arith
taken-le p (key ∷ keys) (suc i) = elim (cases_Bool (p key)) [
  | inl kept ↦ rw kept (omega (arith, taken-le p keys i))
  | inr left ↦ rw left (taken-le p keys i)
]

-- before the first key is numbered
pub numbered-start : (sets : OwnerTable) (next : ℕ) (key : Key) → content_of sets key ≡ numbered_content sets [] next key
numbered-start [] next key = refl
numbered-start (owner ∷ owners) next key = elim (cases_Bool (same_name owner.0 key.name)) [
  | inl here ↦ rw here (twice (set_at key.kind owner.1).number (set_at key.kind owner.1).values)
  | inr other ↦ rw other (numbered-start owners next key)
] where
  twice : (number : ℕ) (values : List Data) → carried number values ≡ carried (carried number values).number values
  twice number [] = refl
  twice number (first ∷ values) = refl

-- how many keys were numbered
pub counted-next : (p : Key → Bool) (keys : List Key) (i : ℕ) (key : Key) (b : Bool) → i < length keys → key ≡ get_or keys i key → p key ≡ b → length (filter p (take (i + 1) keys)) ≡ length (filter p (take i keys)) + cond b 1 0
counted-next p keys i key true inside here passes = rw (filter-next p keys i key inside here, passes) (length-append (filter p (take i keys)) (key ∷ []))
counted-next p keys i key false inside here fails = rw (filter-next p keys i key inside here, fails) (length-append (filter p (take i keys)) [])

is_empty-filter : (p : Data → Bool) (values : List Data) → not (is_empty (filter p values)) ≡ list_any p values
is_empty-filter p [] = refl
is_empty-filter p (value ∷ values) = elim (cases_Bool (p value)) [
  | inl kept ↦ rw kept refl
  | inr left ↦ rw left (is_empty-filter p values)
]

-- whether a set has data beside one
pub keys_left-length : (sets : OwnerTable) (r : Record) (key : Key) (b : Bool) → key_of r ≡ Some key → list_any (λ other. not (same_data r.value other)) (content_of sets key).values ≡ b → length (keys_left sets r) ≡ cond b 1 0
keys_left-length sets r key b own test = rw (own, is_empty-filter (λ other. not (same_data r.value other)) (content_of sets key).values, test) (one b) where
  one : (b : Bool) → length (cond b (key ∷ []) []) ≡ cond b 1 0
  one true = refl
  one false = refl

pub keys_left-none : (sets : OwnerTable) (r : Record) → key_of r ≡ None → length (keys_left sets r) ≡ 0
keys_left-none sets r none = rw none refl

-- a truth value as a number
pub bool_byte-is : (b : Bool) → bool_byte b ≡ cond b 1 0
bool_byte-is true = refl
bool_byte-is false = refl
