-- Numbers over lists of edits.
use Rattle.std.proofs.Common.{◌≡◌, ◌⊎◌, ℕ, ◌+◌, ◌^◌, ◌<◌, ◌≤◌, Bool, true, false, List, [], ◌∷◌, Option, None, Some, refl, ap, sym, ◌∙◌, inl, inr, arith}
use Rattle.std.specs.Prelude.{◌↔◌}
use Rattle.std.specs.Option.{option_or}
use Rattle.std.specs.Cmp.{IsEquivalence}
use Rattle.std.specs.List.{list_any, position_from, Contains}
use Rattle.std.proofs.lemmas.Bool.{cases_Bool}
use Rattle.std.proofs.lemmas.Bool.Decides.{Decides-like}
use Rattle.std.proofs.lemmas.Map.Views.{list_any-from_Contains}
use Rattle.sipl_records.specs.declared.record.Record.{Record}
use Rattle.sipl_records.specs.declared.record.Key.{Key}
use Rattle.sipl_records.specs.Sets.{data_of, exists_in, existence_of, is_existence, same_key, set_of}
use Rattle.sipl_records.proofs.Public.{same_key-Decides, equivalence_from_decides, set_of-existence}
use Rattle.sipl_zonestore.specs.declared.fault.StoreFault.{StoreFault}
use Rattle.sipl_zonestore.specs.Edits.{Edit, after, refusal_of}
use Rattle.sipl_zonestore.specs.Numbers.{is_empty, numbered_keys, number_refusal, IsNumbered}
use Rattle.sipl_zonestore.specs.Machine.{NumberedZones, numbered_from, taken_keys, after_accepted, refusal_in, after_unless, after_edits}
use Rattle.sipl_zonestore.proofs.Positions.{from-some, from-same}
use Rattle.sipl_zonestore.proofs.Numbering.{IsTaken, taken, number-cases, numbered-no_existence, numbered-none_empty, numbered-after, set_of-nothing}

flipped : IsEquivalence (λ a b. same_key b a)
flipped = equivalence_from_decides (λ a b. same_key b a) (λ a b. Decides-like (same_key b a) (λ e. sym e) (λ e. sym e) (same_key-Decides b a))

-- a key that takes a number
is-taken : (old new : List Record) (next : ℕ) (numbers : Key → ℕ) (key : Key) → Contains (numbered_keys old new) key → IsTaken old new next numbers key
is-taken old new next numbers key there =
    let among : list_any (λ other. same_key other key) (numbered_keys old new) ≡ true = list_any-from_Contains flipped key (numbered_keys old new) there in
    elim (cases_Bool (is_empty (data_of new key))) [
      | inl empty ↦ let never : true ≡ false = sym among ∙ numbered-none_empty old new key empty in cc
      | inr filled ↦
          let some : (n : ℕ) × (position_from (λ other. same_key other key) next (numbered_keys old new) ≡ Some n) = from-some (λ other. same_key other key) next (numbered_keys old new) among in
          taken old new next numbers key some.0 (numbered-no_existence old new key among) filled some.1
    ]

pub taken-in : (edit : Edit) (state : NumberedZones) (key : Key) → Contains (taken_keys edit state) key → IsTaken state.zones.records (after edit state.zones).records state.next state.numbers key
taken-in edit state key there = is-taken state.zones.records (after edit state.zones).records state.next state.numbers key there

pub numbers-differ : (edit : Edit) (state : NumberedZones) (a b : Key) → Contains (taken_keys edit state) a → Contains (taken_keys edit state) b → (after_accepted edit state).numbers a ≡ (after_accepted edit state).numbers b → a ≡ b
numbers-differ edit state a b in_a in_b same =
    (same_key-Decides a b).0 (from-same state.next ((after_accepted edit state).numbers a) (taken_keys edit state) a b (taken-in edit state a in_a).found ((taken-in edit state b in_b).found ∙ ap (λ n. Some n) (sym same)))

step-le : (fault : Option StoreFault) (edit : Edit) (state : NumberedZones) → state.next ≤ (after_unless fault edit state).next
step-le (Some fault) edit state = omega arith
step-le None edit state = omega arith

pub next-le : (max_records : ℕ) (edits : List Edit) (state : NumberedZones) → state.next ≤ (after_edits max_records edits state).next
next-le max_records [] state = omega arith
next-le max_records (edit ∷ edits) state =
    let later : NumberedZones = after_unless (refusal_in max_records edit state) edit state in
    let first : state.next ≤ later.next = step-le (refusal_in max_records edit state) edit state in
    let rest : later.next ≤ (after_edits max_records edits later).next = next-le max_records edits later in
    omega (arith, first, rest)

-- what holds of the numbers of a state
abbrev pub HasNumbers : NumberedZones → Type 0
HasNumbers state = IsNumbered state.zones.records state.numbers state.next

step-numbers : (max_records : ℕ) (edit : Edit) (state : NumberedZones) (fault : Option StoreFault) → refusal_in max_records edit state ≡ fault → HasNumbers state → HasNumbers (after_unless fault edit state)
step-numbers max_records edit state (Some fault) refused held = held
step-numbers max_records edit state None accepted held =
    numbered-after state.zones.records (after edit state.zones).records state.next state.numbers held (second (refusal_of max_records edit state.zones) (number_refusal state.zones.records (after edit state.zones).records state.next) accepted) where
      second : (first second : Option StoreFault) → option_or first second ≡ None → second ≡ None
      second None other none = none
      second (Some fault) other none = cc

pub run-numbers : (max_records : ℕ) (edits : List Edit) (state : NumberedZones) → HasNumbers state → HasNumbers (after_edits max_records edits state)
run-numbers max_records [] state held = held
run-numbers max_records (edit ∷ edits) state held =
    run-numbers max_records edits (after_unless (refusal_in max_records edit state) edit state) (step-numbers max_records edit state (refusal_in max_records edit state) refl held)

pub start-numbers : (next : ℕ) → 1 ≤ next → next ≤ 2 ^ 52 + 1 → HasNumbers (numbered_from next)
start-numbers next first last =
    record { empty = λ key. (λ none. set_of-nothing key, λ empty. refl); below = λ key other. omega arith; one_key = λ a b _ _ same some. absurd (some refl); last = last }

-- what becomes of a record set: it stays with its number, it is empty, or it has a number that was taken
-- since
abbrev Follows : Key → NumberedZones → NumberedZones → Type 0
Follows key state later =
    ((later.numbers key ≡ state.numbers key) × (set_of later.zones.records key ≡ set_of state.zones.records key)) ⊎ (((set_of later.zones.records key ≡ []) × (later.numbers key ≡ 0)) ⊎ (state.next ≤ later.numbers key))

step-follows : (key : Key) (edit : Edit) (state : NumberedZones) (fault : Option StoreFault) → is_existence key ≡ false → Follows key state (after_unless fault edit state)
step-follows key edit state (Some fault) other = inl (refl, refl)
step-follows key edit state None other = elim (number-cases state.zones.records (after edit state.zones).records state.next state.numbers key other) [
  | inl taken ↦ inr (inr taken.from)
  | inr (inl gone) ↦ inr (inl (gone.empty, gone.zero_number))
  | inr (inr kept) ↦ inl (kept.number, sym kept.same)
]

run-follows : (max_records : ℕ) (edits : List Edit) (key : Key) (state : NumberedZones) → is_existence key ≡ false → Follows key state (after_edits max_records edits state)
run-follows max_records [] key state other = inl (refl, refl)
run-follows max_records (edit ∷ edits) key state other =
    joined (after_unless (refusal_in max_records edit state) edit state) (step-follows key edit state (refusal_in max_records edit state) other) (step-le (refusal_in max_records edit state) edit state) (run-follows max_records edits key (after_unless (refusal_in max_records edit state) edit state) other) where
      joined : (next : NumberedZones) → Follows key state next → state.next ≤ next.next → Follows key next (after_edits max_records edits next) → Follows key state (after_edits max_records edits next)
      joined next (inl first) grows (inl second) = inl (second.0 ∙ first.0, second.1 ∙ first.1)
      joined next (inr (inl first)) grows (inl second) = inr (inl (second.1 ∙ first.0, second.0 ∙ first.1))
      joined next (inr (inr first)) grows (inl second) = inr (inr (omega (arith, first, second.0)))
      joined next first grows (inr (inl second)) = inr (inl second)
      joined next first grows (inr (inr second)) = inr (inr (omega (arith, grows, second)))

-- the number of existence says what its set is
existence-same : (now later : Bool) (number : ℕ) → ((number ≡ 0) ↔ (existence_of now ≡ [])) → ((number ≡ 0) ↔ (existence_of later ≡ [])) → existence_of later ≡ existence_of now
existence-same true true number first second = refl
existence-same false false number first second = refl
existence-same true false number first second = sym (first.0 (second.1 refl))
existence-same false true number first second = second.0 (first.1 refl)

-- a set whose number stayed has not changed
pub kept-sets : (max_records : ℕ) (edits : List Edit) (state : NumberedZones) (key : Key) → HasNumbers state → (after_edits max_records edits state).numbers key ≡ state.numbers key → set_of (after_edits max_records edits state).zones.records key ≡ set_of state.zones.records key
kept-sets max_records edits state key held same = elim (cases_Bool (is_existence key)) [
  | inl of ↦
      let later : NumberedZones = after_edits max_records edits state in
      let now_is = set_of-existence state.zones.records key of in
      let later_is = set_of-existence later.zones.records key of in
      let before = held.empty key in
      let after = (run-numbers max_records edits state held).empty key in
      later_is
      ∙ existence-same (exists_in state.zones.records key.name) (exists_in later.zones.records key.name) (state.numbers key) (λ none. sym now_is ∙ before.0 none, λ empty. before.1 (now_is ∙ empty)) (λ none. sym later_is ∙ after.0 (same ∙ none), λ empty. sym same ∙ after.1 (later_is ∙ empty))
      ∙ sym now_is
  | inr other ↦ elim (run-follows max_records edits key state other) [
    | inl stays ↦ stays.1
    | inr (inl gone) ↦ gone.0 ∙ sym ((held.empty key).0 (sym same ∙ gone.1))
    | inr (inr new) ↦
        let below : state.numbers key < state.next = held.below key other in
        absurd (omega (arith, below, new, same))
  ]
]
