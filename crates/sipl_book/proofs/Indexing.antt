-- The index of the entries, after each change of them.
use Rattle.std.proofs.Common.{◌≡◌, ◌≢◌, ℕ, ◌<◌, ◌≤◌, Bool, true, false, not, ◌&&◌, ◌||◌, cond, eqb, List, [], ◌∷◌, ◌++◌, map, length, filter, Option, None, Some, is_some, option_map, inl, inr, refl, sym, ap, subst, ◌∙◌, arith, true≢false}
use Rattle.std.specs.List.{All, AllPairs, IsDistinct, list_any}
use Rattle.std.specs.Cmp.{nat_eq_equiv}
use Rattle.std.proofs.Math.ListN.{length-map}
use Rattle.std.proofs.lemmas.Bool.{cases_Bool, cond-true, cond-false, cond_both, eq-eqb, or_left, or_right, or_cases, and_parts, and_from}
use Rattle.std.proofs.lemmas.List.Elements.{All-head, All-tail}
use Rattle.std.proofs.lemmas.Map.Made.{length-le_from_is_member}
use Rattle.std.proofs.lemmas.Map.Views.{exact_unsigned_eq}
use Rattle.std.proofs.lemmas.Option.{none-some, same_Some}
use Rattle.sipl_records.specs.declared.record.Key.{Key}
use Rattle.sipl_uri.specs.declared.question.Question.{Question}
use Rattle.sipl_plans.specs.Findings.{Found}
use Rattle.sipl_records.specs.Sets.{same_key}
use Rattle.sipl_evidence.specs.Items.{Item}
use Rattle.sipl_evidence.specs.Known.{known, is_unknown}
use Rattle.sipl_evidence.specs.Dependents.{Dependent, code_of_key, depends, has_code, ids_of}
use Rattle.sipl_records.proofs.Public.{same_key-Decides}
use Rattle.sipl_book.specs.Cache.{InOrder}
use Rattle.sipl_book.specs.Entries.{EntryState, is_of, entry_of, renewed, after_change, depends_on}
use Rattle.sipl_book.specs.Indexed.{HasKeysOf, IsIndexOf, has, is_kept, linked_code, needs, touched}
use Rattle.sipl_book.specs.Repairs.{entry_with, without}
use Rattle.sipl_book.proofs.Caches.{own_ids}
use Rattle.sipl_book.proofs.Committed.{current, is_of_decides, renewed_cases, id-renewed, All-entry_of, question-entry_of}
use Rattle.sipl_book.proofs.Depending.{is_some-known}
use Rattle.sipl_book.proofs.Ids.{differ, eqb-swap, is_id, is_id-ids_of, other_ids, InOrder-head, InOrder-tail, entry_with-is_id, All-entry_with}
use Rattle.sipl_book.proofs.Ids.{ids_of as entry_ids}

-- ---- the entry with an id

abbrev pub passes : (EntryState → Bool) → Option EntryState → Bool
passes test o = elim o [ Some e ↦ test e | None ↦ false ]

entry_with-map : (f : EntryState → EntryState) → ((e : EntryState) → (f e).id ≡ e.id) → (es : List EntryState) (id : ℕ) → entry_with (map f es) id ≡ option_map f (entry_with es id)
entry_with-map f same [] id = refl
entry_with-map f same (e ∷ es) id =
    (λ i. cond (eqb (same e i) id) (Some (f e)) (entry_with-map f same es id i))
    ∙ (elim (eqb e.id id) as (λ b. cond b (Some (f e)) (option_map f (entry_with es id)) ≡ option_map f (cond b (Some e) (entry_with es id))) [ true ↦ refl | false ↦ refl ])

pub has-map : (f : EntryState → EntryState) → ((e : EntryState) → (f e).id ≡ e.id) → (test : EntryState → Bool) (es : List EntryState) (id : ℕ)
    → has test (map f es) id ≡ has (λ e. test (f e)) es id
has-map f same test es id =
    ap (passes test) (entry_with-map f same es id)
    ∙ (elim (entry_with es id) as (λ o. passes test (option_map f o) ≡ passes (λ e. test (f e)) o) [ Some e ↦ refl | None ↦ refl ])

-- tests that agree on the entry with an id
pub has-alike : (P : EntryState → Type 0) (p q : EntryState → Bool) (es : List EntryState) (id : ℕ) → All P es
    → ((e : EntryState) → P e → e.id ≡ id → p e ≡ q e) → has p es id ≡ has q es id
has-alike P p q es id all same = by (entry_with es id) refl
  where
    by : (o : Option EntryState) → entry_with es id ≡ o → passes p o ≡ passes q o
    by None is = refl
    by (Some e) is = let own = All-entry_with P es id e all is in same e own.0 own.1

-- what a test implies of the entry with an id
pub has-implies : (p q : EntryState → Bool) (value : Bool) (es : List EntryState) (id : ℕ) → has p es id ≡ true
    → ((e : EntryState) → e.id ≡ id → p e ≡ true → q e ≡ value) → has q es id ≡ value
has-implies p q value es id is so = by (entry_with es id) refl is
  where
    by : (o : Option EntryState) → entry_with es id ≡ o → passes p o ≡ true → passes q o ≡ value
    by None at none = absurd (true≢false (sym none))
    by (Some e) at here = so e (All-entry_with (λ y. y ≡ y) es id e (λ k d within. refl) at).1 here

pub has-is_id : (test : EntryState → Bool) (es : List EntryState) (id : ℕ) → has test es id ≡ true → is_id es id ≡ true
has-is_id test es id is = sym (entry_with-is_id es id) ∙ by (entry_with es id) is
  where
    by : (o : Option EntryState) → passes test o ≡ true → is_some o ≡ true
    by None none = absurd (true≢false (sym none))
    by (Some e) here = refl

-- an id after those of all entries is that of none
pub has-later : (test : EntryState → Bool) (es : List EntryState) (id : ℕ) → All (λ e. e.id < id) es → has test es id ≡ false
has-later test es id below =
    has-alike (λ e. e.id < id) test (λ _. false) es id below (λ e less same. absurd (omega (arith, less, same)))
    ∙ (elim (entry_with es id) as (λ o. passes (λ _. false) o ≡ false) [ Some e ↦ refl | None ↦ refl ])

-- ---- an entry that a change touches

pub id-touched : (id : ℕ) (key : Key) (e : EntryState) → (touched id key e).id ≡ e.id
id-touched id key e = cond_both (eqb e.id id) (after_change (key ∷ []) e) e (λ x. x.id ≡ e.id) (λ _. refl) (λ _. refl)

pub touched-own : (id : ℕ) (key : Key) (e : EntryState) → eqb e.id id ≡ true → touched id key e ≡ after_change (key ∷ []) e
touched-own id key e own = cond-true (eqb e.id id) (after_change (key ∷ []) e) e own

pub touched-other : (id : ℕ) (key : Key) (e : EntryState) → eqb e.id id ≡ false → touched id key e ≡ e
touched-other id key e other = cond-false (eqb e.id id) (after_change (key ∷ []) e) e other

pub and_not : (a b : Bool) → (a && b) ≡ false → (a && not b) ≡ a
and_not true true is = absurd (true≢false is)
and_not true false is = refl
and_not false b is = refl

and_not_both : (a b : Bool) → (a && b) ≡ true → (a && not b) ≡ false
and_not_both true true is = refl
and_not_both true false is = absurd (true≢false (sym is))
and_not_both false b is = absurd (true≢false (sym is))

pub after_change-same : (key : Key) (e : EntryState) → needs key e ≡ false → after_change (key ∷ []) e ≡ e
after_change-same key e none =
    λ i. record { id = e.id; is_current = and_not e.is_current (depends_on (key ∷ []) e) none i; found = e.found }

pub after_change-outdated : (key : Key) (e : EntryState) → needs key e ≡ true → (after_change (key ∷ []) e).is_current ≡ false
after_change-outdated key e is = and_not_both e.is_current (depends_on (key ∷ []) e) is

pub touched-absent : (id : ℕ) (key : Key) (es : List EntryState) → All (λ e. id < e.id) es → map (touched id key) es ≡ es
touched-absent id key [] above = refl
touched-absent id key (e ∷ es) above =
    let P : EntryState → Type 0 = λ x. id < x.id in
    let here = All-head P e es above in
    λ i. touched-other id key e (differ e.id id (λ same. omega (arith, here, same))) i ∷ touched-absent id key es (All-tail P e es above) i

-- those after the entry with an id have others
pub above_own : (id : ℕ) (e : EntryState) (es : List EntryState) → InOrder (e ∷ es) → eqb e.id id ≡ true → All (λ x. id < x.id) es
above_own id e es order own = subst (λ (n : ℕ). All (λ x. n < x.id) es) (exact_unsigned_eq e.id id own) (InOrder-head e es order)

-- where the entry with an id does not need the key, nothing changes
pub touched-same : (id : ℕ) (key : Key) (es : List EntryState) → InOrder es → has (needs key) es id ≡ false → map (touched id key) es ≡ es
touched-same id key [] order none = refl
touched-same id key (e ∷ es) order none =
    elim (eqb e.id id) as (λ b. eqb e.id id ≡ b → passes (needs key) (cond b (Some e) (entry_with es id)) ≡ false → map (touched id key) (e ∷ es) ≡ e ∷ es) [
      | true ↦ λ own here.
          λ i. (touched-own id key e own ∙ after_change-same key e here) i ∷ touched-absent id key es (above_own id e es order own) i
      | false ↦ λ other later.
          λ i. touched-other id key e other i ∷ touched-same id key es (InOrder-tail e es order) later i
    ] refl none

-- ---- the index

pub IsIndexOf-nil : IsIndexOf [] None []
IsIndexOf-nil =
    record {
      linked = λ _. false;
      same = λ code id. refl;
      current = λ id is. absurd (true≢false (sym is));
      outdated = λ id is. absurd (none-some id is);
    }

-- no outdated entry keeps its pairs
pub no_one_kept : (es : List EntryState) (kept : Option ℕ) (pairs : List Dependent) → IsIndexOf es kept pairs → IsIndexOf es None pairs
no_one_kept es kept pairs so =
    record { linked = so.linked; same = so.same; current = so.current; outdated = λ k is. absurd (none-some k is) }

-- or not that with this id
pub IsIndexOf-cleared : (es : List EntryState) (kept : Option ℕ) (pairs : List Dependent) (id : ℕ) → IsIndexOf es kept pairs
    → IsIndexOf es (cond (is_kept kept id) None kept) pairs
IsIndexOf-cleared es kept pairs id so =
    elim (is_kept kept id) as (λ b. IsIndexOf es (cond b None kept) pairs) [
      | true ↦ no_one_kept es kept pairs so
      | false ↦ so
    ]

pub not_kept : (kept : Option ℕ) (id : ℕ) → cond (is_kept kept id) None kept ≡ Some id → ⊥
not_kept None id is = none-some id is
not_kept (Some own) id is = by (eqb own id) refl is
  where
    by : (b : Bool) → eqb own id ≡ b → cond b None (Some own) ≡ Some id → ⊥
    by true same none = none-some id none
    by false other some = true≢false (sym (eq-eqb own id (same_Some own id some)) ∙ other)

no_pairs : (b : Bool) → (b && false) ≡ false
no_pairs true = refl
no_pairs false = refl

and_again : (a b c : Bool) → (a && (b && c)) ≡ ((a && b) && c)
and_again true b c = refl
and_again false b c = refl

-- the pairs of the outdated entry that kept them leave the index
pub IsIndexOf-released : (es : List EntryState) (kept : Option ℕ) (pairs new : List Dependent) → IsIndexOf es kept pairs
    → ((code other : ℕ) → depends new code other ≡ (not (is_kept kept other) && depends pairs code other)) → IsIndexOf es None new
IsIndexOf-released es kept pairs new so clause =
    record {
      linked = λ k. not (is_kept kept k) && so.linked k;
      same = λ code other.
          clause code other ∙ ap (λ b. not (is_kept kept other) && b) (so.same code other) ∙ within code other (entry_with es other) refl;
      current = λ id is. and_from (not (is_kept kept id)) (so.linked id) (ap not (never id is kept so.outdated)) (so.current id is);
      outdated = λ id is. absurd (none-some id is);
    }
  where
    never : (id : ℕ) → has (λ e. e.is_current) es id ≡ true → (o : Option ℕ)
        → ((k : ℕ) → o ≡ Some k → (so.linked k ≡ true) × (has (λ e. not e.is_current) es k ≡ true)) → is_kept o id ≡ false
    never id is None outdated = refl
    never id is (Some last) outdated =
        differ last id (λ same.
        true≢false (sym (outdated last refl).1 ∙ ap (has (λ e. not e.is_current) es) same
        ∙ has-implies (λ e. e.is_current) (λ e. not e.is_current) false es id is (λ e _ here. ap not here)))

    within : (code other : ℕ) (o : Option EntryState) → entry_with es other ≡ o
        → (not (is_kept kept other) && passes (linked_code so.linked code) o) ≡ passes (linked_code (λ k. not (is_kept kept k) && so.linked k) code) o
    within code other None is = no_pairs (not (is_kept kept other))
    within code other (Some e) is =
        let own : e.id ≡ other = (All-entry_with (λ y. y ≡ y) es other e (λ k d within. refl) is).1 in
        ap (λ n. not (is_kept kept n) && linked_code so.linked code e) (sym own)
        ∙ and_again (not (is_kept kept e.id)) (so.linked e.id) (has_code e.found.items code)

linked-touched : (linked : ℕ → Bool) (code id : ℕ) (key : Key) (e : EntryState) → linked_code linked code (touched id key e) ≡ linked_code linked code e
linked-touched linked code id key e =
    cond_both (eqb e.id id) (after_change (key ∷ []) e) e (λ x. linked_code linked code x ≡ linked_code linked code e) (λ _. refl) (λ _. refl)

still_current : (id : ℕ) (key : Key) (e : EntryState) → (touched id key e).is_current ≡ true → e.is_current ≡ true
still_current id key e =
    cond_both (eqb e.id id) (after_change (key ∷ []) e) e (λ x. x.is_current ≡ true → e.is_current ≡ true)
    (λ _ here. (and_parts e.is_current (not (depends_on (key ∷ []) e)) here).0) (λ _ here. here)

-- an entry that needs a key is current
needs_current : (key : Key) (es : List EntryState) (id : ℕ) → has (needs key) es id ≡ true → has (λ e. e.is_current) es id ≡ true
needs_current key es id is =
    has-implies (needs key) (λ e. e.is_current) true es id is (λ e _ need. (and_parts e.is_current (depends_on (key ∷ []) e) need).0)

-- an entry that becomes outdated keeps its pairs
pub IsIndexOf-touched : (id : ℕ) (key : Key) (es : List EntryState) (pairs : List Dependent) → IsIndexOf es None pairs → has (needs key) es id ≡ true
    → IsIndexOf (map (touched id key) es) (Some id) pairs
IsIndexOf-touched id key es pairs so is =
    record {
      linked = so.linked;
      same = λ code other.
          so.same code other
          ∙ has-alike (λ e. e ≡ e) (linked_code so.linked code) (λ e. linked_code so.linked code (touched id key e)) es other (λ k d within. refl)
          (λ e _ _. sym (linked-touched so.linked code id key e))
          ∙ sym (has-map (touched id key) (id-touched id key) (linked_code so.linked code) es other);
      current = λ k now.
          so.current k (has-implies (λ e. (touched id key e).is_current) (λ e. e.is_current) true es k
          (sym (has-map (touched id key) (id-touched id key) (λ e. e.is_current) es k) ∙ now) (λ e _ here. still_current id key e here));
      outdated = λ k own.
          let same = same_Some id k own in (
            ap so.linked (sym same) ∙ so.current id (needs_current key es id is),
            subst (λ (n : ℕ). has (λ e. not e.is_current) (map (touched id key) es) n ≡ true) same gone,
          );
    }
  where
    gone : has (λ e. not e.is_current) (map (touched id key) es) id ≡ true
    gone =
        has-map (touched id key) (id-touched id key) (λ e. not e.is_current) es id
        ∙ has-implies (needs key) (λ e. not (touched id key e).is_current) true es id is
        (λ e here need. ap (λ (x : EntryState). not x.is_current) (touched-own id key e (eq-eqb e.id id here)) ∙ ap not (after_change-outdated key e need))

-- the entry of a question is the one with its id
entry_with-own : (q : Question) (es : List EntryState) (own : EntryState) → InOrder es → entry_of es q ≡ Some own → entry_with es own.id ≡ Some own
entry_with-own q [] own order found = absurd (none-some own found)
entry_with-own q (x ∷ es) own order found =
    elim (is_of q x) as (λ b. cond b (Some x) (entry_of es q) ≡ Some own → cond (eqb x.id own.id) (Some x) (entry_with es own.id) ≡ Some own) [
      | true ↦ λ first.
          let same = same_Some x own first in
          cond-true (eqb x.id own.id) (Some x) (entry_with es own.id) (eq-eqb x.id own.id (ap (λ (e : EntryState). e.id) same)) ∙ first
      | false ↦ λ later.
          let less = All-entry_of (λ e. x.id < e.id) q es own (InOrder-head x es order) later in
          cond-false (eqb x.id own.id) (Some x) (entry_with es own.id) (differ x.id own.id (λ is. omega (arith, less, is)))
          ∙ entry_with-own q es own (InOrder-tail x es order) later
    ] found

pub or_false : (b : Bool) → (b || false) ≡ b
or_false true = refl
or_false false = refl

-- the pairs of an entry that is renewed
pub IsIndexOf-renewed : (found : Found) (es : List EntryState) (own : EntryState) (kept : Option ℕ) (pairs new : List Dependent) → InOrder es
    → AllPairs (λ a b. a.found.question ≢ b.found.question) es → entry_of es found.question ≡ Some own → IsIndexOf es kept pairs
    → (kept ≡ Some own.id → ⊥)
    → ((code other : ℕ) → depends new code other ≡ ((eqb own.id other && has_code found.items code) || (not (eqb own.id other) && depends pairs code other)))
    → IsIndexOf (map (renewed found) es) kept new
IsIndexOf-renewed found es own kept pairs new order apart is so not_kept clause =
    record {
      linked = λ k. eqb own.id k || so.linked k;
      same = λ code other.
          clause code other
          ∙ ap (λ b. (eqb own.id other && has_code found.items code) || (not (eqb own.id other) && b)) (so.same code other)
          ∙ by code other (eqb own.id other) refl
          ∙ sym (has-map (renewed found) (id-renewed found) (linked_code (λ k. eqb own.id k || so.linked k) code) es other);
      current = λ k now. elim (cases_Bool (eqb own.id k)) [
        | inl mine ↦ or_left (eqb own.id k) (so.linked k) mine
        | inr other ↦ or_right (eqb own.id k) (so.linked k) (so.current k (sym (others (λ e. e.is_current) k other) ∙ now))
      ];
      outdated = λ k here.
          let other : eqb own.id k ≡ false = differ own.id k (λ same. not_kept (here ∙ ap Some (sym same))) in (
            or_right (eqb own.id k) (so.linked k) (so.outdated k here).0,
            others (λ e. not e.is_current) k other ∙ (so.outdated k here).1,
          );
    }
  where
    others : (test : EntryState → Bool) (k : ℕ) → eqb own.id k ≡ false → has test (map (renewed found) es) k ≡ has test es k
    others test k different =
        has-map (renewed found) (id-renewed found) test es k
        ∙ has-alike (λ e. e.found.question ≡ found.question → e.id ≡ own.id) (λ e. test (renewed found e)) test es k
        (own_ids found.question es own apart is)
        (λ e mine here. renewed_cases found e (λ x. test x ≡ test e)
        (λ same. absurd (true≢false (sym (eq-eqb own.id k (sym (mine same) ∙ here)) ∙ different))) (λ _. refl))

    by : (code other : ℕ) (b : Bool) → eqb own.id other ≡ b
        → ((b && has_code found.items code) || (not b && has (linked_code so.linked code) es other))
        ≡ has (λ e. linked_code (λ k. eqb own.id k || so.linked k) code (renewed found e)) es other
    by code other true same =
        or_false (has_code found.items code)
        ∙ renewed_cases found own (λ x. has_code found.items code ≡ linked_code (λ k. eqb own.id k || so.linked k) code x)
        (λ _. sym (ap (λ b. (b || so.linked own.id) && has_code found.items code) (eq-eqb own.id own.id refl)))
        (λ not_own. absurd (not_own (question-entry_of found.question es own is)))
        ∙ sym (ap (passes (λ e. linked_code (λ k. eqb own.id k || so.linked k) code (renewed found e)))
        (ap (entry_with es) (sym (exact_unsigned_eq own.id other same)) ∙ entry_with-own found.question es own order is))
    by code other false different =
        has-alike (λ e. e.found.question ≡ found.question → e.id ≡ own.id) (linked_code so.linked code)
        (λ e. linked_code (λ k. eqb own.id k || so.linked k) code (renewed found e)) es other
        (own_ids found.question es own apart is)
        (λ e mine here. renewed_cases found e (λ x. linked_code so.linked code e ≡ linked_code (λ k. eqb own.id k || so.linked k) code x)
        (λ same. absurd (true≢false (sym (eq-eqb own.id other (sym (mine same) ∙ here)) ∙ different)))
        (λ _. ap (λ b. (b || so.linked e.id) && has_code e.found.items code) (sym (ap (eqb own.id) here ∙ different))))

has_code-map : (items : List Item) (code : ℕ) → has_code items code ≡ list_any (λ k. eqb (code_of_key k) code) (map (λ (i : Item). i.key) items)
has_code-map [] code = refl
has_code-map (item ∷ items) code = ap (λ b. eqb (code_of_key item.key) code || b) (has_code-map items code)

-- a renewed entry whose pairs were kept, and whose keys are the same, has its pairs
pub kept_pairs : (found : Found) (es : List EntryState) (own : EntryState) (pairs : List Dependent) → InOrder es
    → entry_of es found.question ≡ Some own → IsIndexOf es (Some own.id) pairs → HasKeysOf found.items own
    → (code other : ℕ) → depends pairs code other ≡ ((eqb own.id other && has_code found.items code) || (not (eqb own.id other) && depends pairs code other))
kept_pairs found es own pairs order is so keys code other = by (eqb own.id other) refl
  where
    by : (b : Bool) → eqb own.id other ≡ b → depends pairs code other ≡ ((b && has_code found.items code) || (not b && depends pairs code other))
    by true same =
        ap (depends pairs code) (sym (exact_unsigned_eq own.id other same)) ∙ so.same code own.id
        ∙ ap (passes (linked_code so.linked code)) (entry_with-own found.question es own order is)
        ∙ ap (λ b. b && has_code own.found.items code) (so.outdated own.id refl).0
        ∙ has_code-map own.found.items code ∙ ap (list_any (λ k. eqb (code_of_key k) code)) keys ∙ sym (has_code-map found.items code)
        ∙ sym (or_false (has_code found.items code))
    by false apart = refl

-- a new entry is after those that are there
has-added : (test : EntryState → Bool) (es : List EntryState) (x : EntryState) (id : ℕ) → All (λ e. e.id < x.id) es
    → has test (es ++ x ∷ []) id ≡ ((eqb x.id id && test x) || has test es id)
has-added test [] x id below =
    elim (eqb x.id id) as (λ b. passes test (cond b (Some x) None) ≡ ((b && test x) || false)) [ true ↦ sym (or_false (test x)) | false ↦ refl ]
has-added test (e ∷ es) x id below =
    let P : EntryState → Type 0 = λ y. y.id < x.id in
    let here = All-head P e es below in
    elim (eqb e.id id) as (λ b. eqb e.id id ≡ b → passes test (cond b (Some e) (entry_with (es ++ x ∷ []) id)) ≡ ((eqb x.id id && test x) || passes test (cond b (Some e) (entry_with es id)))) [
      | true ↦ λ own.
          let same = exact_unsigned_eq e.id id own in
          ap (λ b. (b && test x) || test e) (sym (differ x.id id (λ is. omega (arith, here, same, is))))
      | false ↦ λ other. has-added test es x id (All-tail P e es below)
    ] refl

pub IsIndexOf-added : (found : Found) (number : ℕ) (es : List EntryState) (kept : Option ℕ) (pairs new : List Dependent) → All (λ e. e.id < number) es
    → IsIndexOf es kept pairs
    → ((code other : ℕ) → depends new code other ≡ ((eqb number other && has_code found.items code) || depends pairs code other))
    → IsIndexOf (es ++ current number found ∷ []) kept new
IsIndexOf-added found number es kept pairs new below so clause =
    record {
      linked = λ k. eqb number k || so.linked k;
      same = λ code other.
          clause code other
          ∙ (λ i. (eqb number other && own code i) || (so.same code other ∙ older code other) i)
          ∙ sym (has-added (linked_code (λ k. eqb number k || so.linked k) code) es (current number found) other below);
      current = λ k now. elim (cases_Bool (eqb number k)) [
        | inl mine ↦ or_left (eqb number k) (so.linked k) mine
        | inr other ↦
            or_right (eqb number k) (so.linked k)
            (so.current k (sym (has-added (λ e. e.is_current) es (current number found) k below ∙ ap (λ b. (b && true) || has (λ e. e.is_current) es k) other) ∙ now))
      ];
      outdated = λ k is. (
        or_right (eqb number k) (so.linked k) (so.outdated k is).0,
        has-added (λ e. not e.is_current) es (current number found) k below
            ∙ or_right (eqb number k && false) (has (λ e. not e.is_current) es k) (so.outdated k is).1,
      );
    }
  where
    own : (code : ℕ) → has_code found.items code ≡ linked_code (λ k. eqb number k || so.linked k) code (current number found)
    own code = sym (ap (λ b. (b || so.linked number) && has_code found.items code) (eq-eqb number number refl))

    older : (code other : ℕ) → has (linked_code so.linked code) es other ≡ has (linked_code (λ k. eqb number k || so.linked k) code) es other
    older code other =
        has-alike (λ e. e.id < number) (linked_code so.linked code) (linked_code (λ k. eqb number k || so.linked k) code) es other below
        (λ e less _. ap (λ b. (b || so.linked e.id) && has_code e.found.items code) (sym (differ number e.id (λ same. omega (arith, less, same)))))

-- pairs that were added and removed again
pub IsIndexOf-unchanged : (found : Found) (number : ℕ) (es : List EntryState) (kept : Option ℕ) (pairs more new : List Dependent) → All (λ e. e.id < number) es
    → IsIndexOf es kept pairs
    → ((code other : ℕ) → depends more code other ≡ ((eqb number other && has_code found.items code) || depends pairs code other))
    → ((code other : ℕ) → depends new code other ≡ (not (eqb number other) && depends more code other))
    → IsIndexOf es kept new
IsIndexOf-unchanged found number es kept pairs more new below so clause gone =
    record {
      linked = so.linked;
      same = λ code other.
          gone code other ∙ ap (λ b. not (eqb number other) && b) (clause code other) ∙ by code other (eqb number other) refl ∙ so.same code other;
      current = so.current;
      outdated = so.outdated;
    }
  where
    by : (code other : ℕ) (b : Bool) → eqb number other ≡ b → (not b && ((b && has_code found.items code) || depends pairs code other)) ≡ depends pairs code other
    by code other true same =
        sym (so.same code other ∙ has-later (linked_code so.linked code) es other (subst (λ (n : ℕ). All (λ e. e.id < n) es) (exact_unsigned_eq number other same) below))
    by code other false apart = refl

-- the entry of a question is removed
has-without : (test : EntryState → Bool) (q : Question) (es : List EntryState) (own other : ℕ) → All (λ e. e.found.question ≡ q → e.id ≡ own) es
    → All (λ e. e.found.question ≢ q → eqb e.id own ≡ false) es → has test (without q es) other ≡ (not (eqb own other) && has test es other)
has-without test q [] own other mine others = elim (eqb own other) as (λ b. false ≡ (not b && false)) [ true ↦ refl | false ↦ refl ]
has-without test q (e ∷ es) own other mine others =
    let M : EntryState → Type 0 = λ x. x.found.question ≡ q → x.id ≡ own in
    let O : EntryState → Type 0 = λ x. x.found.question ≢ q → eqb x.id own ≡ false in
    by (is_of q e) (is_of_decides q e).0 (λ not_of same. true≢false (sym ((is_of_decides q e).1 same) ∙ not_of))
    (All-head M e es mine) (All-head O e es others) (has-without test q es own other (All-tail M e es mine) (All-tail O e es others))
  where
    rest : List EntryState
    rest = without q es

    by : (b : Bool) → (b ≡ true → e.found.question ≡ q) → (b ≡ false → e.found.question ≢ q)
        → (e.found.question ≡ q → e.id ≡ own) → (e.found.question ≢ q → eqb e.id own ≡ false)
        → has test rest other ≡ (not (eqb own other) && has test es other)
        → has test (cond (not b) (e ∷ rest) rest) other ≡ (not (eqb own other) && passes test (cond (eqb e.id other) (Some e) (entry_with es other)))
    by true of _ mine _ recur =
        recur ∙ (elim (eqb e.id other) as (λ c. eqb e.id other ≡ c → (not (eqb own other) && has test es other) ≡ (not (eqb own other) && passes test (cond c (Some e) (entry_with es other)))) [
          | true ↦ λ here.
              let gone : eqb own other ≡ true = ap (λ n. eqb n other) (sym (mine (of refl))) ∙ here in
              ap (λ b. not b && has test es other) gone ∙ ap (λ b. not b && test e) (sym gone)
          | false ↦ λ _. refl
        ] refl)
    by false _ not_of _ other_id recur =
        elim (eqb e.id other) as (λ c. eqb e.id other ≡ c → passes test (cond c (Some e) (entry_with rest other)) ≡ (not (eqb own other) && passes test (cond c (Some e) (entry_with es other)))) [
          | true ↦ λ here.
              let apart : eqb own other ≡ false = differ own other (λ same. true≢false (sym (eq-eqb e.id own (exact_unsigned_eq e.id other here ∙ sym same)) ∙ other_id (not_of refl))) in
              ap (λ b. not b && test e) (sym apart)
          | false ↦ λ _. recur
        ] refl

pub IsIndexOf-removed : (q : Question) (es : List EntryState) (own : EntryState) (kept : Option ℕ) (pairs new : List Dependent) → InOrder es
    → AllPairs (λ a b. a.found.question ≢ b.found.question) es → entry_of es q ≡ Some own → IsIndexOf es kept pairs → (kept ≡ Some own.id → ⊥)
    → ((code other : ℕ) → depends new code other ≡ (not (eqb own.id other) && depends pairs code other)) → IsIndexOf (without q es) kept new
IsIndexOf-removed q es own kept pairs new order apart is so not_kept clause =
    record {
      linked = so.linked;
      same = λ code other.
          clause code other ∙ ap (λ b. not (eqb own.id other) && b) (so.same code other) ∙ sym (rest (linked_code so.linked code) other);
      current = λ k now.
          so.current k (and_parts (not (eqb own.id k)) (has (λ e. e.is_current) es k) (sym (rest (λ e. e.is_current) k) ∙ now)).1;
      outdated = λ k here. (
        (so.outdated k here).0,
        rest (λ e. not e.is_current) k
            ∙ and_from (not (eqb own.id k)) (has (λ e. not e.is_current) es k) (ap not (differ own.id k (λ same. not_kept (here ∙ ap Some (sym same))))) (so.outdated k here).1,
      );
    }
  where
    rest : (test : EntryState → Bool) (k : ℕ) → has test (without q es) k ≡ (not (eqb own.id k) && has test es k)
    rest test k = has-without test q es own.id k (own_ids q es own apart is) (other_ids q es own order is)

-- ---- the ids of a code

pub ids_of-depends : (pairs : List Dependent) (code k : ℕ) → list_any (eqb k) (ids_of pairs code) ≡ depends pairs code k
ids_of-depends [] code k = refl
ids_of-depends (p ∷ pairs) code k =
    elim (eqb p.code code) as (λ b. list_any (eqb k) (map (λ (x : Dependent). x.id) (cond b (p ∷ filter (λ x. eqb x.code code) pairs) (filter (λ x. eqb x.code code) pairs))) ≡ ((b && eqb p.id k) || depends pairs code k)) [
      | true ↦ λ i. eqb-swap k p.id i || ids_of-depends pairs code k i
      | false ↦ ids_of-depends pairs code k
    ]

-- each is that of an entry
pub few_ids : (es : List EntryState) (kept : Option ℕ) (pairs : List Dependent) (code : ℕ) → IsIndexOf es kept pairs → IsDistinct eqb (ids_of pairs code) → length (ids_of pairs code) ≤ length es
few_ids es kept pairs code so distinct =
    let within = length-le_from_is_member nat_eq_equiv (ids_of pairs code) (entry_ids es) distinct (λ k there.
    is_id-ids_of es k ∙ has-is_id (linked_code so.linked code) es k (sym (so.same code k) ∙ sym (ids_of-depends pairs code k) ∙ there)) in
    omega (arith, within, length-map es (λ (e : EntryState). e.id))

-- ---- a key and its code

not_not : (b : Bool) → not (not b) ≡ b
not_not true = refl
not_not false = refl

-- a key in the evidence has its code there
coded : (items : List Item) (key : Key) → list_any (λ item. same_key item.key key) items ≡ true → has_code items (code_of_key key) ≡ true
coded [] key there = absurd (true≢false (sym there))
coded (item ∷ items) key there =
    elim (or_cases (same_key item.key key) (list_any (λ x. same_key x.key key) items) there) [
      | inl same ↦ or_left (eqb (code_of_key item.key) (code_of_key key)) (has_code items (code_of_key key)) (eq-eqb _ _ (ap code_of_key ((same_key-Decides item.key key).0 same)))
      | inr later ↦ or_right (eqb (code_of_key item.key) (code_of_key key)) (has_code items (code_of_key key)) (coded items key later)
    ]

needs-code : (key : Key) (e : EntryState) → needs key e ≡ true → has_code e.found.items (code_of_key key) ≡ true
needs-code key e need =
    coded e.found.items key (sym (is_some-known e.found.items key) ∙ sym (not_not (is_some (known e.found.items key))) ∙ sym (or_false (not (is_unknown e.found.items key)))
    ∙ (and_parts e.is_current (depends_on (key ∷ []) e) need).1)

-- the current entries that have a key are among those with its code
pub candidate : (key : Key) (es : List EntryState) (kept : Option ℕ) (pairs : List Dependent) (id : ℕ) → IsIndexOf es kept pairs → has (needs key) es id ≡ true
    → depends pairs (code_of_key key) id ≡ true
candidate key es kept pairs id so need =
    so.same (code_of_key key) id
    ∙ has-implies (needs key) (linked_code so.linked (code_of_key key)) true es id need
    (λ e here is. and_from (so.linked e.id) (has_code e.found.items (code_of_key key)) (ap so.linked here ∙ so.current id (needs_current key es id need)) (needs-code key e is))

none_there : (k : ℕ) (ids : List ℕ) → length ids ≡ 0 → list_any (eqb k) ids ≡ false
none_there k [] none = refl
none_there k (x ∷ ids) none = absurd (omega (arith, none))

pub no_candidate : (key : Key) (es : List EntryState) (kept : Option ℕ) (pairs : List Dependent) (id : ℕ) → IsIndexOf es kept pairs → has (needs key) es id ≡ true
    → length (ids_of pairs (code_of_key key)) ≡ 0 → ⊥
no_candidate key es kept pairs id so need none =
    true≢false (sym (candidate key es kept pairs id so need) ∙ sym (ids_of-depends pairs (code_of_key key) id) ∙ none_there id (ids_of pairs (code_of_key key)) none)
