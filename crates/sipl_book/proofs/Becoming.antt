-- The entries that become outdated, and the ids that are kept of them.
use Rattle.std.proofs.Common.{◌≡◌, ℕ, ◌+◌, ◌<◌, ◌≤◌, Bool, true, false, not, ◌&&◌, ◌||◌, cond, eqb, suc, zero, List, [], ◌∷◌, ◌++◌, map, length, filter, drop, get_or, None, Some, inl, inr, refl, sym, ap, subst, ◌∙◌, arith, true≢false}
use Rattle.std.specs.List.{list_any, count_by}
use Rattle.std.proofs.lemmas.Bool.{cases_Bool, eq-eqb, cond-true, cond-false}
use Rattle.std.proofs.Math.ListN.{length-map}
use Rattle.std.proofs.lemmas.List.{at_drop_all, at_drop_more}
use Rattle.std.proofs.lemmas.List.Sums.{sum_by-cons}
use Rattle.std.proofs.lemmas.Map.Views.{exact_unsigned_eq}
use Rattle.sipl_records.specs.declared.record.Key.{Key}
use Rattle.sipl_evidence.specs.Known.{is_unknown}
use Rattle.sipl_book.specs.Cache.{InOrder}
use Rattle.sipl_book.specs.Entries.{EntryState, after_change, depends_on}
use Rattle.sipl_book.specs.Indexed.{AreAdded, current_count, has, needs, touched}
use Rattle.sipl_book.specs.Repairs.{dependents, entry_with}
use Rattle.sipl_book.proofs.Caches.{InOrder-after_change}
use Rattle.sipl_book.proofs.Committed.{AllPairs-map}
use Rattle.sipl_book.proofs.Ids.{InOrder-tail}
use Rattle.sipl_book.proofs.Indexing.{above_own, after_change-outdated, after_change-same, has-alike, has-map, id-touched, passes, touched-absent, touched-other, touched-own, touched-same}

-- ---- how many are current

abbrev pub one : Bool → ℕ
one b = cond b 1 0

pub count-cons : {X : Type 0} (p : X → Bool) (x : X) (xs : List X) → count_by p (x ∷ xs) ≡ one (p x) + count_by p xs
count-cons p x xs = sum_by-cons (λ y. cond (p y) 1 0) x xs

-- a current entry that is made outdated is one less
pub touched-count : (test : ℕ → Bool) (id : ℕ) (key : Key) (es : List EntryState) → InOrder es → has (needs key) es id ≡ true
    → current_count test (map (touched id key) es) + cond (test id) 1 0 ≡ current_count test es
touched-count test id key [] order is = absurd (true≢false (sym is))
touched-count test id key (e ∷ es) order is =
    elim (eqb e.id id) as (λ b. eqb e.id id ≡ b → passes (needs key) (cond b (Some e) (entry_with es id)) ≡ true
    → current_count test (map (touched id key) (e ∷ es)) + cond (test id) 1 0 ≡ current_count test (e ∷ es)) [
      | true ↦ λ own here.
          let rest = ap (current_count test) (touched-absent id key es (above_own id e es order own)) in
          let now : one (counts (touched id key e)) ≡ 0 =
          ap (λ (x : EntryState). one (counts x)) (touched-own id key e own) ∙ ap (λ b. one (test e.id && b)) (after_change-outdated key e here) ∙ none (test e.id) in
          let before : one (counts e) ≡ one (test id) =
          ap (λ b. one (test e.id && b)) (first e.is_current (depends_on (key ∷ []) e) here) ∙ ap one (both (test e.id)) ∙ ap (λ n. one (test n)) (exact_unsigned_eq e.id id own) in
          omega (arith, rest, now, before, count-cons counts e es, count-cons counts (touched id key e) (map (touched id key) es))
      | false ↦ λ other later.
          let here = ap (λ (x : EntryState). one (counts x)) (touched-other id key e other) in
          omega (arith, here, touched-count test id key es (InOrder-tail e es order) later, count-cons counts e es, count-cons counts (touched id key e) (map (touched id key) es))
    ] refl is
  where
    counts : EntryState → Bool
    counts x = test x.id && x.is_current

    none : (b : Bool) → one (b && false) ≡ 0
    none true = refl
    none false = refl

    both : (b : Bool) → (b && true) ≡ b
    both true = refl
    both false = refl

    first : (a b : Bool) → (a && b) ≡ true → a ≡ true
    first true b is = refl
    first false b is = is

pub AreAdded-refl : (es : List EntryState) (ids : List ℕ) → AreAdded es es ids ids
AreAdded-refl es ids = record { each = λ test. refl }

pub AreAdded-trans : (first then last : List EntryState) (old mid new : List ℕ) → AreAdded first then old mid → AreAdded then last mid new → AreAdded first last old new
AreAdded-trans first then last old mid new a b = record { each = λ test. omega (arith, a.each test, b.each test) }

count-push : (test : ℕ → Bool) (ids : List ℕ) (id : ℕ) → count_by test (ids ++ id ∷ []) ≡ count_by test ids + cond (test id) 1 0
count-push test [] id = omega (arith, count-cons test id [])
count-push test (x ∷ ids) id = omega (arith, count-push test ids id, count-cons test x ids, count-cons test x (ids ++ id ∷ []))

pub AreAdded-touched : (id : ℕ) (key : Key) (es : List EntryState) (ids : List ℕ) → InOrder es → has (needs key) es id ≡ true
    → AreAdded es (map (touched id key) es) ids (ids ++ id ∷ [])
AreAdded-touched id key es ids order is =
    record { each = λ test. omega (arith, touched-count test id key es order is, count-push test ids id) }

-- all ids are counted by a test that always passes
count-all : (ids : List ℕ) → count_by (λ (id : ℕ). true) ids ≡ length ids
count-all [] = refl
count-all (x ∷ ids) = omega (arith, count-all ids, count-cons (λ (id : ℕ). true) x ids)

pub added-length : (before after : List EntryState) (old new : List ℕ) → AreAdded before after old new
    → length new + current_count (λ id. true) after ≡ length old + current_count (λ id. true) before
added-length before after old new so = omega (arith, so.each (λ id. true), count-all old, count-all new)

-- the id of a current entry is one of those
pub some_current : (id : ℕ) (key : Key) (es : List EntryState) → InOrder es → has (needs key) es id ≡ true → 1 ≤ current_count (λ id. true) es
some_current id key es order is = let less = touched-count (λ id. true) id key es order is in omega (arith, less)

pub current_count-le : (es : List EntryState) → current_count (λ id. true) es ≤ length es
current_count-le [] = omega arith
current_count-le (e ∷ es) =
    let rest = current_count-le es in
    let here : one e.is_current ≤ 1 = elim (e.is_current) as (λ b. one b ≤ 1) [ true ↦ omega arith | false ↦ omega arith ] in
    omega (arith, rest, here, count-cons (λ (x : EntryState). true && x.is_current) e es)

-- ---- the entries in order

pub InOrder-touched : (id : ℕ) (key : Key) (es : List EntryState) → InOrder es → InOrder (map (touched id key) es)
InOrder-touched id key es order =
    AllPairs-map (touched id key) (λ a b. a.id < b.id) (λ a b. a.id < b.id)
    (λ a b below. let first = id-touched id key a in let second = id-touched id key b in omega (arith, below, first, second)) es order

-- ---- one key

and_twice : (a b : Bool) → ((a && not b) && not b) ≡ (a && not b)
and_twice true true = refl
and_twice true false = refl
and_twice false b = refl

-- a change after a touch is that change
after_change-touched : (id : ℕ) (key : Key) (e : EntryState) → after_change (key ∷ []) (touched id key e) ≡ after_change (key ∷ []) e
after_change-touched id key e = elim (cases_Bool (eqb e.id id)) [
  | inl own ↦
      ap (after_change (key ∷ [])) (touched-own id key e own)
      ∙ (λ i. record { id = e.id; is_current = and_twice e.is_current (depends_on (key ∷ []) e) i; found = e.found })
  | inr other ↦ ap (after_change (key ∷ [])) (touched-other id key e other)
]

pub change-touched : (id : ℕ) (key : Key) (es : List EntryState) → map (after_change (key ∷ [])) (map (touched id key) es) ≡ map (after_change (key ∷ [])) es
change-touched id key [] = refl
change-touched id key (e ∷ es) = λ i. after_change-touched id key e i ∷ change-touched id key es i

-- what needs a key after a touch needed it before, and has another id
pub needs-touched : (id : ℕ) (key : Key) (es : List EntryState) (k : ℕ) → has (needs key) (map (touched id key) es) k ≡ true
    → (has (needs key) es k ≡ true) × (eqb k id ≡ false)
needs-touched id key es k need =
    let shown = sym (has-map (touched id key) (id-touched id key) (needs key) es k) ∙ need in
    elim (cases_Bool (eqb k id)) [
      | inl same ↦ absurd (true≢false (sym shown ∙ gone same))
      | inr other ↦ (sym (alike other) ∙ shown, other)
    ]
  where
    still : (a b : Bool) → ((a && not b) && b) ≡ false
    still true true = refl
    still true false = refl
    still false b = refl

    not_needed : (e : EntryState) → eqb e.id id ≡ true → needs key (touched id key e) ≡ false
    not_needed e own = ap (needs key) (touched-own id key e own) ∙ still e.is_current (depends_on (key ∷ []) e)

    gone : eqb k id ≡ true → has (λ e. needs key (touched id key e)) es k ≡ false
    gone same =
        has-alike (λ e. e ≡ e) (λ e. needs key (touched id key e)) (λ _. false) es k (λ i d within. refl)
        (λ e _ here. not_needed e (eq-eqb e.id id (here ∙ exact_unsigned_eq k id same)))
        ∙ (elim (entry_with es k) as (λ o. passes (λ _. false) o ≡ false) [ Some e ↦ refl | None ↦ refl ])

    alike : eqb k id ≡ false → has (λ e. needs key (touched id key e)) es k ≡ has (needs key) es k
    alike other =
        has-alike (λ e. e ≡ e) (λ e. needs key (touched id key e)) (needs key) es k (λ i d within. refl)
        (λ e _ here. ap (needs key) (touched-other id key e (ap (λ n. eqb n id) here ∙ other)))

-- where no entry needs a key, the first does not, and those after it do not
first_needs : (key : Key) (e : EntryState) (es : List EntryState) → ((k : ℕ) → has (needs key) (e ∷ es) k ≡ false) → needs key e ≡ false
first_needs key e es none = sym (ap (passes (needs key)) (cond-true (eqb e.id e.id) (Some e) (entry_with es e.id) (eq-eqb e.id e.id refl))) ∙ none e.id

none_later : (key : Key) (e : EntryState) (es : List EntryState) → InOrder (e ∷ es) → ((k : ℕ) → has (needs key) (e ∷ es) k ≡ false) → (k : ℕ) → has (needs key) es k ≡ false
none_later key e es order none k = elim (cases_Bool (eqb e.id k)) [
  | inl own ↦
      let above = above_own k e es order own in
      has-alike (λ x. k < x.id) (needs key) (λ _. false) es k above (λ x less same. absurd (omega (arith, less, same)))
      ∙ (elim (entry_with es k) as (λ o. passes (λ _. false) o ≡ false) [ Some x ↦ refl | None ↦ refl ])
  | inr other ↦ sym (ap (passes (needs key)) (cond-false (eqb e.id k) (Some e) (entry_with es k) other)) ∙ none k
]

-- its change leaves all
pub change-none : (key : Key) (es : List EntryState) → InOrder es → ((k : ℕ) → has (needs key) es k ≡ false) → map (after_change (key ∷ [])) es ≡ es
change-none key [] order none = refl
change-none key (e ∷ es) order none =
    λ i. after_change-same key e (first_needs key e es none) i ∷ change-none key es (InOrder-tail e es order) (none_later key e es order none) i

-- then none is counted
pub count-none : (key : Key) (es : List EntryState) → InOrder es → ((k : ℕ) → has (needs key) es k ≡ false) → count_by (needs key) es ≡ 0
count-none key [] order none = refl
count-none key (e ∷ es) order none =
    omega (arith, ap one (first_needs key e es none), count-none key es (InOrder-tail e es order) (none_later key e es order none), count-cons (needs key) e es)

-- ---- several keys

both_changes : (a b c : Bool) → ((a && not (b || false)) && not c) ≡ (a && not (b || c))
both_changes true true c = refl
both_changes true false c = refl
both_changes false b c = refl

pub change-more : (key : Key) (keys : List Key) (es : List EntryState) → map (after_change keys) (map (after_change (key ∷ [])) es) ≡ map (after_change (key ∷ keys)) es
change-more key keys [] = refl
change-more key keys (e ∷ es) =
    λ i. record { id = e.id; is_current = both_changes e.is_current (not (is_unknown e.found.items key)) (depends_on keys e) i; found = e.found } ∷ change-more key keys es i

keep : (b : Bool) → (b && true) ≡ b
keep true = refl
keep false = refl

pub change-nothing : (es : List EntryState) → map (after_change []) es ≡ es
change-nothing [] = refl
change-nothing (e ∷ es) = λ i. record { id = e.id; is_current = keep e.is_current i; found = e.found } ∷ change-nothing es i

-- ---- the ids that were added are those of the dependents

pub dependents-count : (test : ℕ → Bool) (keys : List Key) (es : List EntryState)
    → count_by test (dependents keys es) + current_count test (map (after_change keys) es) ≡ current_count test es
dependents-count test keys [] = refl
dependents-count test keys (e ∷ es) =
    let now = e.is_current && not (depends_on keys e) in
    let all : count_by test (dependents keys (e ∷ es)) + (one (test e.id && now) + current_count test (map (after_change keys) es)) ≡ one (test e.id && e.is_current) + current_count test es =
    by e.is_current (depends_on keys e) (test e.id) (dependents-count test keys es) refl in
    omega (arith, all, count-cons (λ (x : EntryState). test x.id && x.is_current) e es, count-cons (λ (x : EntryState). test x.id && x.is_current) (after_change keys e) (map (after_change keys) es))
  where
    depending : List EntryState
    depending = filter (λ x. x.is_current && depends_on keys x) es

    by : (a b t : Bool) → count_by test (dependents keys es) + current_count test (map (after_change keys) es) ≡ current_count test es
        → test e.id ≡ t
        → count_by test (map (λ (x : EntryState). x.id) (cond (a && b) (e ∷ depending) depending)) + (one (t && (a && not b)) + current_count test (map (after_change keys) es)) ≡ one (t && a) + current_count test es
    by true true true rest is = let here = ap one is in omega (arith, rest, here, count-cons test e.id (dependents keys es))
    by true true false rest is = let here = ap one is in omega (arith, rest, here, count-cons test e.id (dependents keys es))
    by true false true rest is = omega (arith, rest)
    by true false false rest is = omega (arith, rest)
    by false b true rest is = omega (arith, rest)
    by false b false rest is = omega (arith, rest)

-- ---- the loops

-- the candidates before this place are looked at
pub record AreTouched (candidates : List ℕ) (key : Key) (first : List EntryState) (old : List ℕ) (i : ℕ) (es : List EntryState) (ids : List ℕ) : Type 0 where
  pub order : InOrder es
  pub change : map (after_change (key ∷ [])) es ≡ map (after_change (key ∷ [])) first
  pub rest : (k : ℕ) → has (needs key) es k ≡ true → list_any (eqb k) (drop i candidates) ≡ true
  pub added : AreAdded first es old ids

module _ (candidates : List ℕ) (key : Key) (first : List EntryState) (old : List ℕ) (i : ℕ) (es : List EntryState) (ids : List ℕ) (id : ℕ)
    (within : i < length candidates) (at : id ≡ get_or candidates i id) (so : AreTouched candidates key first old i es ids) where
  later : (k : ℕ) → has (needs key) (map (touched id key) es) k ≡ true → list_any (eqb k) (drop (i + 1) candidates) ≡ true
  later k need =
      let before = needs-touched id key es k need in
      let here = so.rest k before.0 in
      let step = at_drop_more (list_any (eqb k)) candidates i id within ∙ ap (λ n. list_any (eqb k) (n ∷ drop (i + 1) candidates)) (sym at) in
      ap (λ b. b || list_any (eqb k) (drop (i + 1) candidates)) (sym before.1) ∙ sym step ∙ here

  pub AreTouched-yes : has (needs key) es id ≡ true → AreTouched candidates key first old (i + 1) (map (touched id key) es) (ids ++ id ∷ [])
  AreTouched-yes is =
      record {
        order = InOrder-touched id key es so.order;
        change = change-touched id key es ∙ so.change;
        rest = later;
        added = AreAdded-trans first es (map (touched id key) es) old ids (ids ++ id ∷ []) so.added (AreAdded-touched id key es ids so.order is);
      }

  pub AreTouched-no : has (needs key) es id ≡ false → AreTouched candidates key first old (i + 1) (map (touched id key) es) ids
  AreTouched-no none =
      record {
        order = InOrder-touched id key es so.order;
        change = change-touched id key es ∙ so.change;
        rest = later;
        added = subst (λ xs. AreAdded first xs old ids) (sym (touched-same id key es so.order none)) so.added;
      }

-- with no candidate left the entries are those after the change
pub touched-all : (candidates : List ℕ) (key : Key) (first : List EntryState) (old : List ℕ) (i : ℕ) (es : List EntryState) (ids : List ℕ)
    → length candidates ≤ i → AreTouched candidates key first old i es ids → es ≡ map (after_change (key ∷ [])) first
touched-all candidates key first old i es ids past so =
    sym (change-none key es so.order none) ∙ so.change
  where
    none : (k : ℕ) → has (needs key) es k ≡ false
    none k = elim (cases_Bool (has (needs key) es k)) [
      | inl need ↦ absurd (true≢false (sym (so.rest k need) ∙ at_drop_all (list_any (eqb k)) candidates i past))
      | inr free ↦ free
    ]

-- the keys before this place are looked at
pub record AreChanged (keys : List Key) (first : List EntryState) (old : List ℕ) (i : ℕ) (es : List EntryState) (ids : List ℕ) : Type 0 where
  pub order : InOrder es
  pub change : map (after_change (drop i keys)) es ≡ map (after_change keys) first
  pub added : AreAdded first es old ids

pub AreChanged-more : (keys : List Key) (first : List EntryState) (old : List ℕ) (i : ℕ) (es new : List EntryState) (ids more : List ℕ) (key : Key)
    → i < length keys → key ≡ get_or keys i key → AreChanged keys first old i es ids → new ≡ map (after_change (key ∷ [])) es → AreAdded es new ids more
    → AreChanged keys first old (i + 1) new more
AreChanged-more keys first old i es new ids more key within at so is added =
    record {
      order = subst InOrder (sym is) (InOrder-after_change (key ∷ []) es so.order);
      change = ap (map (after_change (drop (i + 1) keys))) is ∙ change-more key (drop (i + 1) keys) es
          ∙ ap (λ k. map (after_change (k ∷ drop (i + 1) keys)) es) at ∙ sym (at_drop_more (λ ks. map (after_change ks) es) keys i key within) ∙ so.change;
      added = AreAdded-trans first es new old ids more so.added added;
    }

pub changed-all : (keys : List Key) (first : List EntryState) (old : List ℕ) (i : ℕ) (es : List EntryState) (ids : List ℕ)
    → length keys ≤ i → AreChanged keys first old i es ids → es ≡ map (after_change keys) first
changed-all keys first old i es ids past so =
    sym (at_drop_all (λ ks. map (after_change ks) es) keys i past ∙ change-nothing es) ∙ so.change

pub changed-length : (keys : List Key) (first : List EntryState) (old : List ℕ) (i : ℕ) (es : List EntryState) (ids : List ℕ)
    → AreChanged keys first old i es ids → length es ≡ length first
changed-length keys first old i es ids so =
    omega (arith, ap (λ (xs : List EntryState). length xs) so.change, length-map es (after_change (drop i keys)), length-map first (after_change keys))

-- an element that is there does not depend on the default
pub any_default : (xs : List ℕ) (i a b : ℕ) → i < length xs → get_or xs i a ≡ get_or xs i b
any_default [] i a b within = absurd (omega (arith, within))
any_default (x ∷ xs) zero a b within = refl
any_default (x ∷ xs) (suc i) a b within = any_default xs i a b (omega (arith, within))
