-- The items of a trace are those that a computation asks for, in order.
use Rattle.std.proofs.Common.{◌≡◌, Bool, true, not, ◌&&◌, List, [], ◌∷◌, ◌++◌, map, None, Some, length, ◌<◌, refl, subst, arith, length-append, ap, sym, ◌∙◌, inl, inr, append_assoc, append-nil}
use Rattle.std.specs.List.{filter, find}
use Rattle.std.proofs.lemmas.Bool.{cases_Bool}
use Rattle.std.proofs.lemmas.List.{get_or_append_left}
use Rattle.std.proofs.lemmas.List.Elements.{filter_agree}
use Rattle.sipl_records.specs.declared.record.Key.{Key}
use Rattle.sipl_records.specs.Sets.{same_key}
use Rattle.sipl_records.specs.Unique.{unique}
use Rattle.sipl_records.proofs.Public.{filter-filter, same_key-Decides, same_key-refl, unique-filter}
use Rattle.sipl_evidence.specs.Items.{Item}
use Rattle.sipl_evidence.specs.Looks.{Look, Asking, asked}
use Rattle.sipl_evidence.specs.Known.{is_unknown, Agrees, first_unknown, IsTraceAfter, IsTrace}
use Rattle.sipl_evidence.proofs.Knowing.{first_unknown-find}

-- the first value that passes is the first of those that pass
first_of_filter : {X : Type 0} (test : X → Bool) (xs : List X) (x : X) → find test xs ≡ Some x → (rest : List X) × (filter test xs ≡ x ∷ rest)
first_of_filter test [] x found = let never : None ≡ Some x = found in cc
first_of_filter test (y ∷ xs) x found = elim (cases_Bool (test y)) [
  | inl passes ↦
      let first : Some y ≡ Some x = rw passes at found in
      let is : y ≡ x = cc in
      (filter test xs, rw passes (ap (λ x. x ∷ filter test xs) is))
  | inr fails ↦
      let later = first_of_filter test xs x (rw fails at found) in
      (later.0, rw fails later.1)
]

filter-none_found : {X : Type 0} (test : X → Bool) (xs : List X) → find test xs ≡ None → filter test xs ≡ []
filter-none_found test [] none = refl
filter-none_found test (x ∷ xs) none = elim (cases_Bool (test x)) [
  | inl passes ↦ let never : Some x ≡ None = rw passes at none in cc
  | inr fails ↦ rw fails (filter-none_found test xs (rw fails at none))
]

filter-true : {X : Type 0} (xs : List X) → filter (λ _. true) xs ≡ xs
filter-true [] = refl
filter-true (x ∷ xs) = ap (λ ys. x ∷ ys) (filter-true xs)

-- with one item more its key is known too
is_unknown-push : (items : List Item) (item : Item) (k : Key) → is_unknown (items ++ item ∷ []) k ≡ (is_unknown items k && not (same_key item.key k))
is_unknown-push [] item k = elim (cases_Bool (same_key item.key k)) [ inl same ↦ rw same refl | inr other ↦ rw other refl ]
is_unknown-push (first ∷ items) item k = elim (cases_Bool (same_key first.key k)) [
  | inl same ↦ rw same refl
  | inr other ↦ rw other (is_unknown-push items item k)
]

-- the key that is first passes its own test no more
others : (k : Key) (keys : List Key) → filter (λ other. not (same_key k other)) (k ∷ keys) ≡ filter (λ other. not (same_key k other)) keys
others k keys = rw (same_key-refl k) refl

same_test : (k x y : Key) → same_key x y ≡ true → not (same_key k x) ≡ not (same_key k y)
same_test k x y same = ap (λ z. not (same_key k z)) ((same_key-Decides x y).0 same)

unique-step : (k : Key) (keys : List Key) → unique same_key (k ∷ keys) ≡ k ∷ unique same_key (filter (λ other. not (same_key k other)) (k ∷ keys))
unique-step k keys =
    ap (λ ks. k ∷ ks) (unique-filter same_key (λ other. not (same_key k other)) (same_test k) keys ∙ ap (unique same_key) (sym (others k keys)))

abbrev keys_of_items : List Item → List Key
keys_of_items items = map (λ item. item.key) items

-- the keys that are asked for and not known, each once
abbrev left_of : List Item → List Key → List Key
left_of items keys = unique same_key (filter (is_unknown items) keys)

left_of-step : (items : List Item) (item : Item) (keys : List Key) → find (is_unknown items) keys ≡ Some item.key → left_of items keys ≡ item.key ∷ left_of (items ++ item ∷ []) keys
left_of-step items item keys found =
    let first = first_of_filter (is_unknown items) keys item.key found in
    let after : filter (λ other. not (same_key item.key other)) (item.key ∷ first.0) ≡ filter (is_unknown (items ++ item ∷ [])) keys =
    ap (filter (λ other. not (same_key item.key other))) (sym first.1)
    ∙ filter-filter (λ other. not (same_key item.key other)) (is_unknown items) keys
    ∙ filter_agree _ _ (λ k. sym (is_unknown-push items item k)) keys in
    ap (unique same_key) first.1 ∙ unique-step item.key first.0 ∙ ap (λ ks. item.key ∷ unique same_key ks) after

-- records that agree with items agree with the first of them
pub Agrees-front : (look : Look) (items more : List Item) → Agrees look (items ++ more) → Agrees look items
Agrees-front look items more agrees = λ k d inside.
    let within : k < length (items ++ more) = omega (arith, length-append items more) in
    rw (get_or_append_left items more d k inside) at (agrees k d within)

module _ {A : Type 0} (look : Look) (asking : Asking A) where
  trace_left : (earlier later : List Item) → Agrees look (earlier ++ later) → IsTraceAfter asking earlier later → left_of earlier (asked look asking) ≡ keys_of_items later ++ left_of (earlier ++ later) (asked look asking)
  trace_left earlier [] agrees trace = ap (λ items. left_of items (asked look asking)) (sym (append-nil earlier))
  trace_left earlier (item ∷ later) agrees trace =
      let own = Agrees-front look earlier (item ∷ later) agrees in
      let found = sym (first_unknown-find look earlier own asking) ∙ trace.0 in
      let joined = append_assoc earlier (item ∷ []) later in
      left_of-step earlier item (asked look asking) found
      ∙ ap (λ ks. item.key ∷ ks) (trace_left (earlier ++ item ∷ []) later (subst (Agrees look) (sym joined) agrees) trace.1)
      ∙ ap (λ items. (item.key ∷ keys_of_items later) ++ left_of items (asked look asking)) joined

  -- the items of a trace are the first ones that are asked for, and the others are unknown
  pub unique-trace : (items : List Item) → Agrees look items → IsTrace asking items → unique same_key (asked look asking) ≡ keys_of_items items ++ left_of items (asked look asking)
  unique-trace items agrees trace = ap (unique same_key) (sym (filter-true (asked look asking))) ∙ trace_left [] items agrees trace

  -- and where none is unknown, they are all
  pub unique-whole_trace : (items : List Item) → Agrees look items → IsTrace asking items → first_unknown items asking ≡ None → unique same_key (asked look asking) ≡ keys_of_items items
  unique-whole_trace items agrees trace all =
      unique-trace items agrees trace
      ∙ ap (λ ks. keys_of_items items ++ unique same_key ks) (filter-none_found (is_unknown items) (asked look asking) (sym (first_unknown-find look items agrees asking) ∙ all))
      ∙ append-nil (keys_of_items items)

-- a trace goes on with the first unknown key
trace_after-push : {A : Type 0} (asking : Asking A) (earlier later : List Item) (item : Item) → IsTraceAfter asking earlier later → first_unknown (earlier ++ later) asking ≡ Some item.key → IsTraceAfter asking earlier (later ++ item ∷ [])
trace_after-push asking earlier [] item trace next = (ap (λ items. first_unknown items asking) (sym (append-nil earlier)) ∙ next, tt)
trace_after-push asking earlier (first ∷ later) item trace next =
    (trace.0, trace_after-push asking (earlier ++ first ∷ []) later item trace.1 (ap (λ items. first_unknown items asking) (append_assoc earlier (first ∷ []) later) ∙ next))

pub trace-push : {A : Type 0} (asking : Asking A) (items : List Item) (item : Item) → IsTrace asking items → first_unknown items asking ≡ Some item.key → IsTrace asking (items ++ item ∷ [])
trace-push asking items item trace next = trace_after-push asking [] items item trace next
