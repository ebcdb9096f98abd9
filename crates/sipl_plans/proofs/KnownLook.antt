-- The look-up of the items of a trace, and how many they are.
use Rattle.std.proofs.Common.{◌≡◌, ◌≢◌, ℕ, suc, ◌+◌, ◌≤◌, Bool, true, false, not, List, [], ◌∷◌, ◌++◌, length, map, Option, None, Some, unwrap_or, refl, ap, sym, subst, ◌∙◌, inl, inr, arith, append-nil, append_assoc, length-append}
use Rattle.std.specs.List.{All, filter}
use Rattle.std.proofs.lemmas.Bool.{cases_Bool}
use Rattle.std.proofs.lemmas.List.{length-map}
use Rattle.std.proofs.lemmas.List.Elements.{All-nil, All-cons, All-head, All-tail}
use Rattle.std.proofs.lemmas.List.Quantifiers.{all_pairs_push}
use Rattle.std.proofs.lemmas.List.Sums.{length-filter, count_by-le-length}
use Rattle.sipl_records.specs.Sets.{has_kind, same_key}
use Rattle.sipl_records.specs.Unique.{unique}
use Rattle.sipl_records.specs.declared.data.Data.{Data}
use Rattle.sipl_records.specs.declared.record.Key.{Key}
use Rattle.sipl_records.proofs.Public.{same_key-Decides, same_key-refl}
use Rattle.sipl_evidence.specs.Items.{Item, HasDistinctKeys}
use Rattle.sipl_evidence.specs.Known.{known, is_unknown, Agrees, first_unknown, IsTraceAfter, IsTrace}
use Rattle.sipl_evidence.specs.Looks.{Look, Asking, done, ask, asked}
use Rattle.sipl_evidence.proofs.Public.{unique-trace}

-- the first key that is unknown is not known
unknown-first : {A : Type 0} (items : List Item) (asking : Asking A) (k : Key) → first_unknown items asking ≡ Some k → known items k ≡ None
unknown-first items (done value) k found = let never : None ≡ Some k = found in cc
unknown-first items (ask own next) k found = by (known items own) refl (λ set. unknown-first items (next set) k) found
  where
    by : (o : Option (List Data)) → known items own ≡ o → ((set : List Data) → first_unknown items (next set) ≡ Some k → known items k ≡ None) → ◌≡◌ {A = Option Key} (elim o [ Some set ↦ first_unknown items (next set) | None ↦ Some own ]) (Some k) → known items k ≡ None
    by None is rest found = let same : own ≡ k = cc in ap (known items) (sym same) ∙ is
    by (Some set) is rest found = rest set found

-- no item has a key that is not known
keys-apart : (items : List Item) (k : Key) → known items k ≡ None → All (λ item. item.key ≢ k) items
keys-apart [] k unknown = All-nil (λ item. item.key ≢ k)
keys-apart (item ∷ items) k unknown = elim (cases_Bool (same_key item.key k)) [
  | inl same ↦ let never : Some item.content ≡ None = rw same at unknown in cc
  | inr other ↦ All-cons (λ item. item.key ≢ k) item items (λ same. let never : false ≡ true = sym other ∙ (same_key-Decides item.key k).1 same in cc) (keys-apart items k (rw other at unknown))
]

distinct-after : {A : Type 0} (asking : Asking A) (earlier later : List Item) → HasDistinctKeys earlier → IsTraceAfter asking earlier later → HasDistinctKeys (earlier ++ later)
distinct-after asking earlier [] distinct trace = subst HasDistinctKeys (sym (append-nil earlier)) distinct
distinct-after asking earlier (item ∷ later) distinct trace =
    let apart = keys-apart earlier item.key (unknown-first earlier asking item.key trace.0) in
    subst HasDistinctKeys (append_assoc earlier (item ∷ []) later)
    (distinct-after asking (earlier ++ item ∷ []) later (all_pairs_push (λ a b. a.key ≢ b.key) earlier item distinct apart) trace.1)

-- no key is in a trace twice
pub distinct-trace : {A : Type 0} (asking : Asking A) (items : List Item) → IsTrace asking items → HasDistinctKeys items
distinct-trace asking items trace =
    distinct-after asking [] items (λ i j d below inside. absurd (omega arith)) trace

-- each item after the first has another key
pub first-apart : (item : Item) (items : List Item) → HasDistinctKeys (item ∷ items) → All (λ other. item.key ≢ other.key) items
first-apart item items distinct = λ n d inside. distinct 0 (suc n) d (omega arith) (omega arith)

pub rest-distinct : (item : Item) (items : List Item) → HasDistinctKeys (item ∷ items) → HasDistinctKeys items
rest-distinct item items distinct = λ i j d below inside. distinct (suc i) (suc j) d (omega arith) (omega arith)

-- the records of the items and no others
abbrev pub known_look : List Item → Look
known_look items k = unwrap_or (known items k) []

known_look-other : (item : Item) (items : List Item) (k : Key) → item.key ≢ k → known_look (item ∷ items) k ≡ known_look items k
known_look-other item items k other = elim (cases_Bool (same_key item.key k)) [
  | inl same ↦ absurd (other ((same_key-Decides item.key k).0 same))
  | inr apart ↦ rw apart refl
]

-- they agree with the items
pub Agrees-known_look : (items : List Item) → HasDistinctKeys items → Agrees (known_look items) items
Agrees-known_look [] distinct = All-nil (λ item. known_look [] item.key ≡ item.content)
Agrees-known_look (item ∷ items) distinct =
    let own : known_look (item ∷ items) item.key ≡ item.content = rw (same_key-refl item.key) refl in
    let apart = first-apart item items distinct in
    let rest = Agrees-known_look items (rest-distinct item items distinct) in
    All-cons (λ other. known_look (item ∷ items) other.key ≡ other.content) item items own
    (λ n d inside. known_look-other item items _ (apart n d inside) ∙ rest n d inside)

-- and their sets are as large as the items'
pub length-known_look : (items : List Item) (most : ℕ) → All (λ item. length item.content ≤ most) items → (k : Key) → length (known_look items k) ≤ most
length-known_look [] most few k = omega arith
length-known_look (item ∷ items) most few k = elim (cases_Bool (same_key item.key k)) [
  | inl same ↦ rw same (All-head (λ item. length item.content ≤ most) item items few)
  | inr other ↦ rw other (length-known_look items most (All-tail (λ item. length item.content ≤ most) item items few) k)
]

-- the data of an item are of its key's kind
abbrev pub OfKind : Item → Type 0
OfKind item = All (λ datum. has_kind item.key.kind datum ≡ true) item.content

-- and their data are of their keys' kinds
pub kinds-known_look : (items : List Item) → All OfKind items → (k : Key) → All (λ datum. has_kind k.kind datum ≡ true) (known_look items k)
kinds-known_look [] kinds k = All-nil (λ datum. has_kind k.kind datum ≡ true)
kinds-known_look (item ∷ items) kinds k = elim (cases_Bool (same_key item.key k)) [
  | inl same ↦
      let own : item.key ≡ k = (same_key-Decides item.key k).0 same in
      rw same (subst (λ k. All (λ datum. has_kind k.kind datum ≡ true) item.content) own (All-head OfKind item items kinds))
  | inr other ↦ rw other (kinds-known_look items (All-tail OfKind item items kinds) k)
]

-- each value once is no more values
pub length-unique : {X : Type 0} (same : X → X → Bool) (xs : List X) → length (unique same xs) ≤ length xs
length-unique same [] = omega arith
length-unique {X} same (x ∷ xs) =
    let others = λ (y : X). not (same x y) in
    omega (arith, length-filter others (unique same xs), count_by-le-length others (unique same xs), length-unique same xs)

-- a trace has no more items than keys are asked for
pub length-trace : {A : Type 0} (asking : Asking A) (items : List Item) (look : Look) → Agrees look items → IsTrace asking items → length items ≤ length (asked look asking)
length-trace asking items look agrees trace =
    let keys = unique same_key (asked look asking) in
    let left = unique same_key (filter (is_unknown items) (asked look asking)) in
    let lengths : length keys ≡ length (map (λ item. item.key) items) + length left =
    ap length (unique-trace look asking items agrees trace) ∙ length-append (map (λ item. item.key) items) left in
    omega (arith, lengths, length-map items (λ item. item.key), length-unique same_key (asked look asking))
