-- The places of items in a table by names.
use Rattle.std.proofs.Common.{◌≡◌, ◌≢◌, ℕ, zero, suc, ◌<◌, ◌+◌, min, ltb, Bool, true, false, not, cond, ◌&&◌, List, [], ◌∷◌, ◌++◌, length, get_or, set, replicate, take, position, Option, None, Some, unwrap_or, is_some, option_map, ◌⊎◌, refl, ap, sym, subst, ◌∙◌, inl, inr, arith, length-append}
use Rattle.std.specs.List.{position_or_len}
use Rattle.std.proofs.lemmas.Bool.{cases_Bool, cases_eq, cases_lt, eq-eqb, lt-ltb, le-ltb, ne_eqb}
use Rattle.std.proofs.lemmas.List.Quantifiers.{all_pairs_push, position-Some}
use Rattle.std.proofs.Math.ListN.{get_or-append}
use Rattle.std.proofs.Math.Seq.{get_or-append_seam, take-suc}
use Rattle.std.proofs.lemmas.List.{get_or-set_same, get_or-set_other, get_or-take, length-take, length-take-le}
use Rattle.sipl_names.specs.Labels.{Labels, same_name}
use Rattle.sipl_names.proofs.Public.{same_name_decides}
use Rattle.sipl_records.specs.declared.kind.Kind.{Kind}
use Rattle.sipl_records.specs.declared.record.Key.{Key}
use Rattle.sipl_records.specs.Kinds.{index_of}
use Rattle.sipl_records.specs.Sets.{same_key, same_kind}
use Rattle.sipl_records.proofs.Public.{same_key-Decides, same_key-sym, same_kind-index}
use Rattle.sipl_evidence.specs.declared.places.Places.{Places}
use Rattle.sipl_evidence.specs.Items.{Item, HasDistinctKeys}
use Rattle.sipl_evidence.specs.Known.{known, is_unknown}
use Rattle.sipl_evidence.specs.Places.{place_at, place_among, place_in, place_of, IsIndexed, IsEvidence}

-- a table in which the place of one key is another, or there is none any more
module _ (old new : Labels → Option Places) (k : Key) (place : Option ℕ) (changed : Places)
    (changed_is : (kind : Kind) → place_at changed kind ≡ cond (same_kind k.kind kind) place (place_among (old k.name) kind))
    (new_is : (name : Labels) → new name ≡ cond (same_name k.name name) (Some changed) (old name)) where
  pub place_in-set : (other : Key) → place_in new other ≡ cond (same_key k other) place (place_in old other)
  place_in-set other = elim (cases_Bool (same_name k.name other.name)) [
    | inl same ↦
        let name : k.name ≡ other.name = (same_name_decides k.name other.name).0 same in
        ap (λ p. place_among p other.kind) (new_is other.name ∙ ap (λ b. cond b (Some changed) (old other.name)) same)
        ∙ changed_is other.kind
        ∙ ap (λ n. cond (same_kind k.kind other.kind) place (place_among (old n) other.kind)) name
        ∙ sym (ap (λ b. cond (b && same_kind k.kind other.kind) place (place_in old other)) same)
    | inr apart ↦
        ap (λ p. place_among p other.kind) (new_is other.name ∙ ap (λ b. cond b (Some changed) (old other.name)) apart)
        ∙ sym (ap (λ b. cond (b && same_kind k.kind other.kind) place (place_in old other)) apart)
  ]

-- the places of a name, or none
pub place_at-own : (old : Option Places) (none own : Places) → ((kind : Kind) → place_at none kind ≡ None) → own ≡ unwrap_or old none → (kind : Kind) → place_at own kind ≡ place_among old kind
place_at-own None none own empty own_is kind = ap (λ p. place_at p kind) own_is ∙ empty kind
place_at-own (Some places) none own empty own_is kind = ap (λ p. place_at p kind) own_is

-- the place at an index, or none
abbrev at_index : List (Option ℕ) → ℕ → Option ℕ
at_index all i = get_or all i None

none_at : (count i : ℕ) → at_index (replicate count None) i ≡ None
none_at zero i = refl
none_at (suc count) zero = refl
none_at (suc count) (suc i) = none_at count i

-- no place, by any index
pub empty-place_at : (places : Places) (count : ℕ) → places.by_kind ≡ replicate count None → (kind : Kind) → place_at places kind ≡ None
empty-place_at places count empty kind =
    ap (λ all. at_index all (index_of kind)) empty ∙ none_at count (index_of kind)

-- the place of one kind set, by its index
pub set-place_at : (old new : Places) (kind : Kind) (place : Option ℕ) → index_of kind < length old.by_kind → new.by_kind ≡ set old.by_kind (index_of kind) place
    → (other : Kind) → place_at new other ≡ cond (same_kind kind other) place (place_at old other)
set-place_at old new kind place within is other =
    let by_index = same_kind-index kind other in
    let new_at : place_at new other ≡ get_or (set old.by_kind (index_of kind) place) (index_of other) None = ap (λ all. at_index all (index_of other)) is in
    elim (cases_eq (index_of other) (index_of kind)) [
      | inl same ↦
          new_at ∙ ap (λ i. get_or (set old.by_kind (index_of kind) place) i None) same
          ∙ get_or-set_same old.by_kind (index_of kind) place None within
          ∙ sym (ap (λ b. cond b place (place_at old other)) (by_index ∙ eq-eqb (index_of kind) (index_of other) (sym same)))
      | inr apart ↦
          new_at ∙ get_or-set_other old.by_kind (index_of kind) (index_of other) place None apart
          ∙ sym (ap (λ b. cond b place (place_at old other)) (by_index ∙ ne_eqb (index_of kind) (index_of other) (λ e. apart (sym e))))
    ]

-- a table without places of a name has no place of its keys
pub place_in-absent : (table : Labels → Option Places) (k : Key) → table k.name ≡ None → (other : Key) → place_in table other ≡ cond (same_key k other) None (place_in table other)
place_in-absent table k absent other = elim (cases_Bool (same_key k other)) [
  | inl same ↦
      let key : k ≡ other = (same_key-Decides k other).0 same in
      ap (λ k. place_in table k) (sym key) ∙ ap (λ p. place_among p k.kind) absent
      ∙ sym (ap (λ b. cond b None (place_in table other)) same)
  | inr apart ↦ sym (ap (λ b. cond b None (place_in table other)) apart)
]

place_later : (a l : ℕ) → cond (ltb (1 + a) (suc l)) (Some (1 + a)) None ≡ option_map (λ n. suc n) (cond (ltb a l) (Some a) None)
place_later a l = elim (cases_lt a l) [
  | inl within ↦
      let next : 1 + a ≡ suc a = omega arith in
      ap (λ b. cond b (Some (1 + a)) None) (lt-ltb (1 + a) (suc l) (omega arith))
      ∙ ap Some next
      ∙ sym (ap (λ b. option_map (λ n. suc n) (cond b (Some a) None)) (lt-ltb a l within))
  | inr out ↦
      ap (λ b. cond b (Some (1 + a)) None) (le-ltb (1 + a) (suc l) (omega arith))
      ∙ sym (ap (λ b. option_map (λ n. suc n) (cond b (Some a) None)) (le-ltb a l out))
]

-- the first place at which a test passes, of a value and others
position-cons : {X : Type 0} (p : X → Bool) (x : X) (xs : List X) → position p (x ∷ xs) ≡ cond (p x) (Some 0) (option_map (λ n. suc n) (position p xs))
position-cons p x xs = elim (cases_Bool (p x)) [
  | inl here ↦ rw here (ap (λ b. cond b (Some 0) None) (lt-ltb 0 (length (x ∷ xs)) (omega arith)))
  | inr later ↦ rw later (place_later (position_or_len p xs) (length xs))
]

some_of : (b : Bool) (o : Option ℕ) (n : ℕ) → cond b (Some 0) (option_map (λ n. suc n) o) ≡ Some n
    → ((b ≡ true) × (n ≡ 0)) ⊎ ((b ≡ false) × ((m : ℕ) × (o ≡ Some m) × (n ≡ suc m)))
some_of true o n e = let is : n ≡ 0 = cc in inl (refl, is)
some_of false None n e = let never : None ≡ Some n = e in cc
some_of false (Some m) n e = let is : n ≡ suc m = cc in inr (refl, (m, refl, is))

none_of : (b : Bool) (o : Option ℕ) → cond b (Some 0) (option_map (λ n. suc n) o) ≡ None → (b ≡ false) × (o ≡ None)
none_of true o e = let never : ◌≡◌ {A = Option ℕ} (Some 0) None = e in cc
none_of false None e = (refl, refl)
none_of false (Some m) e = let never : ◌≡◌ {A = Option ℕ} (Some (suc m)) None = e in cc

pub place_of-within : (items : List Item) (k : Key) (n : ℕ) → place_of items k ≡ Some n → n < length items
place_of-within [] k n at = let never : None ≡ Some n = at in cc
place_of-within (item ∷ items) k n at = elim (some_of (same_key item.key k) (place_of items k) n (sym (position-cons (λ item. same_key item.key k) item items) ∙ at)) [
  | inl here ↦ omega (arith, here.1)
  | inr later ↦ omega (arith, later.1.2, place_of-within items k later.1.0 later.1.1)
]

-- the item in the place of a key is known
pub known-place : (items : List Item) (k : Key) (n : ℕ) (d : Item) → place_of items k ≡ Some n → known items k ≡ Some (get_or items n d).content
known-place [] k n d at = let never : None ≡ Some n = at in cc
known-place (item ∷ items) k n d at = elim (some_of (same_key item.key k) (place_of items k) n (sym (position-cons (λ item. same_key item.key k) item items) ∙ at)) [
  | inl here ↦ ap (λ b. cond b (Some item.content) (known items k)) here.0 ∙ ap (λ n. Some (get_or (item ∷ items) n d).content) (sym here.1)
  | inr later ↦
      ap (λ b. cond b (Some item.content) (known items k)) later.0
      ∙ known-place items k later.1.0 d later.1.1
      ∙ ap (λ n. Some (get_or (item ∷ items) n d).content) (sym later.1.2)
]

pub known-no_place : (items : List Item) (k : Key) → place_of items k ≡ None → known items k ≡ None
known-no_place [] k none = refl
known-no_place (item ∷ items) k none =
    let parts = none_of (same_key item.key k) (place_of items k) (sym (position-cons (λ item. same_key item.key k) item items) ∙ none) in
    rw parts.0 (known-no_place items k parts.1)

pub other_keys : (items : List Item) (k : Key) → place_of items k ≡ None → (i : ℕ) (d : Item) → i < length items → same_key (get_or items i d).key k ≡ false
other_keys [] k none i d inside = absurd (omega arith)
other_keys (item ∷ items) k none i d inside = by i inside (other_keys items k parts.1)
  where
    parts : (same_key item.key k ≡ false) × (place_of items k ≡ None)
    parts = none_of (same_key item.key k) (place_of items k) (sym (position-cons (λ item. same_key item.key k) item items) ∙ none)

    by : (i : ℕ) → i < length (item ∷ items) → ((j : ℕ) (d : Item) → j < length items → same_key (get_or items j d).key k ≡ false) → same_key (get_or (item ∷ items) i d).key k ≡ false
    by zero inside rest = parts.0
    by (suc j) inside rest = rest j d (omega arith)

-- with an item of a new key the keys are still distinct
pub distinct-push : (items : List Item) (item : Item) → HasDistinctKeys items → place_of items item.key ≡ None → HasDistinctKeys (items ++ item ∷ [])
distinct-push items item distinct none =
    all_pairs_push (λ a b. a.key ≢ b.key) items item distinct
    (λ i d inside same. let never : false ≡ true = sym (other_keys items item.key none i d inside) ∙ (same_key-Decides (get_or items i d).key item.key).1 same in cc)

map_cond : (b : Bool) (n : ℕ) (o : Option ℕ) → option_map (λ n. suc n) (cond b (Some n) o) ≡ cond b (Some (suc n)) (option_map (λ n. suc n) o)
map_cond true n o = refl
map_cond false n o = refl

-- an item of a new key is in the last place, and the others stay in theirs
pub place_of-push : (items : List Item) (item : Item) (k : Key) → place_of items item.key ≡ None → place_of (items ++ item ∷ []) k ≡ cond (same_key item.key k) (Some (length items)) (place_of items k)
place_of-push [] item k none = position-cons (λ item. same_key item.key k) item []
place_of-push (first ∷ items) item k none =
    let test : Item → Bool = λ item. same_key item.key k in
    let parts = none_of (same_key first.key item.key) (place_of items item.key) (sym (position-cons (λ other. same_key other.key item.key) first items) ∙ none) in
    position-cons test first (items ++ item ∷ [])
    ∙ ap (λ o. cond (test first) (Some 0) (option_map (λ n. suc n) o)) (place_of-push items item k parts.1)
    ∙ elim (cases_Bool (same_key first.key k)) [
      | inl same ↦
          let own : first.key ≡ k = (same_key-Decides first.key k).0 same in
          let apart : same_key item.key k ≡ false = ap (same_key item.key) (sym own) ∙ same_key-sym item.key first.key ∙ parts.0 in
          ap (λ b. cond b (Some 0) (option_map (λ n. suc n) (cond (same_key item.key k) (Some (length items)) (place_of items k)))) same
          ∙ sym (ap (λ b. cond b (Some (suc (length items))) (place_of (first ∷ items) k)) apart ∙ position-cons test first items ∙ ap (λ b. cond b (Some 0) (option_map (λ n. suc n) (place_of items k))) same)
      | inr other ↦
          ap (λ b. cond b (Some 0) (option_map (λ n. suc n) (cond (same_key item.key k) (Some (length items)) (place_of items k)))) other
          ∙ map_cond (same_key item.key k) (length items) (place_of items k)
          ∙ ap (λ o. cond (same_key item.key k) (Some (suc (length items))) o) (sym (position-cons test first items ∙ ap (λ b. cond b (Some 0) (option_map (λ n. suc n) (place_of items k))) other))
    ]

pub indexed-push : (items : List Item) (item : Item) (old new : Labels → Option Places) → IsIndexed items old → place_of items item.key ≡ None
    → ((k : Key) → place_in new k ≡ cond (same_key item.key k) (Some (length items)) (place_in old k)) → IsIndexed (items ++ item ∷ []) new
indexed-push items item old new indexed none after = record {
  distinct = distinct-push items item indexed.distinct none;
  places = λ k. after k ∙ ap (λ o. cond (same_key item.key k) (Some (length items)) o) (indexed.places k) ∙ sym (place_of-push items item k none);
}

-- the last of distinct keys has no place among the others
last-no_place : (items : List Item) (item : Item) → HasDistinctKeys (items ++ item ∷ []) → place_of items item.key ≡ None
last-no_place items item distinct = by (place_of items item.key) refl
  where
    by : (o : Option ℕ) → place_of items item.key ≡ o → o ≡ None
    by None at = refl
    by (Some n) at =
        let found = position-Some (λ other. same_key other.key item.key) items n item at in
        let apart = distinct n (length items) item found.0 (omega (arith, length-append items (item ∷ []))) in
        let same : (get_or (items ++ item ∷ []) n item).key ≡ (get_or (items ++ item ∷ []) (length items) item).key =
        ap (λ (i : Item). i.key) (get_or-append items (item ∷ []) item n found.0)
        ∙ (same_key-Decides (get_or items n item).key item.key).0 found.1
        ∙ sym (ap (λ (i : Item). i.key) (get_or-append_seam items item [] item)) in
        absurd (apart same)

distinct-pop : (items : List Item) (item : Item) → HasDistinctKeys (items ++ item ∷ []) → HasDistinctKeys items
distinct-pop items item distinct i j d below inside same =
    distinct i j d below (omega (arith, length-append items (item ∷ [])))
    (ap (λ (i : Item). i.key) (get_or-append items (item ∷ []) d i (omega arith)) ∙ same ∙ sym (ap (λ (i : Item). i.key) (get_or-append items (item ∷ []) d j inside)))

pub indexed-pop : (items : List Item) (item : Item) (old new : Labels → Option Places) → IsIndexed (items ++ item ∷ []) old
    → ((k : Key) → place_in new k ≡ cond (same_key item.key k) None (place_in old k)) → IsIndexed items new
indexed-pop items item old new indexed after = record {
  distinct = distinct-pop items item indexed.distinct;
  places = λ k. after k ∙ ap (λ o. cond (same_key item.key k) None o) (indexed.places k ∙ place_of-push items item k none) ∙ left k;
}
  where
    none : place_of items item.key ≡ None
    none = last-no_place items item indexed.distinct

    left : (k : Key) → cond (same_key item.key k) None (cond (same_key item.key k) (Some (length items)) (place_of items k)) ≡ place_of items k
    left k = elim (cases_Bool (same_key item.key k)) [
      | inl same ↦ rw same (sym (ap (place_of items) (sym ((same_key-Decides item.key k).0 same)) ∙ none))
      | inr apart ↦ rw apart refl
    ]

pub indexed-empty : IsIndexed [] (λ _. None)
indexed-empty = record { distinct = λ i j d below inside. absurd (omega arith); places = λ k. refl }

-- the first keys of distinct ones are distinct
distinct-take : (items : List Item) (n : ℕ) → HasDistinctKeys items → HasDistinctKeys (take n items)
distinct-take items n distinct i j d below inside same =
    let count : length (take n items) ≡ min n (length items) = length-take n items in
    distinct i j d below (omega (arith, inside, count))
    (sym (ap (λ (i : Item). i.key) (get_or-take n items i d (omega (arith, below, inside, count)))) ∙ same ∙ ap (λ (i : Item). i.key) (get_or-take n items j d (omega (arith, inside, count))))

-- the table of the first items gets the place of the next one
pub indexed-next : (items : List Item) (place : ℕ) (item : Item) (old new : Labels → Option Places) → HasDistinctKeys items → place < length items
    → get_or items place item ≡ item → IsIndexed (take place items) old
    → ((k : Key) → place_in new k ≡ cond (same_key item.key k) (Some place) (place_in old k)) → IsIndexed (take (place + 1) items) new
indexed-next items place item old new distinct within here indexed after =
    let first : List Item = take place items in
    let next : take (suc place) items ≡ first ++ item ∷ [] = take-suc items place item within ∙ ap (λ x. first ++ x ∷ []) here in
    let count : length first ≡ place = length-take-le place items (omega (arith, within)) in
    let one_more : place + 1 ≡ suc place = omega arith in
    let none = last-no_place first item (subst HasDistinctKeys next (distinct-take items (suc place) distinct)) in
    subst (λ n. IsIndexed (take n items) new) (sym one_more)
    (subst (λ xs. IsIndexed xs new) (sym next)
    (indexed-push first item old new indexed none (λ k. after k ∙ ap (λ n. cond (same_key item.key k) (Some n) (place_in old k)) (sym count))))

-- evidence without items, whatever the table has
pub evidence-empty : (table : Labels → Option Places) → IsEvidence [] table
evidence-empty table = record { distinct = indexed-empty.distinct; indexed = λ many. absurd (omega (arith, many)) }

-- one item more, where they are still few
pub evidence-few : (items : List Item) (item : Item) (table : Labels → Option Places) → HasDistinctKeys items → place_of items item.key ≡ None → length items < 8 → IsEvidence (items ++ item ∷ []) table
evidence-few items item table distinct none few = record {
  distinct = distinct-push items item distinct none;
  indexed = λ many. absurd (omega (arith, many, few, length-append items (item ∷ [])));
}

-- one item more, where the table gets its place
pub evidence-push : (items : List Item) (item : Item) (old new : Labels → Option Places) → IsIndexed items old → place_of items item.key ≡ None
    → ((k : Key) → place_in new k ≡ cond (same_key item.key k) (Some (length items)) (place_in old k)) → IsEvidence (items ++ item ∷ []) new
evidence-push items item old new indexed none after =
    let pushed = indexed-push items item old new indexed none after in
    record { distinct = pushed.distinct; indexed = λ _. pushed }

-- one item less, where the table loses its place
pub evidence-pop : (items : List Item) (item : Item) (old new : Labels → Option Places) → IsEvidence (items ++ item ∷ []) old
    → ((k : Key) → place_in new k ≡ cond (same_key item.key k) None (place_in old k)) → IsEvidence items new
evidence-pop items item old new evidence after = record {
  distinct = distinct-pop items item evidence.distinct;
  indexed = λ many. indexed-pop items item old new (evidence.indexed (omega (arith, many, length-append items (item ∷ [])))) after;
}

is_some-later : (o : Option ℕ) → is_some (option_map (λ n. suc n) o) ≡ is_some o
is_some-later None = refl
is_some-later (Some n) = refl

-- a key is unknown where it has no place
pub is_unknown-place : (items : List Item) (k : Key) → is_unknown items k ≡ not (is_some (place_of items k))
is_unknown-place [] k = refl
is_unknown-place (item ∷ items) k = elim (cases_Bool (same_key item.key k)) [
  | inl same ↦ ap (λ b. not (is_some (cond b (Some item.content) (known items k)))) same ∙ ap (λ o. not (is_some o)) (sym (position-cons (λ item. same_key item.key k) item items ∙ ap (λ b. cond b (Some 0) (option_map (λ n. suc n) (place_of items k))) same))
  | inr other ↦ ap (λ b. not (is_some (cond b (Some item.content) (known items k)))) other ∙ is_unknown-place items k ∙ ap not (sym (is_some-later (place_of items k))) ∙ ap (λ o. not (is_some o)) (sym (position-cons (λ item. same_key item.key k) item items ∙ ap (λ b. cond b (Some 0) (option_map (λ n. suc n) (place_of items k))) other))
]

pub no_place : (o : Option ℕ) → is_some o ≡ false → o ≡ None
no_place None e = refl
no_place (Some n) e = let never : true ≡ false = e in cc
