-- Which names an edit makes exist, or no longer exist.
use Rattle.std.proofs.Common.{◌≡◌, Bool, true, false, not, ◌&&◌, ◌||◌, List, [], ◌∷◌, ◌++◌, cond, refl, ap, sym, ◌∙◌, inl, inr, append-nil}
use Rattle.std.specs.List.{filter, flat_map, list_any, list_all}
use Rattle.std.proofs.lemmas.Bool.{cases_Bool}
use Rattle.std.proofs.lemmas.List.Concat.{flat_map-append}
use Rattle.std.proofs.lemmas.List.Elements.{filter-append}
use Rattle.std.proofs.lemmas.List.Folds.{list_any-append, list_all-append}
use Rattle.sipl_names.specs.Labels.{Labels, is_within, same_name}
use Rattle.sipl_names.proofs.Public.{same_name_decides}
use Rattle.sipl_records.specs.Sets.{exists_in}
use Rattle.sipl_records.specs.Unique.{unique}
use Rattle.sipl_records.specs.declared.record.Record.{Record}
use Rattle.sipl_records.proofs.Public.{exists_in-append, unique-filter}
use Rattle.sipl_zonestore.specs.Changes.{changed_names, existing_names, exists_in_one, with_ancestors}
use Rattle.sipl_zonestore.proofs.AncestorCounts.{any-ancestors, unique-ancestors}
use Rattle.sipl_zonestore.proofs.Elements.{all-kept, all-weaker, and_first, and_second, any-filter, or_first, or_second}

-- the owners of records with their ancestors
abbrev pub names_of : List Record → List Labels
names_of records = flat_map (λ r. with_ancestors r.owner) records

-- no record of a list is within the name
abbrev pub is_absent : List Record → Labels → Bool
is_absent records name = not (exists_in records name)

-- ---- tests of lists

pub filter-agree_all : {X : Type 0} (q p p' : X → Bool) → ((x : X) → q x ≡ true → p x ≡ p' x) → (xs : List X) → list_all q xs ≡ true → filter p xs ≡ filter p' xs
filter-agree_all q p p' agree [] all = refl
filter-agree_all q p p' agree (x ∷ xs) all =
    let here : p x ≡ p' x = agree x (and_first (q x) (list_all q xs) all) in
    (λ i. cond (here i) (x ∷ filter p xs) (filter p xs)) ∙ ap (λ ys. cond (p' x) (x ∷ ys) ys) (filter-agree_all q p p' agree xs (and_second (q x) (list_all q xs) all))

pub filter-fails : {X : Type 0} (q p : X → Bool) → ((x : X) → q x ≡ true → p x ≡ false) → (xs : List X) → list_all q xs ≡ true → filter p xs ≡ []
filter-fails q p fails [] all = refl
filter-fails q p fails (x ∷ xs) all =
    rw (fails x (and_first (q x) (list_all q xs) all)) (filter-fails q p fails xs (and_second (q x) (list_all q xs) all))

pub all-filter : {X : Type 0} (q p : X → Bool) (xs : List X) → list_all q xs ≡ true → list_all q (filter p xs) ≡ true
all-filter q p [] all = refl
all-filter q p (x ∷ xs) all = elim (cases_Bool (p x)) [
  | inl kept ↦ rw kept (rw (and_first (q x) (list_all q xs) all) (all-filter q p xs (and_second (q x) (list_all q xs) all)))
  | inr left ↦ rw left (all-filter q p xs (and_second (q x) (list_all q xs) all))
]

pub respects_name : (p : Labels → Bool) (a b : Labels) → same_name a b ≡ true → p a ≡ p b
respects_name p a b same = ap p ((same_name_decides a b).0 same)

-- of a value that passes a test, none of those that fail it is the same
apart-filter : (q : Labels → Bool) (a : Labels) (ys : List Labels) → q a ≡ true → list_all (λ y. not (q y)) ys ≡ true → filter (λ y. not (same_name a y)) ys ≡ ys
apart-filter q a [] passes all = refl
apart-filter q a (y ∷ ys) passes all =
    let fails : not (q y) ≡ true = and_first (not (q y)) (list_all (λ y. not (q y)) ys) all in
    let apart : same_name a y ≡ false = elim (cases_Bool (same_name a y)) [
      | inr apart ↦ apart
      | inl same ↦ let never : false ≡ true = ap not (sym passes ∙ respects_name q a y same) ∙ fails in cc
    ] in
    rw apart (ap (λ rest. y ∷ rest) (apart-filter q a ys passes (and_second (not (q y)) (list_all (λ y. not (q y)) ys) all)))

-- each value of two lists once, where a test tells the lists apart
unique-apart : (q : Labels → Bool) (xs ys : List Labels) → list_all q xs ≡ true → list_all (λ y. not (q y)) (unique same_name ys) ≡ true → unique same_name (xs ++ ys) ≡ unique same_name xs ++ unique same_name ys
unique-apart q [] ys all others = refl
unique-apart q (x ∷ xs) ys all others =
    ap (λ names. x ∷ filter (λ y. not (same_name x y)) names) (unique-apart q xs ys (and_second (q x) (list_all q xs) all) others)
    ∙ ap (λ names. x ∷ names) (filter-append (λ y. not (same_name x y)) (unique same_name xs) (unique same_name ys) ∙ ap (λ names. filter (λ y. not (same_name x y)) (unique same_name xs) ++ names) (apart-filter q x (unique same_name ys) (and_first (q x) (list_all q xs) all) others))

all-unique : (q : Labels → Bool) (xs : List Labels) → list_all q xs ≡ true → list_all q (unique same_name xs) ≡ true
all-unique q [] all = refl
all-unique q (x ∷ xs) all =
    rw (and_first (q x) (list_all q xs) all) (all-filter q (λ y. not (same_name x y)) (unique same_name xs) (all-unique q xs (and_second (q x) (list_all q xs) all)))

-- ---- names that exist

pub any-names : (records : List Record) (name : Labels) → list_any (λ other. same_name other name) (names_of records) ≡ exists_in records name
any-names [] name = refl
any-names (r ∷ records) name =
    list_any-append (λ other. same_name other name) (with_ancestors r.owner) (names_of records) ∙ (λ i. any-ancestors r.owner name i || any-names records name i)

pub all-any : (names : List Labels) (p : Labels → Bool) → ((name : Labels) → list_any (λ other. same_name other name) names ≡ true → p name ≡ true) → list_all p names ≡ true
all-any [] p passes = refl
all-any (first ∷ names) p passes =
    rw (passes first (or_first (same_name first first) (list_any (λ other. same_name other first) names) ((same_name_decides first first).1 refl))) (all-any names p (λ name some. passes name (or_second (same_name first name) (list_any (λ other. same_name other name) names) some)))

-- the owners and their ancestors exist
pub names-exist : (records : List Record) → list_all (exists_in records) (names_of records) ≡ true
names-exist records = all-any (names_of records) (exists_in records) (λ name some. sym (any-names records name) ∙ some)

-- in a list of more records too
pub names-exist_in : (records more : List Record) → ((name : Labels) → exists_in records name ≡ true → exists_in more name ≡ true) → list_all (exists_in more) (names_of records) ≡ true
names-exist_in records more lasts = all-weaker (exists_in records) (exists_in more) lasts (names_of records) (names-exist records)

-- ---- the names that change: those that go, and those that come

pub changed-split : (old new : List Record) → changed_names old new ≡ unique same_name (filter (is_absent new) (names_of old)) ++ unique same_name (filter (is_absent old) (names_of new))
changed-split old new =
    ap (λ names. filter (exists_in_one old new) (unique same_name names)) (flat_map-append (λ r. with_ancestors r.owner) old new)
    ∙ unique-filter same_name (exists_in_one old new) (respects_name (exists_in_one old new)) (names_of old ++ names_of new)
    ∙ ap (unique same_name) (filter-append (exists_in_one old new) (names_of old) (names_of new) ∙ (λ i. gone i ++ come i))
    ∙ unique-apart (exists_in old) (filter (is_absent new) (names_of old)) (filter (is_absent old) (names_of new)) (all-filter (exists_in old) (is_absent new) (names_of old) (names-exist old)) (all-unique (is_absent old) (filter (is_absent old) (names_of new)) (all-kept (is_absent old) (names_of new))) where
      gone : filter (exists_in_one old new) (names_of old) ≡ filter (is_absent new) (names_of old)
      gone = filter-agree_all (exists_in old) (exists_in_one old new) (is_absent new) (λ name there. rw there refl) (names_of old) (names-exist old)

      come : filter (exists_in_one old new) (names_of new) ≡ filter (is_absent old) (names_of new)
      come = filter-agree_all (exists_in new) (exists_in_one old new) (is_absent old) (λ name there. rw there (either (exists_in old name))) (names_of new) (names-exist new) where
        either : (b : Bool) → cond b (not true) true ≡ not b
        either true = refl
        either false = refl

-- records whose names all stay do not count
pub go-parts : (q : Record → Bool) (new records : List Record) → list_all (exists_in new) (names_of (filter (λ r. not (q r)) records)) ≡ true → filter (is_absent new) (names_of records) ≡ filter (is_absent new) (names_of (filter q records))
go-parts q new [] stay = refl
go-parts q new (r ∷ records) stay = elim (cases_Bool (q r)) [
  | inl counts ↦
      let rest : list_all (exists_in new) (names_of (filter (λ r. not (q r)) records)) ≡ true = rw counts at stay in
      rw counts (filter-append (is_absent new) (with_ancestors r.owner) (names_of records) ∙ ap (λ names. filter (is_absent new) (with_ancestors r.owner) ++ names) (go-parts q new records rest) ∙ sym (filter-append (is_absent new) (with_ancestors r.owner) (names_of (filter q records))))
  | inr stays ↦
      let all : list_all (exists_in new) (with_ancestors r.owner ++ names_of (filter (λ r. not (q r)) records)) ≡ true = rw stays at stay in
      let both : (list_all (exists_in new) (with_ancestors r.owner) && list_all (exists_in new) (names_of (filter (λ r. not (q r)) records))) ≡ true = sym (list_all-append (exists_in new) (with_ancestors r.owner) (names_of (filter (λ r. not (q r)) records))) ∙ all in
      rw stays (filter-append (is_absent new) (with_ancestors r.owner) (names_of records) ∙ (λ i. filter-fails (exists_in new) (is_absent new) (λ name there. ap not there) (with_ancestors r.owner) (and_first (list_all (exists_in new) (with_ancestors r.owner)) _ both) i ++ go-parts q new records (and_second (list_all (exists_in new) (with_ancestors r.owner)) _ both) i))
]

-- names that exist in a part exist in the whole
pub exists-filter : (q : Record → Bool) (records : List Record) (name : Labels) → exists_in (filter q records) name ≡ true → exists_in records name ≡ true
exists-filter q records name some = elim (cases_Bool (exists_in records name)) [
  | inl there ↦ there
  | inr none ↦ let never : true ≡ false = sym some ∙ any-filter (λ r. is_within r.owner name) q records none in cc
]

-- of records, some are replaced: the names of those that go, and of those that come
pub changed-replaced : (q : Record → Bool) (old text : List Record) → changed_names old (filter (λ r. not (q r)) old ++ text) ≡ filter (is_absent (filter (λ r. not (q r)) old ++ text)) (existing_names (filter q old)) ++ filter (is_absent old) (existing_names text)
changed-replaced q old text =
    changed-split old new ∙ (λ i. ap (unique same_name) gone i ++ ap (unique same_name) come i) ∙ (λ i. sym (unique-filter same_name (is_absent new) (respects_name (is_absent new)) (names_of (filter q old))) i ++ sym (unique-filter same_name (is_absent old) (respects_name (is_absent old)) (names_of text)) i) where
      left : List Record
      left = filter (λ r. not (q r)) old

      new : List Record
      new = filter (λ r. not (q r)) old ++ text

      gone : filter (is_absent (filter (λ r. not (q r)) old ++ text)) (names_of old) ≡ filter (is_absent (filter (λ r. not (q r)) old ++ text)) (names_of (filter q old))
      gone = go-parts q (filter (λ r. not (q r)) old ++ text) old (names-exist_in (filter (λ r. not (q r)) old) (filter (λ r. not (q r)) old ++ text) (λ name there. exists_in-append (filter (λ r. not (q r)) old) text name ∙ or_first (exists_in (filter (λ r. not (q r)) old) name) (exists_in text name) there))

      come : filter (is_absent old) (names_of (filter (λ r. not (q r)) old ++ text)) ≡ filter (is_absent old) (names_of text)
      come =
          ap (filter (is_absent old)) (flat_map-append (λ r. with_ancestors r.owner) (filter (λ r. not (q r)) old) text)
          ∙ filter-append (is_absent old) (names_of (filter (λ r. not (q r)) old)) (names_of text)
          ∙ ap (λ names. names ++ filter (is_absent old) (names_of text)) (filter-fails (exists_in old) (is_absent old) (λ name there. ap not there) (names_of (filter (λ r. not (q r)) old)) (names-exist_in (filter (λ r. not (q r)) old) old (exists-filter (λ r. not (q r)) old)))

-- the names of one record
pub names-one : (r : Record) → existing_names (r ∷ []) ≡ with_ancestors r.owner
names-one r = ap (unique same_name) (append-nil (with_ancestors r.owner)) ∙ unique-ancestors r.owner
