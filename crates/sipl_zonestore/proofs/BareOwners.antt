-- Tables of the owners of records of which nothing is kept.
use Rattle.std.proofs.Common.{◌≡◌, ℕ, ◌+◌, ◌<◌, ◌≤◌, Bool, true, false, not, ◌&&◌, ◌||◌, List, [], ◌∷◌, ◌++◌, length, take, get_or, Option, None, Some, cond, is_some, refl, ap, sym, ◌∙◌, inl, inr, arith}
use Rattle.std.specs.List.{filter, list_any}
use Rattle.std.specs.Option.{option_to_list}
use mir.Val.{bool_byte}
use Rattle.std.proofs.lemmas.Bool.{cases_Bool}
use Rattle.std.proofs.lemmas.List.Folds.{list_any-append, list_any_more}
use Rattle.sipl_names.specs.Labels.{Labels, same_name, is_within}
use Rattle.sipl_names.proofs.Public.{same_name_decides}
use Rattle.sipl_records.specs.declared.data.Data.{Data}
use Rattle.sipl_records.specs.declared.data.Data.TheVariants.{Bare}
use Rattle.sipl_records.specs.declared.record.Record.{Record}
use Rattle.sipl_records.specs.Sets.{has_some_kind, kind_of, same_data, same_record}
use Rattle.sipl_records.proofs.Public.{same_name-sym, same_record-Decides}
use Rattle.sipl_zonestore.specs.BareOwners.{HasBare, is_bare_at, is_name}
use Rattle.sipl_zonestore.specs.Edits.{records_without}
use Rattle.sipl_zonestore.specs.Store.{records_outside}
use Rattle.sipl_zonestore.proofs.Elements.{and_first, and_second}

-- elements that pass one test pass the other
pub any-agree : {X : Type 0} (p q : X → Bool) → ((x : X) → p x ≡ q x) → (xs : List X) → list_any p xs ≡ list_any q xs
any-agree p q agree [] = refl
any-agree p q agree (x ∷ xs) = λ i. agree x i || any-agree p q agree xs i

pub any-none : {X : Type 0} (p : X → Bool) → ((x : X) → p x ≡ false) → (xs : List X) → list_any p xs ≡ false
any-none p none [] = refl
any-none p none (x ∷ xs) = rw (none x) (any-none p none xs)

-- space for the owner, if there is one
pub owner-fits : (own : Option Labels) (count space : ℕ) → count ≡ bool_byte (is_some own) → count ≤ space → length (option_to_list own) ≤ space
owner-fits None count space is fits = omega arith
owner-fits (Some owner) count space is fits = omega (arith, is, fits)

cond_true : (a b : Bool) → cond a true b ≡ (a || b)
cond_true true b = refl
cond_true false b = refl

-- a table with one name more
pub name-more : (owner name : Labels) (before after : Bool) → after ≡ cond (same_name owner name) true before → after ≡ (is_name name (Some owner) || before)
name-more owner name before after is = is ∙ cond_true (same_name owner name) before ∙ ap (λ same. same || before) (same_name-sym owner name)

-- or without the owner of a record
pub name-less : (old : Record) (name : Labels) (before after : Bool) → is_some (kind_of old.value) ≡ false → after ≡ cond (same_name old.owner name) false before → after ≡ (not (is_bare_at name old) && before)
name-less old name before after bare is = is ∙ ap (λ same. cond same false before) (same_name-sym old.owner name) ∙ less (same_name name old.owner) (has_some_kind old.value) bare where
  less : (same kept : Bool) → kept ≡ false → cond same false before ≡ (not (same && not kept) && before)
  less true true bare = let never : true ≡ false = bare in cc
  less true false bare = refl
  less false kept bare = refl

-- a record of which something is kept is no such record
pub kept-bare : (r : Record) (name : Labels) (before : Bool) → is_some (kind_of r.value) ≡ true → before ≡ (not (is_bare_at name r) && before)
kept-bare r name before kept = none (same_name name r.owner) (has_some_kind r.value) kept where
  none : (same kept : Bool) → kept ≡ true → before ≡ (not (same && not kept) && before)
  none true true is = refl
  none false true is = refl
  none same false is = let never : false ≡ true = is in cc

-- a search among those that pass another test, whose answer is one for all that the search would find
pub any-filter_tied : {X : Type 0} (p q : X → Bool) (b : Bool) → ((x : X) → p x ≡ true → q x ≡ b) → (xs : List X) → list_any p (filter q xs) ≡ (b && list_any p xs)
any-filter_tied p q true tied [] = refl
any-filter_tied p q false tied [] = refl
any-filter_tied p q true tied (x ∷ xs) = elim (cases_Bool (p x)) [
  | inl passes ↦ rw (tied x passes, passes) refl
  | inr fails ↦ elim (cases_Bool (q x)) [
    | inl kept ↦ rw (kept, fails) (any-filter_tied p q true tied xs)
    | inr left ↦ rw (left, fails) (any-filter_tied p q true tied xs)
  ]
]
any-filter_tied p q false tied (x ∷ xs) = elim (cases_Bool (p x)) [
  | inl passes ↦ rw (tied x passes) (any-filter_tied p q false tied xs)
  | inr fails ↦ elim (cases_Bool (q x)) [
    | inl kept ↦ rw (kept, fails) (any-filter_tied p q false tied xs)
    | inr left ↦ rw left (any-filter_tied p q false tied xs)
  ]
]

-- the names of a table after those within an apex were left out, and others added
pub names-replaced : (apex : Labels) (old kept text : List Labels) (name : Labels) (after : Bool) → kept ≡ filter (λ owner. not (is_within owner apex)) old → after ≡ (list_any (same_name name) kept || list_any (same_name name) text) → after ≡ (not (is_within name apex) && list_any (same_name name) old || list_any (same_name name) text)
names-replaced apex old kept text name after kept_is is =
    is ∙ ap (λ any. any || list_any (same_name name) text) (ap (list_any (same_name name)) kept_is ∙ any-filter_tied (same_name name) (λ owner. not (is_within owner apex)) (not (is_within name apex)) (λ owner same. ap (λ (n : Labels). not (is_within n apex)) (sym ((same_name_decides name owner).0 same))) old)

-- ---- what records are added to a table or taken from it

-- one more of the records
pub bare-step : (records : List Record) (i : ℕ) (r : Record) (own : Option Labels) (before after : Labels → Bool) → i < length records → r ≡ get_or records i r → ((name : Labels) → is_name name own ≡ is_bare_at name r) → HasBare before (take i records) → ((name : Labels) → after name ≡ (is_name name own || before name)) → HasBare after (take (i + 1) records)
bare-step records i r own before after inside here own_is has more name =
    more name ∙ (λ j. own_is name j || has name j) ∙ swapped (is_bare_at name r) (list_any (is_bare_at name) (take i records)) ∙ ap (λ x. list_any (is_bare_at name) (take i records) || is_bare_at name x) here
    ∙ sym (list_any_more (is_bare_at name) records i r inside) where
      swapped : (a b : Bool) → (a || b) ≡ (b || a)
      swapped true true = refl
      swapped true false = refl
      swapped false true = refl
      swapped false false = refl

-- a record is added
pub bare-added : (old : List Record) (r : Record) (own : Option Labels) (before after : Labels → Bool) → ((name : Labels) → is_name name own ≡ is_bare_at name r) → HasBare before old → ((name : Labels) → after name ≡ (is_name name own || before name)) → HasBare after (old ++ r ∷ [])
bare-added old r own before after own_is has more name =
    more name ∙ (λ j. own_is name j || has name j) ∙ swapped (is_bare_at name r) (list_any (is_bare_at name) old) ∙ sym (list_any-append (is_bare_at name) old (r ∷ [])) where
      swapped : (a b : Bool) → (a || b) ≡ (b || (a || false))
      swapped true true = refl
      swapped true false = refl
      swapped false true = refl
      swapped false false = refl

-- equal data of which nothing is kept
both_bare : (a b : Data) → has_some_kind a ≡ false → has_some_kind b ≡ false → same_data a b ≡ true
both_bare Bare Bare a_bare b_bare = refl
both_bare _ _ a_bare b_bare = cc

-- of one owner there is one such record
one_bare : (r x : Record) (name : Labels) → is_bare_at name x ≡ true → same_record r x ≡ is_bare_at name r
one_bare r x name there = elim (cases_Bool (is_bare_at name r)) [
  | inl own ↦
      let owner : name ≡ r.owner = (same_name_decides name r.owner).0 (and_first (same_name name r.owner) (not (has_some_kind r.value)) own) in
      let other : name ≡ x.owner = (same_name_decides name x.owner).0 (and_first (same_name name x.owner) (not (has_some_kind x.value)) there) in
      let owners : same_name r.owner x.owner ≡ true = (same_name_decides r.owner x.owner).1 (sym owner ∙ other) in
      let values : same_data r.value x.value ≡ true = both_bare r.value x.value (was_false (has_some_kind r.value) (and_second (same_name name r.owner) (not (has_some_kind r.value)) own)) (was_false (has_some_kind x.value) (and_second (same_name name x.owner) (not (has_some_kind x.value)) there)) in
      rw (owners, values, own) refl
  | inr differs ↦ elim (cases_Bool (same_record r x)) [
    | inl same ↦ let never : true ≡ false = sym there ∙ ap (is_bare_at name) (sym ((same_record-Decides r x).0 same)) ∙ differs in cc
    | inr apart ↦ apart ∙ sym differs
  ]
] where
  was_false : (b : Bool) → not b ≡ true → b ≡ false
  was_false true h = sym h
  was_false false h = refl

-- a record is removed
pub bare-removed : (old : List Record) (r : Record) (before after : Labels → Bool) → HasBare before old → ((name : Labels) → after name ≡ (not (is_bare_at name r) && before name)) → HasBare after (records_without r old)
bare-removed old r before after has less name =
    less name ∙ ap (λ any. not (is_bare_at name r) && any) (has name) ∙ sym (any-filter_tied (is_bare_at name) (λ x. not (same_record r x)) (not (is_bare_at name r)) (λ x there. ap not (one_bare r x name there)) old)

-- the owner of such a record
pub bare-owner : (r : Record) (name : Labels) → is_bare_at name r ≡ true → name ≡ r.owner
bare-owner r name there = (same_name_decides name r.owner).0 (and_first (same_name name r.owner) (not (has_some_kind r.value)) there)

-- of the records of some owners such a record is where its owner is one of them
pub bare-filter : (q : Labels → Bool) (b : Bool) (name : Labels) → q name ≡ b → (records : List Record) → list_any (is_bare_at name) (filter (λ r. q r.owner) records) ≡ (b && list_any (is_bare_at name) records)
bare-filter q b name is records =
    any-filter_tied (is_bare_at name) (λ r. q r.owner) b (λ r there. ap q (sym (bare-owner r name there)) ∙ is) records

-- owners were removed one by one
pub bare-more : (names : List Labels) (i : ℕ) (own name : Labels) (old before after : Bool) → i < length names → own ≡ get_or names i own → before ≡ (not (list_any (same_name name) (take i names)) && old) → after ≡ cond (same_name own name) false before → after ≡ (not (list_any (same_name name) (take (i + 1) names)) && old)
bare-more names i own name old before after inside here before_is after_is =
    after_is ∙ by_case (list_any (same_name name) (take i names)) (same_name own name) before_is
    ∙ ap (λ b. not b && old) (sym (list_any_more (same_name name) names i own inside ∙ ap (λ n. list_any (same_name name) (take i names) || same_name name n) (sym here) ∙ ap (λ b. list_any (same_name name) (take i names) || b) (same_name-sym name own))) where
      by_case : (a b : Bool) → before ≡ (not a && old) → cond b false before ≡ (not (a || b) && old)
      by_case true true is = refl
      by_case true false is = is
      by_case false true is = refl
      by_case false false is = is

-- those within an apex are replaced
pub bare-replaced : (apex : Labels) (old text : List Record) (before texts after : Labels → Bool) → HasBare before old → HasBare texts text → ((name : Labels) → after name ≡ (not (is_within name apex) && before name || texts name)) → HasBare after (records_outside apex old ++ text)
bare-replaced apex old text before texts after has has_text put name =
    put name ∙ (λ i. not (is_within name apex) && has name i || has_text name i)
    ∙ ap (λ any. any || list_any (is_bare_at name) text) (sym (any-filter_tied (is_bare_at name) (λ r. not (is_within r.owner apex)) (not (is_within name apex)) (λ r there. ap (λ (n : Labels). not (is_within n apex)) (sym ((same_name_decides name r.owner).0 (and_first (same_name name r.owner) (not (has_some_kind r.value)) there)))) old))
    ∙ sym (list_any-append (is_bare_at name) (records_outside apex old) text)
