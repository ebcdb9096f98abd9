-- Look-ups in tables of record sets.
use Rattle.std.proofs.Common.{◌≡◌, ℕ, ◌+◌, ◌<◌, Bool, true, false, not, ◌&&◌, ◌||◌, cond, List, [], ◌∷◌, ◌++◌, map, ◌==◌, length, take, get_or, Option, None, Some, Result, Ok, Err, if◌then◌else◌, refl, ap, subst, sym, ◌∙◌, inl, inr, arith}
use Rattle.std.specs.Prelude.{IfSome, OnOk, OnErr}
use Rattle.std.specs.List.{filter, list_any, IsDistinct}
use Rattle.std.specs.Map.{keys_of, lookup, set_value, update_all}
use Rattle.std.specs.Option.{option_or}
use Rattle.std.proofs.lemmas.Bool.{cases_Bool}
use Rattle.std.proofs.lemmas.Bool.Decides.{nat_tests}
use Rattle.std.proofs.lemmas.List.Folds.{list_any_more}
use Rattle.std.proofs.lemmas.Map.Entries.{lookup-filter-keys}
use Rattle.std.proofs.lemmas.Map.Made.{update_all_distinct}
use Rattle.sipl_names.specs.Labels.{Labels, same_name}
use Rattle.sipl_names.proofs.Public.{same_name_decides}
use Rattle.sipl_records.specs.declared.data.Data.{Data}
use Rattle.sipl_records.specs.declared.record.Key.{Key}
use Rattle.sipl_records.specs.declared.kind.Kind.{Kind}
use Rattle.sipl_records.specs.Sets.{same_key, same_kind}
use Rattle.sipl_records.proofs.Public.{equivalence_from_decides, same_key-Decides, same_kind-Decides, same_name-sym}
use Rattle.sipl_zonestore.specs.Numbers.{SetNumber, number_of, is_empty}
use Rattle.sipl_zonestore.specs.Content.{Content, no_content, carried, pushed}
use Rattle.sipl_zonestore.specs.SetTable.{OwnerSets, OwnerTable, HaveData, content_of, has_data, has_no_data, held, no_sets, number_at, numbers_of, set_at, with_set}
use Rattle.sipl_zonestore.proofs.Contents.{carried_none, is_empty-push}
use Rattle.sipl_zonestore.proofs.OwnerSets.{absent, all_empty, at_kind, data-with_set, has_kind_of, no_data-is}

-- a set without a length is empty
pub length-empty : (values : List Data) → (length values == 0) ≡ is_empty values
length-empty [] = refl
length-empty (first ∷ values) = grind (arith, nat_tests)

-- the content that a look-up found
abbrev pub content_at : Option OwnerSets → Kind → Content
content_at None kind = no_content
content_at (Some sets) kind = held kind sets

-- whether an owner that a look-up found has data
abbrev pub HasData : Option OwnerSets → Type 0
HasData found = IfSome found (λ sets. has_no_data sets ≡ false)

-- the content of a key is what a look-up finds
pub content-found : (es : OwnerTable) (key : Key) → content_of es key ≡ content_at (lookup (same_name key.name) es) key.kind
content-found [] key = refl
content-found (e ∷ es) key = elim (cases_Bool (same_name e.0 key.name)) [
  | inl here ↦ rw (same_name-sym key.name e.0, here) refl
  | inr other ↦ rw (same_name-sym key.name e.0, other) (content-found es key)
]

pub content-none : (es : OwnerTable) (name : Labels) (kind : Kind) → None ≡ lookup (same_name name) es → content_of es (record { name = name; kind = kind }) ≡ no_content
content-none es name kind none = content-found es (record { name = name; kind = kind }) ∙ ap (λ found. content_at found kind) (sym none)

pub content-is : (es : OwnerTable) (name : Labels) (kind : Kind) (sets : OwnerSets) → Some sets ≡ lookup (same_name name) es → content_of es (record { name = name; kind = kind }) ≡ held kind sets
content-is es name kind sets found = content-found es (record { name = name; kind = kind }) ∙ ap (λ found. content_at found kind) (sym found)

-- whether an owner has data is whether one that a look-up finds does
abbrev pub data_at : Option OwnerSets → Bool
data_at None = false
data_at (Some sets) = not (has_no_data sets)

pub has_data-found : (es : OwnerTable) (name : Labels) → has_data es name ≡ data_at (lookup (same_name name) es)
has_data-found [] name = refl
has_data-found (e ∷ es) name = elim (cases_Bool (same_name e.0 name)) [
  | inl here ↦ rw (same_name-sym name e.0, here) refl
  | inr other ↦ rw (same_name-sym name e.0, other) (has_data-found es name)
]

-- an owner that a look-up found has data
pub data-found : (es : OwnerTable) (name : Labels) (sets : OwnerSets) → HaveData es → Some sets ≡ lookup (same_name name) es → has_no_data sets ≡ false
data-found es name sets have found = subst HasData (sym found) (have name)

-- a table has these sets at an owner, and at each other owner those that another table has
abbrev pub IsUpdated : OwnerTable → OwnerTable → Labels → Option OwnerSets → Type 0
IsUpdated old new name sets =
    (other : Labels) → lookup (same_name other) new ≡ cond (same_name name other) sets (lookup (same_name other) old)

-- the sets of an owner become these, where that of one kind changes
abbrev pub Becomes : (Content → Content) → OwnerTable → Labels → Kind → Option OwnerSets → Type 0
Becomes f old name kind sets =
    (other : Kind) → content_at sets other ≡ (if same_kind kind other then f (content_of old (record { name = name; kind = other })) else content_of old (record { name = name; kind = other }))

-- the content of that key changes, and of no other one
pub content-updated : (f : Content → Content) (old new : OwnerTable) (name : Labels) (kind : Kind) (sets : Option OwnerSets) → IsUpdated old new name sets → Becomes f old name kind sets → (key : Key) → content_of new key ≡ (if same_key (record { name = name; kind = kind }) key then f (content_of old key) else content_of old key)
content-updated f old new name kind sets updated becomes key =
    content-found new key ∙ ap (λ found. content_at found key.kind) (updated key.name) ∙ by_case (same_name name key.name) refl where
      by_case : (b : Bool) → same_name name key.name ≡ b → content_at (cond b sets (lookup (same_name key.name) old)) key.kind ≡ (if b && same_kind kind key.kind then f (content_of old key) else content_of old key)
      by_case true same =
          becomes key.kind ∙ ap (λ n. if same_kind kind key.kind then f (content_of old (record { name = n; kind = key.kind })) else content_of old (record { name = n; kind = key.kind })) ((same_name_decides name key.name).0 same)
      by_case false apart = sym (content-found old key)

-- nothing changes where the owner has no set
pub content-stays : (f : Content → Content) (sets : OwnerTable) (name : Labels) (kind : Kind) → content_of sets (record { name = name; kind = kind }) ≡ no_content → f no_content ≡ no_content → (key : Key) → content_of sets key ≡ (if same_key (record { name = name; kind = kind }) key then f (content_of sets key) else content_of sets key)
content-stays f sets name kind none stays key = by_case (same_key (record { name = name; kind = kind }) key) refl where
  by_case : (b : Bool) → same_key (record { name = name; kind = kind }) key ≡ b → content_of sets key ≡ (if b then f (content_of sets key) else content_of sets key)
  by_case true same =
      let nothing : content_of sets key ≡ no_content = ap (content_of sets) (sym ((same_key-Decides (record { name = name; kind = kind }) key).0 same)) ∙ none in
      nothing ∙ sym stays ∙ ap f (sym nothing)
  by_case false apart = refl

-- the owners have data as before
pub data-updated : (old new : OwnerTable) (name : Labels) (sets : Option OwnerSets) → IsUpdated old new name sets → HaveData old → HasData sets → HaveData new
data-updated old new name sets updated have own other =
    subst HasData (sym (updated other)) (by_case (same_name name other)) where
      by_case : (b : Bool) → HasData (cond b sets (lookup (same_name other) old))
      by_case true = own
      by_case false = have other

-- sets that were written are removed
pub updated-gone : (old between new : OwnerTable) (name : Labels) (sets : Option OwnerSets) → IsUpdated old between name sets → IsUpdated between new name None → IsUpdated old new name None
updated-gone old between new name sets first second other =
    second other ∙ by_case (same_name name other) (first other) where
      by_case : (b : Bool) → lookup (same_name other) between ≡ cond b sets (lookup (same_name other) old) → cond b None (lookup (same_name other) between) ≡ cond b None (lookup (same_name other) old)
      by_case true is = refl
      by_case false is = is

-- sets that are written as they were
pub set_value-same : (test : Labels → Bool) (es : OwnerTable) (sets : OwnerSets) → Some sets ≡ lookup test es → set_value test es sets ≡ es
set_value-same test [] sets found = refl
set_value-same test (e ∷ es) sets found = elim (cases_Bool (test e.0)) [
  | inl here ↦
      let first : Some sets ≡ Some e.1 = rw here at found in
      let same : sets ≡ e.1 = cc in
      rw here (λ i. (e.0, same i) ∷ es)
  | inr other ↦ rw other (ap (λ rest. e ∷ rest) (set_value-same test es sets (rw other at found)))
]

-- where a look-up found the owner, and one of its sets was written
pub becomes-found : (f g : Content → Content) (es : OwnerTable) (name : Labels) (kind : Kind) (sets : OwnerSets) → ((set : Content) → carried (g set).number (g set).values ≡ f (carried set.number set.values)) → Some sets ≡ lookup (same_name name) es → Becomes f es name kind (Some (with_set kind (g (set_at kind sets)) sets))
becomes-found f g es name kind sets is found other =
    at_kind f g sets kind other is ∙ ap (λ content. if same_kind kind other then f content else content) (sym (content-is es name other sets found))

-- where it found none
pub becomes-new : (f g : Content → Content) (es : OwnerTable) (name : Labels) (kind : Kind) → ((set : Content) → carried (g set).number (g set).values ≡ f (carried set.number set.values)) → None ≡ lookup (same_name name) es → Becomes f es name kind (Some (with_set kind (g (set_at kind no_sets)) no_sets))
becomes-new f g es name kind is none other =
    at_kind f g no_sets kind other is ∙ ap (λ content. if same_kind kind other then f content else content) (sym (content-none es name other none))

-- so that the owner may be removed
pub becomes-gone : (f g : Content → Content) (es : OwnerTable) (name : Labels) (kind : Kind) (sets : OwnerSets) → ((set : Content) → carried (g set).number (g set).values ≡ f (carried set.number set.values)) → Some sets ≡ lookup (same_name name) es → has_no_data (with_set kind (g (set_at kind sets)) sets) ≡ true → Becomes f es name kind None
becomes-gone f g es name kind sets is found none other =
    carried_none (set_at other (with_set kind (g (set_at kind sets)) sets)).number (set_at other (with_set kind (g (set_at kind sets)) sets)).values (all_empty (with_set kind (g (set_at kind sets)) sets) none other)
    ∙ becomes-found f g es name kind sets is found other

-- an owner has data after an attempt to append to one of its sets
pub filled-push : {T E : Type 0} (result : Result T E) (kind : Kind) (old new : OwnerSets) (number : ℕ) (value : Data) → OnOk result (new ≡ with_set kind (pushed number value (set_at kind old)) old) → OnErr result (new ≡ old) → has_no_data old ≡ false → has_no_data new ≡ false
filled-push (Ok done) kind old new number value is _ filled = ap has_no_data is ∙ data-with_set kind (pushed number value (set_at kind old)) old (is_empty-push (set_at kind old).values value)
filled-push (Err fault) kind old new number value _ is filled = ap has_no_data is ∙ filled

pub OnErr-map : {T E : Type 0} (result : Result T E) (P Q : Type 0) → (P → Q) → OnErr result P → OnErr result Q
OnErr-map (Ok done) P Q f p = tt
OnErr-map (Err fault) P Q f p = f p

-- the sets of some owners are replaced by others
pub record AreReplaced (inside : Labels → Bool) (old kept text new : OwnerTable) : Type 0 where
  pub distinct : IsDistinct same_name (keys_of text)
  pub left : (name : Labels) → lookup (same_name name) kept
      ≡ (if inside name then None else lookup (same_name name) old)
  pub found : (name : Labels) → lookup (same_name name) new
      ≡ update_all same_name (λ n. lookup (same_name n) kept) text name

-- where the table is made of the other owners
pub left-filter : (inside : Labels → Bool) (old kept : OwnerTable) → kept ≡ filter (λ e. not (inside e.0)) old → (name : Labels) → lookup (same_name name) kept ≡ (if inside name then None else lookup (same_name name) old)
left-filter inside old kept kept_is name =
    ap (λ (es : OwnerTable). lookup (same_name name) es) kept_is
    ∙ lookup-filter-keys (same_name name) (λ n. not (inside n)) (not (inside name)) (λ n same. ap (λ (n' : Labels). not (inside n')) (sym ((same_name_decides name n).0 same))) old
    ∙ turned (inside name) where
      turned : (b : Bool) → cond (not b) (lookup (same_name name) old) None ≡ (if b then None else lookup (same_name name) old)
      turned true = refl
      turned false = refl

-- or where its owners were removed one by one
pub left-more : {X : Type 0} (names : List Labels) (i : ℕ) (own name : Labels) (old before after : Option X) → i < length names → own ≡ get_or names i own → before ≡ (if list_any (same_name name) (take i names) then None else old) → after ≡ cond (same_name own name) None before → after ≡ (if list_any (same_name name) (take (i + 1) names) then None else old)
left-more names i own name old before after inside here before_is after_is =
    after_is ∙ by_case (list_any (same_name name) (take i names)) (same_name own name) before_is
    ∙ ap (λ b. if b then None else old) (sym (list_any_more (same_name name) names i own inside ∙ ap (λ n. list_any (same_name name) (take i names) || same_name name n) (sym here) ∙ ap (λ b. list_any (same_name name) (take i names) || b) (same_name-sym name own))) where
      by_case : (a b : Bool) → before ≡ (if a then None else old) → cond b None before ≡ (if (a || b) then None else old)
      by_case true true is = refl
      by_case true false is = is
      by_case false true is = refl
      by_case false false is = is

lookup-replaced : (inside : Labels → Bool) (old kept text new : OwnerTable) → AreReplaced inside old kept text new → (name : Labels) → lookup (same_name name) new ≡ option_or (lookup (same_name name) text) (if inside name then None else lookup (same_name name) old)
lookup-replaced inside old kept text new is name =
    is.found name
    ∙ update_all_distinct (equivalence_from_decides same_name same_name_decides) same_name (λ a b. refl) (λ n. lookup (same_name n) kept) text name is.distinct
    ∙ ap (option_or (lookup (same_name name) text)) (is.left name)

or_none : (found : Option OwnerSets) → option_or found None ≡ found
or_none None = refl
or_none (Some sets) = refl

none-empty : (found : Option OwnerSets) → HasData found → ((kind : Kind) → content_at found kind ≡ no_content) → found ≡ None
none-empty None have empty = refl
none-empty (Some sets) have empty =
    let none : (kind : Kind) → is_empty (set_at kind sets).values ≡ true = λ kind. ap (λ (content : Content). is_empty content.values) (empty kind) in
    let never : false ≡ true = sym have ∙ no_data-is sets none in cc

pub content-replaced : (inside : Labels → Bool) (old kept text new : OwnerTable) → AreReplaced inside old kept text new → HaveData text → ((key : Key) → inside key.name ≡ false → content_of text key ≡ no_content) → (key : Key) → content_of new key ≡ (if inside key.name then content_of text key else content_of old key)
content-replaced inside old kept text new is have none key =
    content-found new key ∙ ap (λ found. content_at found key.kind) (lookup-replaced inside old kept text new is key.name) ∙ by_case (inside key.name) refl where
      by_case : (b : Bool) → inside key.name ≡ b → content_at (option_or (lookup (same_name key.name) text) (if b then None else lookup (same_name key.name) old)) key.kind ≡ (if b then content_of text key else content_of old key)
      by_case true within = ap (λ found. content_at found key.kind) (or_none (lookup (same_name key.name) text)) ∙ sym (content-found text key)
      by_case false outside =
          let nothing : lookup (same_name key.name) text ≡ None = none-empty (lookup (same_name key.name) text) (have key.name) (λ kind. sym (content-found text (record { name = key.name; kind = kind })) ∙ none (record { name = key.name; kind = kind }) outside) in
          ap (λ found. content_at (option_or found (lookup (same_name key.name) old)) key.kind) nothing ∙ sym (content-found old key)

pub data-replaced : (inside : Labels → Bool) (old kept text new : OwnerTable) → AreReplaced inside old kept text new → HaveData old → HaveData text → HaveData new
data-replaced inside old kept text new is have text_data name =
    subst HasData (sym (lookup-replaced inside old kept text new is name)) (by_case (lookup (same_name name) text) (inside name) (text_data name)) where
      by_case : (found : Option OwnerSets) (b : Bool) → HasData found → HasData (option_or found (if b then None else lookup (same_name name) old))
      by_case (Some sets) b own = own
      by_case None true own = tt
      by_case None false own = have name

-- the numbers of an owner's sets come first, and no later ones of its name follow
numbers-own : (owner : Labels × OwnerSets) (key : Key) (sets : OwnerSets) (rest : List SetNumber) → same_name owner.0 key.name ≡ true → number_of (map (λ own. number_at own.kind owner) sets ++ rest) key ≡ (if has_kind_of key.kind sets then (held key.kind owner.1).number else number_of rest key)
numbers-own owner key [] rest here = refl
numbers-own owner key (own ∷ sets) rest here = elim (cases_Bool (same_kind own.kind key.kind)) [
  | inl same ↦ rw (here, same) (ap (λ kind. (held kind owner.1).number) ((same_kind-Decides own.kind key.kind).0 same))
  | inr apart ↦ rw (here, apart) (numbers-own owner key sets rest here)
]

numbers-passed : (owner : Labels × OwnerSets) (key : Key) (sets : OwnerSets) (rest : List SetNumber) → same_name owner.0 key.name ≡ false → number_of (map (λ own. number_at own.kind owner) sets ++ rest) key ≡ number_of rest key
numbers-passed owner key [] rest other = refl
numbers-passed owner key (own ∷ sets) rest other = rw other (numbers-passed owner key sets rest other)

numbers-none : (name : Labels) (key : Key) (numbers : List SetNumber) → same_name name key.name ≡ true → number_of (filter (λ other. not (same_name name other.key.name)) numbers) key ≡ 0
numbers-none name key [] here = refl
numbers-none name key (first ∷ numbers) here = elim (cases_Bool (same_name name first.key.name)) [
  | inl same ↦ rw same (numbers-none name key numbers here)
  | inr apart ↦
      let away : same_name first.key.name key.name ≡ false = sym (ap (λ n. same_name first.key.name n) ((same_name_decides name key.name).0 here)) ∙ same_name-sym first.key.name name ∙ apart in
      rw (apart, away) (numbers-none name key numbers here)
]

numbers-left : (name : Labels) (key : Key) (numbers : List SetNumber) → same_name name key.name ≡ false → number_of (filter (λ other. not (same_name name other.key.name)) numbers) key ≡ number_of numbers key
numbers-left name key [] other = refl
numbers-left name key (first ∷ numbers) other = elim (cases_Bool (same_name name first.key.name)) [
  | inl same ↦
      let away : same_name first.key.name key.name ≡ false = ap (λ n. same_name n key.name) (sym ((same_name_decides name first.key.name).0 same)) ∙ other in
      rw (same, away) (numbers-left name key numbers other)
  | inr apart ↦ elim (cases_Bool (same_key first.key key)) [
    | inl found ↦ rw (apart, found) refl
    | inr passed ↦ rw (apart, passed) (numbers-left name key numbers other)
  ]
]

-- the number that callers see is that of the content
pub number_of-numbers_of : (owners : OwnerTable) (key : Key) → number_of (numbers_of owners) key ≡ (content_of owners key).number
number_of-numbers_of [] key = refl
number_of-numbers_of (owner ∷ owners) key = elim (cases_Bool (same_name owner.0 key.name)) [
  | inl here ↦
      numbers-own owner key owner.1 (later owner owners) here
      ∙ ap (λ n. if has_kind_of key.kind owner.1 then (held key.kind owner.1).number else n) (numbers-none owner.0 key (numbers_of owners) here)
      ∙ by_kind (has_kind_of key.kind owner.1) refl ∙ rw here refl
  | inr other ↦
      numbers-passed owner key owner.1 (later owner owners) other
      ∙ numbers-left owner.0 key (numbers_of owners) other ∙ number_of-numbers_of owners key ∙ rw other refl
] where
  later : Labels × OwnerSets → OwnerTable → List SetNumber
  later owner owners = filter (λ other. not (same_name owner.0 other.key.name)) (numbers_of owners)

  by_kind : (b : Bool) → has_kind_of key.kind owner.1 ≡ b → (if b then (held key.kind owner.1).number else 0) ≡ (held key.kind owner.1).number
  by_kind true some = refl
  by_kind false none = ap (λ (set : Content). (carried set.number set.values).number) (sym (absent key.kind owner.1 none))
