-- Lists of records that are the same but for those of some owners.
use Rattle.std.proofs.Common.{◌≡◌, ℕ, ◌+◌, ◌<◌, Bool, true, false, not, ◌||◌, List, [], ◌∷◌, ◌++◌, length, take, drop, get_or, refl, ap, sym, ◌∙◌, inl, inr, append-nil}
use Rattle.std.specs.List.{list_any, list_all}
use Rattle.std.proofs.lemmas.Bool.{cases_Bool}
use Rattle.std.proofs.lemmas.List.{take_more, take-append-drop}
use Rattle.std.proofs.lemmas.List.Elements.{filter-append}
use Rattle.std.proofs.lemmas.List.Folds.{list_all-append, list_any_more}
use Rattle.sipl_names.specs.Labels.{Labels, is_within, same_name}
use Rattle.sipl_names.proofs.Public.{same_name_decides}
use Rattle.sipl_records.specs.declared.record.Record.{Record}
use Rattle.std.specs.Bool.{OnTrue}
use Rattle.sipl_records.specs.Sets.{same_record}
use Rattle.sipl_records.proofs.Public.{filter-weaker, same_record-Decides}
use Rattle.sipl_zonestore.specs.Differences.{AreWithin, records_besides}
use Rattle.sipl_zonestore.proofs.Elements.{and_first, and_second, or_first, or_second}

was_true : (b : Bool) → not b ≡ false → b ≡ true
was_true true gone = refl
was_true false gone = sym gone

besides-twice : (old new : Labels → Bool) → ((name : Labels) → old name ≡ true → new name ≡ true) → (records : List Record) → records_besides new (records_besides old records) ≡ records_besides new records
besides-twice old new more records =
    filter-weaker (λ r. not (new r.owner)) (λ r. not (old r.owner)) (λ r gone. ap not (more r.owner (was_true (old r.owner) gone))) records

-- they are the same but for more owners too
pub besides-grown : (old new : Labels → Bool) → ((name : Labels) → old name ≡ true → new name ≡ true) → (a b : List Record) → records_besides old a ≡ records_besides old b → records_besides new a ≡ records_besides new b
besides-grown old new more a b same =
    sym (besides-twice old new more a) ∙ ap (records_besides new) same ∙ besides-twice old new more b

-- with one record more in both
pub besides-both : (owners : Labels → Bool) (a b : List Record) (r : Record) → records_besides owners a ≡ records_besides owners b → records_besides owners (a ++ r ∷ []) ≡ records_besides owners (b ++ r ∷ [])
besides-both owners a b r same =
    filter-append (λ r. not (owners r.owner)) a (r ∷ []) ∙ ap (λ rs. rs ++ records_besides owners (r ∷ [])) same ∙ sym (filter-append (λ r. not (owners r.owner)) b (r ∷ []))

-- a record of the owners does not count
pub besides-gone : (owners : Labels → Bool) (a : List Record) (r : Record) → owners r.owner ≡ true → records_besides owners (a ++ r ∷ []) ≡ records_besides owners a
besides-gone owners a r gone =
    filter-append (λ r. not (owners r.owner)) a (r ∷ []) ∙ rw gone (append-nil (records_besides owners a))

-- nor does the next one of a text
pub besides-next : (owners : Labels → Bool) (text : List Record) (place : ℕ) (r : Record) → place < length text → r ≡ get_or text place r → owners r.owner ≡ true → records_besides owners (take (place + 1) text) ≡ records_besides owners (take place text)
besides-next owners text place r inside here gone =
    ap (records_besides owners) (take_more text place r inside ∙ ap (λ s. take place text ++ s ∷ []) (sym here)) ∙ besides-gone owners (take place text) r gone

-- the next record of a text
pub next-is : (text : List Record) (place : ℕ) (r : Record) → place < length text → r ≡ get_or text place r → take (place + 1) text ≡ take place text ++ r ∷ []
next-is text place r inside here = take_more text place r inside ∙ ap (λ s. take place text ++ s ∷ []) (sym here)

-- one owner more
pub more-owner : (owner : Labels) (old new : Labels → Bool) → ((name : Labels) → new name ≡ (same_name owner name || old name)) → (name : Labels) → old name ≡ true → new name ≡ true
more-owner owner old new is name there = is name ∙ or_second (same_name owner name) (old name) there

pub own-owner : (owner : Labels) (old new : Labels → Bool) → ((name : Labels) → new name ≡ (same_name owner name || old name)) → new owner ≡ true
own-owner owner old new is = is owner ∙ or_first (same_name owner owner) (old owner) ((same_name_decides owner owner).1 refl)

either : (a b : Bool) → (a || b) ≡ true → a ≡ false → b ≡ true
either true b some none = let never : true ≡ false = none in cc
either false b some none = some

pub within-owner : (apex owner : Labels) (old new : Labels → Bool) → ((name : Labels) → new name ≡ (same_name owner name || old name)) → is_within owner apex ≡ true → AreWithin apex old → AreWithin apex new
within-owner apex owner old new is inside within name there = elim (cases_Bool (same_name owner name)) [
  | inl same ↦ ap (λ n. is_within n apex) (sym ((same_name_decides owner name).0 same)) ∙ inside
  | inr other ↦ within name (either (same_name owner name) (old name) (sym (is name) ∙ there) other)
]

-- ---- what is left of a text

all-owned : (owners : Labels → Bool) (records : List Record) → ((name : Labels) → list_any (λ r. same_name r.owner name) records ≡ true → owners name ≡ true) → records_besides owners records ≡ []
all-owned owners [] has = refl
all-owned owners (r ∷ records) has =
    rw (has r.owner (or_first (same_name r.owner r.owner) (list_any (λ s. same_name s.owner r.owner) records) ((same_name_decides r.owner r.owner).1 refl))) (all-owned owners records (λ name some. has name (or_second (same_name r.owner name) (list_any (λ s. same_name s.owner name) records) some)))

-- where its owners are added, the whole text is the same but for the owners
pub besides-rest : (old new : Labels → Bool) (zone text : List Record) (place : ℕ) → records_besides old zone ≡ records_besides old (take place text) → ((name : Labels) → new name ≡ (list_any (λ r. same_name r.owner name) (drop place text) || old name)) → records_besides new zone ≡ records_besides new text
besides-rest old new zone text place same is =
    besides-grown old new (λ name there. is name ∙ or_second (list_any (λ r. same_name r.owner name) (drop place text)) (old name) there) zone (take place text) same
    ∙ sym (append-nil (records_besides new (take place text)))
    ∙ ap (λ rs. records_besides new (take place text) ++ rs) (sym (all-owned new (drop place text) (λ name some. is name ∙ or_first (list_any (λ r. same_name r.owner name) (drop place text)) (old name) some)))
    ∙ sym (filter-append (λ r. not (new r.owner)) (take place text) (drop place text))
    ∙ ap (records_besides new) (take-append-drop place text)

any-within : (apex name : Labels) (records : List Record) → list_all (λ r. is_within r.owner apex) records ≡ true → list_any (λ r. same_name r.owner name) records ≡ true → is_within name apex ≡ true
any-within apex name [] all some = let never : false ≡ true = some in cc
any-within apex name (r ∷ records) all some = elim (cases_Bool (same_name r.owner name)) [
  | inl same ↦
      ap (λ n. is_within n apex) (sym ((same_name_decides r.owner name).0 same)) ∙ and_first (is_within r.owner apex) (list_all (λ r. is_within r.owner apex) records) all
  | inr other ↦ any-within apex name records (and_second (is_within r.owner apex) (list_all (λ r. is_within r.owner apex) records) all) (either (same_name r.owner name) (list_any (λ s. same_name s.owner name) records) some other)
]

pub within-rest : (apex : Labels) (old new : Labels → Bool) (records : List Record) → ((name : Labels) → new name ≡ (list_any (λ r. same_name r.owner name) records || old name)) → list_all (λ r. is_within r.owner apex) records ≡ true → AreWithin apex old → AreWithin apex new
within-rest apex old new records is all within name there = elim (cases_Bool (list_any (λ r. same_name r.owner name) records)) [
  | inl some ↦ any-within apex name records all some
  | inr none ↦ within name (either (list_any (λ r. same_name r.owner name) records) (old name) (sym (is name) ∙ there) none)
]

-- owners that are added one by one
pub owners-more : (records : List Record) (i : ℕ) (r : Record) (name : Labels) (old before after : Bool) → i < length records → r ≡ get_or records i r → before ≡ (list_any (λ s. same_name s.owner name) (take i records) || old) → after ≡ (same_name r.owner name || before) → after ≡ (list_any (λ s. same_name s.owner name) (take (i + 1) records) || old)
owners-more records i r name old before after inside here before_is after_is =
    after_is ∙ ap (λ b. same_name r.owner name || b) before_is
    ∙ moved (same_name r.owner name) (list_any (λ s. same_name s.owner name) (take i records)) old
    ∙ ap (λ b. b || old) (sym (list_any_more (λ s. same_name s.owner name) records i r inside ∙ ap (λ (s : Record). list_any (λ s. same_name s.owner name) (take i records) || same_name s.owner name) (sym here))) where
      moved : (a b c : Bool) → (a || (b || c)) ≡ ((b || a) || c)
      moved true true c = refl
      moved true false c = refl
      moved false true c = refl
      moved false false c = refl

pub drop-all : {X : Type 0} (p : X → Bool) (n : ℕ) (xs : List X) → list_all p xs ≡ true → list_all p (drop n xs) ≡ true
drop-all p n xs all =
    and_second (list_all p (take n xs)) (list_all p (drop n xs)) (sym (list_all-append p (take n xs) (drop n xs)) ∙ ap (list_all p) (take-append-drop n xs) ∙ all)

-- the record that is sought is the next one of a text
pub at-is : (b : Bool) (text : List Record) (place : ℕ) (found sought : Record) → place < length text → found ≡ get_or text place found → b ≡ same_record found sought → OnTrue b ((place < length text) × (take (place + 1) text ≡ take place text ++ sought ∷ []))
at-is false text place found sought inside here is = tt
at-is true text place found sought inside here is =
    (inside, next-is text place found inside here ∙ ap (λ s. take place text ++ s ∷ []) ((same_record-Decides found sought).0 (sym is)))
