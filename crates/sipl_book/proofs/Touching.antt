-- The entry with an id is written in the table.
use Rattle.std.proofs.Common.{◌≡◌, ℕ, suc, zero, ◌<◌, true, eqb, [], ◌∷◌, map, get_or, length, refl, sym, ap, subst, ◌∙◌, arith}
use Rattle.std.specs.List.{All, IsDistinct}
use Rattle.std.specs.Map.{keys_of, values_of}
use Rattle.std.proofs.lemmas.Bool.{eq-eqb}
use Rattle.std.proofs.lemmas.List.Elements.{All-cons, All-head, All-tail}
use Rattle.indexmap.specs.IndexMap.{set_value_at}
use Rattle.sipl_records.specs.declared.record.Key.{Key}
use Rattle.sipl_uri.specs.declared.question.Question.{Question}
use Rattle.sipl_book.specs.Cache.{InOrder}
use Rattle.sipl_book.specs.Entries.{EntryState, after_change}
use Rattle.sipl_book.specs.EntryTable.{IsTable}
use Rattle.sipl_book.specs.Indexed.{touched}
use Rattle.sipl_book.specs.Questions.{same_question}
use Rattle.sipl_book.proofs.Ids.{differ, InOrder-tail}
use Rattle.sipl_book.proofs.Indexing.{above_own, touched-absent, touched-other, touched-own}
use Rattle.sipl_book.proofs.Table.{Rows}

pub values-touched : (id : ℕ) (key : Key) (rows : Rows) (i : ℕ) (e : EntryState) → InOrder (values_of rows) → i < length (values_of rows)
    → get_or (values_of rows) i e ≡ e → e.id ≡ id → values_of (set_value_at rows i (after_change (key ∷ []) e)) ≡ map (touched id key) (values_of rows)
values-touched id key [] i e order within is own = refl
values-touched id key (x ∷ rows) zero e order within is own =
    let here : eqb x.1.id id ≡ true = eq-eqb x.1.id id (ap (λ (y : EntryState). y.id) is ∙ own) in
    λ i. (ap (after_change (key ∷ [])) (sym is) ∙ sym (touched-own id key x.1 here)) i ∷ sym (touched-absent id key (values_of rows) (above_own id x.1 (values_of rows) order here)) i
values-touched id key (x ∷ rows) (suc i) e order within is own =
    let below = order 0 (suc i) e (omega arith) within in
    let number : (get_or (values_of rows) i e).id ≡ id = ap (λ (y : EntryState). y.id) is ∙ own in
    λ j. sym (touched-other id key x.1 (differ x.1.id id (λ same. omega (arith, below, number, same)))) j
    ∷ values-touched id key rows i e (InOrder-tail x.1 (values_of rows) order) (omega (arith, within)) is own j

keys-written : (rows : Rows) (i : ℕ) (w : EntryState) → keys_of (set_value_at rows i w) ≡ keys_of rows
keys-written [] i w = refl
keys-written (x ∷ rows) zero w = refl
keys-written (x ∷ rows) (suc i) w = ap (λ ks. x.0 ∷ ks) (keys-written rows i w)

keyed-touched : (key : Key) (rows : Rows) (i : ℕ) (e : EntryState) → i < length (values_of rows) → get_or (values_of rows) i e ≡ e
    → All (λ r. r.1.found.question ≡ r.0) rows → All (λ r. r.1.found.question ≡ r.0) (set_value_at rows i (after_change (key ∷ []) e))
keyed-touched key [] i e within is all = all
keyed-touched key (x ∷ rows) zero e within is all =
    let P : Question × EntryState → Type 0 = λ r. r.1.found.question ≡ r.0 in
    All-cons P (x.0, after_change (key ∷ []) e) rows (sym (ap (λ (y : EntryState). y.found.question) is) ∙ All-head P x rows all) (All-tail P x rows all)
keyed-touched key (x ∷ rows) (suc i) e within is all =
    let P : Question × EntryState → Type 0 = λ r. r.1.found.question ≡ r.0 in
    All-cons P x (set_value_at rows i (after_change (key ∷ []) e)) (All-head P x rows all) (keyed-touched key rows i e (omega (arith, within)) is (All-tail P x rows all))

pub IsTable-touched : (key : Key) (rows : Rows) (i : ℕ) (e : EntryState) → i < length (values_of rows) → get_or (values_of rows) i e ≡ e
    → IsTable rows → IsTable (set_value_at rows i (after_change (key ∷ []) e))
IsTable-touched key rows i e within is table =
    record {
      keyed = keyed-touched key rows i e within is table.keyed;
      distinct = subst (IsDistinct same_question) (sym (keys-written rows i (after_change (key ∷ []) e))) table.distinct;
    }
