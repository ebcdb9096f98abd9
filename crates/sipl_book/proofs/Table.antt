-- The table of the entries: its look-ups, and what a change of it leaves.
use Rattle.std.proofs.Common.{◌≡◌, ◌≢◌, ℕ, suc, ◌<◌, true, false, cond, List, [], ◌∷◌, ◌++◌, map, length, None, Some, refl, sym, ap, subst, ◌∙◌, arith}
use Rattle.std.specs.List.{All, AllPairs, IsDistinct}
use Rattle.std.specs.Map.{keys_of, values_of, lookup}
use Rattle.std.proofs.Math.ListN.{length-map}
use Rattle.std.proofs.lemmas.Bool.{true≢false, cond-true, cond-false, cond_both}
use Rattle.std.proofs.lemmas.List.{get_or-map, map-append}
use Rattle.std.proofs.lemmas.List.Elements.{All-nil, All-cons, All-head, All-tail}
use Rattle.std.proofs.lemmas.Map.Keys.{IsDistinct-tail, apart_from_distinct}
use Rattle.std.proofs.lemmas.Option.{none-some, same_Some}
use Rattle.indexmap.specs.IndexMap.{insert_entry}
use Rattle.indexmap.proofs.MapLemmas.{absent_from_lookup, insert_entry-absent}
use Rattle.sipl_uri.specs.declared.question.Question.{Question}
use Rattle.sipl_uri.specs.contracts.question.QuestionPartialEq.TheImpl.{eq-value}
use Rattle.sipl_plans.specs.Findings.{Found}
use Rattle.sipl_book.specs.Questions.{same_question}
use Rattle.sipl_book.specs.Entries.{EntryState, is_of, entry_of, renewed}
use Rattle.sipl_book.specs.EntryTable.{IsTable}
use Rattle.sipl_book.proofs.Questions.{same_question_decides, same_question-equivalence, derived_eq}
use Rattle.sipl_book.proofs.Committed.{current, renewed_cases, is_of_decides}

abbrev pub Rows : Type 0
Rows = List (Question × EntryState)

abbrev IsKeyed : Question × EntryState → Type 0
IsKeyed e = e.1.found.question ≡ e.0

-- ---- look-ups

pub IsTable-nil : IsTable []
unfolding IsDistinct
IsTable-nil = record { keyed = All-nil IsKeyed; distinct = tt }

pub IsTable-tail : (x : Question × EntryState) (es : Rows) → IsTable (x ∷ es) → IsTable es
IsTable-tail x es table =
    record { keyed = All-tail IsKeyed x es table.keyed; distinct = IsDistinct-tail same_question x.0 (keys_of es) table.distinct }

pub is_of-row : (k : Question) (x : Question × EntryState) → IsKeyed x → is_of k x.1 ≡ same_question k x.0
is_of-row k x keyed = ap (λ q. same_question q k) keyed ∙ same_question-equivalence.symm x.0 k

-- a look-up finds the entry of the question
pub lookup-entry_of : (k : Question) (es : Rows) → IsTable es → lookup (same_question k) es ≡ entry_of (values_of es) k
lookup-entry_of k [] table = refl
lookup-entry_of k (x ∷ es) table =
    let row = is_of-row k x (All-head IsKeyed x es table.keyed) in
    let rest = lookup-entry_of k es (IsTable-tail x es table) in
    λ i. cond (sym row i) (Some x.1) (rest i)

-- the questions of the entries are distinct
pub questions-table : (es : Rows) → IsTable es → AllPairs (λ a b. a.found.question ≢ b.found.question) (values_of es)
questions-table es table =
    λ i j d below within same.
    let q = d.found.question in
    let here : j < length es = omega (arith, length-map es (λ e. e.1)) in
    let before : i < length es = omega arith in
    let last : j < length (keys_of es) = omega (arith, length-map es (λ e. e.0)) in
    let question = λ (k : ℕ) (in' : k < length es).
    ap (λ (e : EntryState). e.found.question) (get_or-map (λ e. e.1) es k (q, d) d in')
    ∙ table.keyed k (q, d) in' ∙ sym (get_or-map (λ e. e.0) es k (q, d) q in') in
    true≢false
    (sym ((same_question_decides _ _).1 (sym (question i before) ∙ same ∙ question j here))
    ∙ apart_from_distinct same_question (keys_of es) i j q table.distinct below last)

-- a look-up by the derived equality finds the entry of the question
pub get-entry_of : (k : Question) (es : Rows) → IsTable es → lookup (eq-value.it k) es ≡ entry_of (values_of es) k
get-entry_of k es table = ap (λ same. lookup (same k) es) derived_eq ∙ lookup-entry_of k es table

-- ---- an insertion

-- the finding's entry changes none of other questions
map-renewed_other : (found : Found) (x : EntryState) (es : Rows) → x.found.question ≡ found.question
    → AllPairs (λ a b. a.found.question ≢ b.found.question) (x ∷ values_of es) → map (renewed found) (values_of es) ≡ values_of es
map-renewed_other found x es own apart =
    by (values_of es) (λ k d within. apart 0 (suc k) d (omega arith) (omega arith))
  where
    by : (xs : List EntryState) → All (λ e. x.found.question ≢ e.found.question) xs → map (renewed found) xs ≡ xs
    by [] h = refl
    by (e ∷ xs) h =
        let P : EntryState → Type 0 = λ y. x.found.question ≢ y.found.question in
        let stays = renewed_cases found e (λ y. y ≡ e) (λ same. absurd (All-head P e xs h (own ∙ sym same))) (λ _. refl) in
        λ i. stays i ∷ by xs (All-tail P e xs h) i

-- the insertion of the new entry of a question that has one renews it
pub values-insert_entry_held : (found : Found) (es : Rows) (e : EntryState) → IsTable es → entry_of (values_of es) found.question ≡ Some e
    → values_of (insert_entry same_question es found.question (current e.id found)) ≡ map (renewed found) (values_of es)
values-insert_entry_held found [] e table is = absurd (none-some e is)
values-insert_entry_held found (x ∷ es) e table is =
    let q = found.question in
    let v = current e.id found in
    let row = is_of-row q x (All-head IsKeyed x es table.keyed) in
    let rest = values-insert_entry_held found es e (IsTable-tail x es table) in
    elim (same_question q x.0) as (λ b. is_of q x.1 ≡ b → cond b (Some x.1) (entry_of (values_of es) q) ≡ Some e
    → values_of (cond b ((x.0, v) ∷ es) (x ∷ insert_entry same_question es q v)) ≡ renewed found x.1 ∷ map (renewed found) (values_of es)) [
      | true ↦ λ own first.
          let now = cond-true (is_of q x.1) (current x.1.id found) x.1 own in
          let others = map-renewed_other found x.1 es ((is_of_decides q x.1).0 own) (questions-table (x ∷ es) table) in
          λ i. (ap (λ (y : EntryState). current y.id found) (sym (same_Some x.1 e first)) ∙ sym now) i ∷ sym others i
      | false ↦ λ other later. let stays = cond-false (is_of q x.1) (current x.1.id found) x.1 other in λ i. sym stays i ∷ rest later i
    ] row (ap (λ b. cond b (Some x.1) (entry_of (values_of es) q)) (sym row) ∙ is)

-- and that of a question that has none is last
pub insert_entry-new : (found : Found) (id : ℕ) (es : Rows) → IsTable es → entry_of (values_of es) found.question ≡ None
    → values_of (insert_entry eq-value.it es found.question (current id found)) ≡ values_of es ++ current id found ∷ []
insert_entry-new found id es table none =
    let q = found.question in
    let v = current id found in
    let absent = absent_from_lookup (eq-value.it q) es (get-entry_of q es table ∙ none) in
    ap values_of (insert_entry-absent eq-value.it q v es absent) ∙ map-append (λ e. e.1) es ((q, v) ∷ [])

keyed-insert_entry : (k : Question) (v : EntryState) (es : Rows) → v.found.question ≡ k → All IsKeyed es → All IsKeyed (insert_entry same_question es k v)
keyed-insert_entry k v [] own all = All-cons IsKeyed (k, v) [] own (All-nil IsKeyed)
keyed-insert_entry k v (x ∷ es) own all =
    cond_both (same_question k x.0) ((x.0, v) ∷ es) (x ∷ insert_entry same_question es k v) (All IsKeyed)
    (λ same. All-cons IsKeyed (x.0, v) es (own ∙ (same_question_decides k x.0).0 same) (All-tail IsKeyed x es all))
    (λ other. All-cons IsKeyed x (insert_entry same_question es k v) (All-head IsKeyed x es all) (keyed-insert_entry k v es own (All-tail IsKeyed x es all)))

-- each entry still stands at its finding's question
pub IsTable-insert_entry : (id : ℕ) (found : Found) (es new : Rows) → IsTable es
    → new ≡ insert_entry eq-value.it es found.question (current id found) → IsDistinct eq-value.it (keys_of new) → IsTable new
IsTable-insert_entry id found es new table is distinct =
    let same = is ∙ ap (λ same. insert_entry same es found.question (current id found)) derived_eq in
    record {
      keyed = subst (All IsKeyed) (sym same) (keyed-insert_entry found.question (current id found) es refl table.keyed);
      distinct = subst (λ same. IsDistinct same (keys_of new)) derived_eq distinct;
    }
