-- The entry of a question is renewed in the table, or removed from it.
use Rattle.std.proofs.Common.{◌≡◌, ◌≢◌, suc, Bool, true, false, not, cond, List, [], ◌∷◌, map, Some, refl, sym, ap, subst, ◌∙◌, arith}
use Rattle.std.specs.List.{All, IsDistinct}
use Rattle.std.specs.Map.{keys_of, values_of, set_value, remove_entry}
use Rattle.std.proofs.lemmas.List.Elements.{All-cons, All-head, All-tail}
use Rattle.std.proofs.lemmas.Option.{none-some}
use Rattle.indexmap.specs.IndexMap.{insert_entry}
use Rattle.sipl_uri.specs.declared.question.Question.{Question}
use Rattle.sipl_uri.specs.contracts.question.QuestionPartialEq.TheImpl.{eq-value}
use Rattle.sipl_plans.specs.Findings.{Found}
use Rattle.sipl_book.specs.Questions.{same_question}
use Rattle.sipl_book.specs.Entries.{EntryState, is_of, entry_of, renewed}
use Rattle.sipl_book.specs.EntryTable.{IsTable}
use Rattle.sipl_book.specs.Repairs.{without}
use Rattle.sipl_book.proofs.Questions.{derived_eq}
use Rattle.sipl_book.proofs.Committed.{current, is_of_decides, renewed_cases}
use Rattle.sipl_book.proofs.Table.{Rows, IsTable-tail, is_of-row, questions-table, values-insert_entry_held}

-- ---- a finding for the entry of its question

-- where no entry is of the question, nothing is renewed
pub renewed-absent : (found : Found) (xs : List EntryState) → All (λ e. e.found.question ≢ found.question) xs → map (renewed found) xs ≡ xs
renewed-absent found [] other = refl
renewed-absent found (x ∷ xs) other =
    let P : EntryState → Type 0 = λ e. e.found.question ≢ found.question in
    let stays = renewed_cases found x (λ y. y ≡ x) (λ own. absurd (All-head P x xs other own)) (λ _. refl) in
    λ i. stays i ∷ renewed-absent found xs (All-tail P x xs other) i

-- a value that is written where one is, is inserted
written : (q : Question) (v : EntryState) (es : Rows) (e : EntryState) → IsTable es → entry_of (values_of es) q ≡ Some e
    → set_value (same_question q) es v ≡ insert_entry same_question es q v
written q v [] e table is = absurd (none-some e is)
written q v (x ∷ es) e table is =
    let row = is_of-row q x (All-head (λ (r : Question × EntryState). r.1.found.question ≡ r.0) x es table.keyed) in
    elim (same_question q x.0) as (λ b. cond b (Some x.1) (entry_of (values_of es) q) ≡ Some e
    → cond b ((x.0, v) ∷ es) (x ∷ set_value (same_question q) es v) ≡ cond b ((x.0, v) ∷ es) (x ∷ insert_entry same_question es q v)) [
      | true ↦ λ _. refl
      | false ↦ λ later. ap (λ rest. x ∷ rest) (written q v es e (IsTable-tail x es table) later)
    ] (ap (λ b. cond b (Some x.1) (entry_of (values_of es) q)) (sym row) ∙ is)

pub written_entry : (found : Found) (es : Rows) (e : EntryState) → IsTable es → entry_of (values_of es) found.question ≡ Some e
    → set_value (eq-value.it found.question) es (current e.id found) ≡ insert_entry eq-value.it es found.question (current e.id found)
written_entry found es e table is =
    ap (λ same. set_value (same found.question) es (current e.id found)) derived_eq
    ∙ written found.question (current e.id found) es e table is
    ∙ ap (λ same. insert_entry same es found.question (current e.id found)) (sym derived_eq)

pub values-written : (found : Found) (es : Rows) (e : EntryState) → IsTable es → entry_of (values_of es) found.question ≡ Some e
    → values_of (set_value (eq-value.it found.question) es (current e.id found)) ≡ map (renewed found) (values_of es)
values-written found es e table is =
    ap (λ same. values_of (set_value (same found.question) es (current e.id found))) derived_eq
    ∙ ap values_of (written found.question (current e.id found) es e table is)
    ∙ values-insert_entry_held found es e table is

-- ---- the removal of an entry

-- where no entry is of a question, all stay
pub without-absent : (q : Question) (xs : List EntryState) → All (λ e. e.found.question ≢ q) xs → without q xs ≡ xs
without-absent q [] other = refl
without-absent q (x ∷ xs) other =
    let P : EntryState → Type 0 = λ e. e.found.question ≢ q in
    by (is_of q x) (is_of_decides q x).0 (All-head P x xs other) (without-absent q xs (All-tail P x xs other))
  where
    by : (b : Bool) → (b ≡ true → x.found.question ≡ q) → x.found.question ≢ q → without q xs ≡ xs → cond (not b) (x ∷ without q xs) (without q xs) ≡ x ∷ xs
    by true own other rest = absurd (other (own refl))
    by false own other rest = ap (λ ys. x ∷ ys) rest

-- the entry of a question is the only one that goes
removed : (q : Question) (es : Rows) → IsTable es → values_of (remove_entry (same_question q) es) ≡ without q (values_of es)
removed q [] table = refl
removed q (x ∷ es) table =
    let row = is_of-row q x (All-head (λ (r : Question × EntryState). r.1.found.question ≡ r.0) x es table.keyed) in
    let apart = questions-table (x ∷ es) table in
    elim (same_question q x.0) as (λ b. is_of q x.1 ≡ b
    → values_of (cond b es (x ∷ remove_entry (same_question q) es)) ≡ cond (not b) (x.1 ∷ without q (values_of es)) (without q (values_of es))) [
      | true ↦ λ own.
          sym (without-absent q (values_of es) (λ k d within same. apart 0 (suc k) d (omega arith) (omega arith) ((is_of_decides q x.1).0 own ∙ sym same)))
      | false ↦ λ _. ap (λ rest. x.1 ∷ rest) (removed q es (IsTable-tail x es table))
    ] row ∙ ap (λ b. cond (not b) (x.1 ∷ without q (values_of es)) (without q (values_of es))) (sym row)

pub values-removed : (q : Question) (es : Rows) → IsTable es → values_of (remove_entry (eq-value.it q) es) ≡ without q (values_of es)
values-removed q es table = ap (λ same. values_of (remove_entry (same q) es)) derived_eq ∙ removed q es table

keyed-removed : (test : Question → Bool) (es : Rows) → All (λ e. e.1.found.question ≡ e.0) es → All (λ e. e.1.found.question ≡ e.0) (remove_entry test es)
keyed-removed test [] all = all
keyed-removed test (x ∷ es) all =
    let P : Question × EntryState → Type 0 = λ e. e.1.found.question ≡ e.0 in
    let rest = All-tail P x es all in
    elim (test x.0) as (λ b. All P (cond b es (x ∷ remove_entry test es))) [
      | true ↦ rest
      | false ↦ All-cons P x (remove_entry test es) (All-head P x es all) (keyed-removed test es rest)
    ]

pub IsTable-removed : (q : Question) (es new : Rows) → IsTable es → new ≡ remove_entry (eq-value.it q) es → IsDistinct eq-value.it (keys_of new) → IsTable new
IsTable-removed q es new table is distinct =
    record {
      keyed = subst (All (λ e. e.1.found.question ≡ e.0)) (sym is) (keyed-removed (eq-value.it q) es table.keyed);
      distinct = subst (λ same. IsDistinct same (keys_of new)) derived_eq distinct;
    }
