-- What the commit of a finding leaves of the entries.
use Rattle.std.proofs.Common.{◌≡◌, ◌≢◌, ℕ, ◌<◌, ◌≤◌, true, false, cond, ltb, List, [], ◌∷◌, ◌++◌, map, length, Option, None, Some, is_some, refl, sym, subst, ◌∙◌, arith, length-append}
use Rattle.std.specs.Bool.{Decides}
use Rattle.std.specs.List.{All, AllPairs}
use Rattle.std.proofs.Math.ListN.{length-map}
use Rattle.std.proofs.lemmas.Bool.{cond_both, ltb-true, ltb-false}
use Rattle.std.proofs.lemmas.Bool.Decides.{not_from_Decides}
use Rattle.std.proofs.lemmas.List.{get_or-map}
use Rattle.std.proofs.lemmas.List.Elements.{All-nil, All-cons, All-head, All-tail, All-map, All-push, All-weaker}
use Rattle.std.proofs.lemmas.List.Quantifiers.{all_pairs_push}
use Rattle.std.proofs.lemmas.Option.{none-some, same_Some}
use Rattle.sipl_uri.specs.declared.question.Question.{Question}
use Rattle.sipl_plans.specs.Findings.{Found}
use Rattle.sipl_book.specs.Entries.{EntryState, is_of, entry_of, renewed, committed}
use Rattle.sipl_book.proofs.Questions.{same_question_decides}

-- the current entry of a finding
abbrev pub current : ℕ → Found → EntryState
current id found = record { id = id; is_current = true; found = found }

-- ---- one entry

pub is_of_decides : (q : Question) (e : EntryState) → Decides (is_of q e) (e.found.question ≡ q)
is_of_decides q e = same_question_decides e.found.question q

-- an entry of the finding's question is renewed, and each other one stays
pub renewed_cases : (found : Found) (e : EntryState) (P : EntryState → Type 0)
    → (e.found.question ≡ found.question → P (current e.id found)) → (e.found.question ≢ found.question → P e) → P (renewed found e)
renewed_cases found e P own other =
    let is = is_of_decides found.question e in
    cond_both (is_of found.question e) (current e.id found) e P (λ h. own (is.0 h)) (λ h. other (not_from_Decides (is_of found.question e) is h))

pub id-renewed : (found : Found) (e : EntryState) → (renewed found e).id ≡ e.id
id-renewed found e = renewed_cases found e (λ x. x.id ≡ e.id) (λ _. refl) (λ _. refl)

pub question-renewed : (found : Found) (e : EntryState) → (renewed found e).found.question ≡ e.found.question
question-renewed found e =
    renewed_cases found e (λ x. x.found.question ≡ e.found.question) (λ own. sym own) (λ _. refl)

-- ---- the entry of a question

-- where a question has no entry, no entry is of it
pub absent_from_entry_of : (q : Question) (es : List EntryState) → entry_of es q ≡ None → All (λ e. e.found.question ≢ q) es
absent_from_entry_of q [] none = All-nil (λ e. e.found.question ≢ q)
absent_from_entry_of q (x ∷ es) none =
    elim (is_of q x) as (λ b. is_of q x ≡ b → cond b (Some x) (entry_of es q) ≡ None → All (λ e. e.found.question ≢ q) (x ∷ es)) [
      | true ↦ λ own some. absurd (none-some x (sym some))
      | false ↦ λ other rest. All-cons (λ e. e.found.question ≢ q) x es (not_from_Decides (is_of q x) (is_of_decides q x) other) (absent_from_entry_of q es rest)
    ] refl none

-- the entry of a question is of it
pub question-entry_of : (q : Question) (es : List EntryState) (e : EntryState) → entry_of es q ≡ Some e → e.found.question ≡ q
question-entry_of q [] e found = absurd (none-some e found)
question-entry_of q (x ∷ es) e found =
    elim (is_of q x) as (λ b. is_of q x ≡ b → cond b (Some x) (entry_of es q) ≡ Some e → e.found.question ≡ q) [
      | true ↦ λ own first. subst (λ (y : EntryState). y.found.question ≡ q) (same_Some x e first) ((is_of_decides q x).0 own)
      | false ↦ λ other later. question-entry_of q es e later
    ] refl found

-- what holds of each entry holds of that of a question
pub All-entry_of : (P : EntryState → Type 0) (q : Question) (es : List EntryState) (e : EntryState) → All P es → entry_of es q ≡ Some e → P e
All-entry_of P q [] e all found = absurd (none-some e found)
All-entry_of P q (x ∷ es) e all found =
    elim (is_of q x) as (λ b. cond b (Some x) (entry_of es q) ≡ Some e → P e) [
      | true ↦ λ first. subst P (same_Some x e first) (All-head P x es all)
      | false ↦ λ later. All-entry_of P q es e (All-tail P x es all) later
    ] found

-- ---- a commit

-- the question's entry is renewed, or a new one is last, or all places are taken
pub committed_cases : (found : Found) (number max : ℕ) (es : List EntryState) (P : List EntryState → Type 0)
    → ((e : EntryState) → entry_of es found.question ≡ Some e → P (map (renewed found) es))
    → (entry_of es found.question ≡ None → length es < max → P (es ++ current number found ∷ []))
    → (entry_of es found.question ≡ None → max ≤ length es → P es)
    → P (committed found number max es)
committed_cases found number max es P held free full = by (entry_of es found.question) refl
  where
    new : List EntryState
    new = es ++ current number found ∷ []

    by : (o : Option EntryState) → entry_of es found.question ≡ o
        → P (cond (is_some o) (map (renewed found) es) (cond (ltb (length es) max) new es))
    by (Some e) is = held e is
    by None is =
        cond_both (ltb (length es) max) new es P (λ below. free is (ltb-true (length es) max below)) (λ above. full is (ltb-false (length es) max above))

-- ---- what lasts

-- what holds of each entry then holds of each now, where it holds of the finding's by either number
pub All-committed : (Good Kept : EntryState → Type 0) (found : Found) (number max : ℕ) (es : List EntryState)
    → ((e : EntryState) → Good e → Kept e) → ((e : EntryState) → Good e → Kept (current e.id found)) → Kept (current number found)
    → All Good es → All Kept (committed found number max es)
All-committed Good Kept found number max es kept renews adds all =
    committed_cases found number max es (All Kept)
    (λ _ _. All-map Kept (renewed found) es
    (All-weaker Good (λ e. Kept (renewed found e)) (λ e good. renewed_cases found e Kept (λ _. renews e good) (λ _. kept e good)) es all))
    (λ _ _. All-push Kept es (current number found) (All-weaker Good Kept kept es all) adds)
    (λ _ _. All-weaker Good Kept kept es all)

-- pairs of the images
pub AllPairs-map : {X Y : Type 0} (f : X → Y) (R : X → X → Type 0) (S : Y → Y → Type 0) → ((a b : X) → R a b → S (f a) (f b))
    → (xs : List X) → AllPairs R xs → AllPairs S (map f xs)
AllPairs-map f R S each [] all = λ i j d below within. absurd (omega arith)
AllPairs-map {X} {Y} f R S each (x ∷ xs) all =
    λ i j d below within.
    let here : j < length (x ∷ xs) = omega (arith, length-map (x ∷ xs) f) in
    let first = get_or-map f (x ∷ xs) i x d (omega arith) in
    let second = get_or-map f (x ∷ xs) j x d here in
    subst (λ (p : Y × Y). S p.0 p.1) (λ k. (sym first k, sym second k)) (each _ _ (all i j x below here))

-- the questions of the entries are distinct
pub questions-committed : (found : Found) (number max : ℕ) (es : List EntryState)
    → AllPairs (λ a b. a.found.question ≢ b.found.question) es → AllPairs (λ a b. a.found.question ≢ b.found.question) (committed found number max es)
questions-committed found number max es all =
    let Apart : EntryState → EntryState → Type 0 = λ a b. a.found.question ≢ b.found.question in
    committed_cases found number max es (AllPairs Apart)
    (λ _ _. AllPairs-map (renewed found) Apart Apart
    (λ a b apart same. apart (sym (question-renewed found a) ∙ same ∙ question-renewed found b)) es all)
    (λ none _. all_pairs_push Apart es (current number found) all (absent_from_entry_of found.question es none))
    (λ _ _. all)

-- the entries are in the order of their numbers
pub ids-committed : (found : Found) (number max : ℕ) (es : List EntryState)
    → All (λ e. e.id < number) es → AllPairs (λ a b. a.id < b.id) es → AllPairs (λ a b. a.id < b.id) (committed found number max es)
ids-committed found number max es below all =
    let Before : EntryState → EntryState → Type 0 = λ a b. a.id < b.id in
    committed_cases found number max es (AllPairs Before)
    (λ _ _. AllPairs-map (renewed found) Before Before
    (λ a b before. omega (arith, id-renewed found a, id-renewed found b)) es all)
    (λ _ _. all_pairs_push Before es (current number found) all below)
    (λ _ _. all)

-- there are no more than the maximum
pub length-committed : (found : Found) (number max : ℕ) (es : List EntryState) → length es ≤ max → length (committed found number max es) ≤ max
length-committed found number max es few =
    committed_cases found number max es (λ new. length new ≤ max)
    (λ _ _. omega (arith, length-map es (renewed found)))
    (λ _ below. omega (arith, length-append es (current number found ∷ [])))
    (λ _ _. few)
