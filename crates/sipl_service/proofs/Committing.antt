-- What is journalled where a finding is committed.
use Rattle.std.proofs.Common.{◌≡◌, ◌<◌, ℕ, Bool, true, false, List, [], ◌∷◌, ◌++◌, length, position, Option, None, Some, refl, sym, ap, subst, ◌∙◌}
use Rattle.std.specs.Prelude.{option_map}
use Rattle.std.proofs.lemmas.Bool.{cond-true, cond-false}
use Rattle.std.proofs.lemmas.List.Quantifiers.{position-Some}
use Rattle.sipl_records.specs.Sets.{set_of}
use Rattle.sipl_evidence.specs.Items.{Item}
use Rattle.sipl_plans.specs.Findings.{Found, IsSound}
use Rattle.sipl_plans.specs.Plan.{draw}
use Rattle.sipl_plans.specs.Route.{route}
use Rattle.sipl_plans.specs.declared.layout.Layout.{Layout}
use Rattle.sipl_plans.specs.declared.answer.Answer.{Answer as Targets}
use Rattle.sipl_choice.specs.Abilities.{Client}
use Rattle.sipl_book.specs.Book.{BookState, answer_now}
use Rattle.sipl_book.specs.Calls.{after_check, after_commit, after_comparison, commit_refusal, is_full, is_stale}
use Rattle.sipl_book.specs.declared.event.Event.TheVariants.{Answer}
use Rattle.sipl_book.specs.declared.fault.BookFault.TheVariants.{JournalFull, Stale}
use Rattle.sipl_book.proofs.Public.{current-fresh, no_place, space}

-- what a sound finding draws is the answer, where no set is stale
answer-fresh : (found : Found) (words : List ℕ) (book : BookState) → IsSound found → found.client ≡ book.client
    → position (is_stale book.store) found.items ≡ None → answer_now book found.question words ≡ draw found.layout book.board.holds words book.held
answer-fresh found words book sound client none =
    let look = set_of book.store.zones.records in
    let same : route look found.question book.client ≡ found.layout =
    ap (λ (c : Client). route look found.question c) (sym client) ∙ sound.route look (current-fresh book.store found.items none).agrees in
    ap (λ (layout : Layout). draw layout book.board.holds words book.held) same

-- what a committed finding draws is the event
pub journal-committed : (found : Found) (words : List ℕ) (old new : BookState) → IsSound found → found.client ≡ old.client
    → commit_refusal is_stale found old ≡ None → new ≡ after_commit found words (after_check found old)
    → new.journal ≡ old.journal ++ Answer found.question words (draw found.layout old.board.holds words old.held) ∷ []
journal-committed found words old new sound client none is =
    let has = space old (option_map Stale (position (is_stale old.store) found.items)) none in
    let checked : after_check found old ≡ after_comparison found old = cond-false (is_full old) old (after_comparison found old) has.0 in
    ap (λ (b : BookState). b.journal) (is ∙ ap (after_commit found words) checked)
    ∙ ap (λ (answer : Targets). old.journal ++ Answer found.question words answer ∷ []) (answer-fresh found words old sound client (no_place (position (is_stale old.store) found.items) has.1))

-- the place of the first that passes a test is one of the list
position-within : (p : Item → Bool) (items : List Item) (n : ℕ) → position p items ≡ Some n → n < length items
position-within p [] n some = let never : None ≡ Some n = some in cc
position-within p (item ∷ items) n some = (position-Some p (item ∷ items) n item some).0

-- the place of a stale set is one of the evidence
pub stale-within : (found : Found) (book : BookState) (place : ℕ) → commit_refusal is_stale found book ≡ Some (Stale place) → place < length found.items
stale-within found book place some = by (is_full book) refl
  where
    at : (found_at : Option ℕ) → position (is_stale book.store) found.items ≡ found_at → option_map Stale found_at ≡ Some (Stale place) → place < length found.items
    at None is mapped = let never : None ≡ Some (Stale place) = mapped in cc
    at (Some n) is mapped = let same : n ≡ place = cc in subst (λ m. m < length found.items) same (position-within (is_stale book.store) found.items n is)

    by : (b : Bool) → is_full book ≡ b → place < length found.items
    by true is = let never : Some JournalFull ≡ Some (Stale place) = sym (cond-true (is_full book) (Some JournalFull) (option_map Stale (position (is_stale book.store) found.items)) is) ∙ some in cc
    by false is = at (position (is_stale book.store) found.items) refl (sym (cond-false (is_full book) (Some JournalFull) (option_map Stale (position (is_stale book.store) found.items)) is) ∙ some)
