-- What a book's entry tells of its question.
use Rattle.std.proofs.Common.{◌≡◌, ℕ, true, List, Some, sym, ap, subst, ◌∙◌}
use Rattle.std.specs.List.{All}
use Rattle.sipl_records.specs.Sets.{set_of}
use Rattle.sipl_choice.specs.Abilities.{Client}
use Rattle.sipl_uri.specs.declared.question.Question.{Question}
use Rattle.sipl_plans.specs.Findings.{Found, IsSound}
use Rattle.sipl_plans.specs.Plan.{draw}
use Rattle.sipl_plans.specs.Route.{route}
use Rattle.sipl_plans.specs.declared.layout.Layout.{Layout}
use Rattle.sipl_book.specs.Book.{BookState, HasRoute, IsGoodEntry, answer_now}
use Rattle.sipl_book.specs.Entries.{EntryState, entry_of}
use Rattle.sipl_book.proofs.Public.{All-entry_of}

-- its evidence decides its route, for the book's client
pub entry-sound : (book : BookState) (question : Question) (client : Client) (entry : EntryState) → All (IsGoodEntry book) book.entries
    → entry_of book.entries question ≡ Some entry → entry.found.question ≡ question → book.client ≡ client
    → IsSound (record { question = question; client = client; layout = entry.found.layout; items = entry.found.items })
entry-sound book question client entry all found own same =
    let good = All-entry_of (IsGoodEntry book) question book.entries entry all found in
    let is : entry.found ≡ record { question = question; client = client; layout = entry.found.layout; items = entry.found.items } =
    λ i. record { question = own i; client = (good.client ∙ same) i; layout = entry.found.layout; items = entry.found.items } in
    subst (λ (f : Found). IsSound f) is good.sound

-- what the route of a current one draws is the answer
pub entry-answer : (book : BookState) (question : Question) (words : List ℕ) (entry : EntryState) → All (HasRoute book) book.entries
    → entry_of book.entries question ≡ Some entry → entry.found.question ≡ question → entry.is_current ≡ true
    → draw entry.found.layout book.board.holds words book.held ≡ answer_now book question words
entry-answer book question words entry all found own current =
    let routed = All-entry_of (HasRoute book) question book.entries entry all found current in
    let is : route (set_of book.store.zones.records) question book.client ≡ entry.found.layout =
    ap (λ (q : Question). route (set_of book.store.zones.records) q book.client) (sym own) ∙ routed in
    ap (λ (layout : Layout). draw layout book.board.holds words book.held) (sym is)
