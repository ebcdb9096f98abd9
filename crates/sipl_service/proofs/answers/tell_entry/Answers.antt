use Rattle.std.proofs.Common.{◌≡◌, true, sym, ◌∙◌}
use Rattle.sipl_plans.specs.Plan.{draw}
use Rattle.sipl_book.specs.Entries.{entry_of}
use Rattle.sipl_service.proofs.Entries.{entry-sound, entry-answer}
use Rattle.sipl_service.proofs.answers.tell_entry.Goals as goal

pub of-requires : goal.of-requires
of-requires c =
    record {
      sound = entry-sound c.args.book.now c.args.asked.value.question c.args.asked.value.abilities c.in-Some.entry.now c.entry.ensures.good
          ((λ i. entry_of c.args.book.now.entries (sym c.deref.ensures i).question) ∙ sym c.in-Some.ensures.entry)
          (c.in-Some.ensures.question ∙ (λ i. (c.deref.ensures i).question)) c.requires.client;
    }

pub returns-clause-answer : goal.returns-clause-answer
returns-clause-answer c =
    let e = c.in-Some.entry.now in
    let words = c.args.asked.value.draws in
    let current : e.is_current ≡ true = sym c.is_current.ensures ∙ c.if-is_current.true in
    c.in_ok-told.ensures.answer ∙ (λ i. draw e.found.layout (c.requires.holds i).holds words (sym c.requires.held i))
    ∙ entry-answer c.args.book.now c.args.asked.value.question words e c.entry.ensures.routes
    ((λ i. entry_of c.args.book.now.entries (sym c.deref.ensures i).question) ∙ sym c.in-Some.ensures.entry)
    (c.in-Some.ensures.question ∙ (λ i. (c.deref.ensures i).question)) current
