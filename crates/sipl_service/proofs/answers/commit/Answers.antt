use Rattle.std.proofs.Common.{◌≡◌, ◌≢◌, ℕ, ◌<◌, List, ◌∷◌, ◌++◌, [], length, Some, Ok, sym, ap, subst, ◌∙◌}
use Rattle.sipl_plans.specs.Findings.{Found}
use Rattle.sipl_plans.specs.Plan.{draw}
use Rattle.sipl_book.specs.Book.{BookState, next_event}
use Rattle.sipl_book.specs.Calls.{CommitsAnswer, commit_refusal, is_stale}
use Rattle.sipl_book.specs.declared.event.Event.TheVariants.{Answer}
use Rattle.sipl_book.specs.declared.fault.BookFault.{BookFault}
use Rattle.sipl_book.specs.declared.fault.BookFault.TheVariants.{Memory}
use Rattle.sipl_service.specs.Telling.{ToldState, event_of}
use Rattle.sipl_service.proofs.FirstFault.{commit_before, commit_refused}
use Rattle.sipl_service.proofs.Committing.{journal-committed, stale-within}
use Rattle.sipl_service.proofs.answers.commit.Goals as goal

pub returns-in-Ok-commit_answer-clause-journal : goal.returns-in-Ok-commit_answer-clause-journal
returns-in-Ok-commit_answer-clause-journal c =
    let found = c.args.finding in
    let old : BookState = c.args.book.now in
    let book : BookState = c.tell_finding.new.book in
    let same : book ≡ old = c.tell_finding.ensures.unchanged in
    let words = c.in-Ok-twice.copies.words in
    let asked : words ≡ c.args.asked.value.draws = c.in-Ok-twice.ensures.words ∙ ap (λ (t : ToldState). t.words) c.in-Ok.ensures.told in
    let client : found.client ≡ book.client =
    sym c.requires.drawn.client ∙ sym c.in-Ok.ensures.client ∙ sym (ap (λ (b : BookState). b.client) same) in
    let held : book.held ≡ c.args.asked.value.held = ap (λ (b : BookState). b.held) same ∙ c.in-Ok.ensures.held in
    let event : Answer found.question words (draw found.layout book.board.holds words book.held) ≡ event_of c.in-Ok.told =
    (λ i. Answer (sym c.requires.drawn.question i) (asked i) (draw found.layout (same i).board.holds (asked i) (held i))) ∙ ap event_of (sym c.in-Ok.ensures.told) in
    journal-committed found words book c.commit_answer.new.self c.requires.sound client c.in-Ok-commit_answer.ensures.accepted c.in-Ok-commit_answer.ensures.after
    ∙ (λ i. (same i).journal ++ event i ∷ [])

-- the book is as it was until the commit
pub returns-in-Ok-commit_answer-clause-committed : goal.returns-in-Ok-commit_answer-clause-committed
returns-in-Ok-commit_answer-clause-committed c =
    let same : c.tell_finding.new.book ≡ c.args.book.now = c.tell_finding.ensures.unchanged in
    let number : c.in-Ok.told.number ≡ next_event c.tell_finding.new.book =
    ap (λ (t : ToldState). t.number) c.in-Ok.ensures.told ∙ sym (ap next_event same) in
    subst (λ (b : BookState). CommitsAnswer c.args.finding c.args.asked.value.draws b c.commit_answer.new.self
    (Ok (record { number = c.in-Ok.told.number; released = c.in-Ok-commit_answer.committed.released }))) same
    (subst (λ (words : List ℕ). CommitsAnswer c.args.finding words c.tell_finding.new.book c.commit_answer.new.self
    (Ok (record { number = c.in-Ok.told.number; released = c.in-Ok-commit_answer.committed.released })))
    (c.in-Ok-twice.ensures.words ∙ ap (λ (t : ToldState). t.words) c.in-Ok.ensures.told)
    (record {
      accepted = c.in-Ok-commit_answer.ensures.accepted;
      number = number;
      after = c.in-Ok-commit_answer.ensures.after;
      refused = tt;
      memory = tt;
      finding = tt;
      unchanged = tt;
    }))

pub returns-in-Err-clause-refused : goal.returns-in-Err-clause-refused
returns-in-Err-clause-refused c = λ known.
    commit_before c.args.pass.now c.args.asked.value c.args.finding c.args.book.now c.in-Err.fault (c.in-Err.ensures.refused known)

pub fault_of-fault-requires : goal.fault_of-fault-requires
fault_of-fault-requires c = record {
  within = λ place is.
      let known : c.in-Err-commit_answer.uncommitted.fault ≢ Memory = λ e. cc in
      subst (λ (f : Found). place < length f.items) (sym c.in-Err-commit_answer.ensures.finding)
      (stale-within c.args.finding c.tell_finding.new.book place (c.in-Err-commit_answer.ensures.refused known ∙ ap (λ (f : BookFault). Some f) is));
}

pub returns-in-Err-commit_answer-clause-refused : goal.returns-in-Err-commit_answer-clause-refused
returns-in-Err-commit_answer-clause-refused c = λ known.
    let found = c.args.finding in
    let refusal = subst (λ (b : BookState). commit_refusal is_stale found b ≡ Some c.in-Err-commit_answer.uncommitted.fault)
    c.tell_finding.ensures.unchanged (c.in-Err-commit_answer.ensures.refused (c.fault_of-fault.ensures.known known)) in
    commit_refused c.args.pass.now c.args.asked.value found c.args.book.now c.in-Err-commit_answer.uncommitted c.fault_of-fault.result
    c.in-Ok.ensures.accepted refusal c.in-Err-commit_answer.ensures.finding (c.fault_of-fault.ensures.contended known)
