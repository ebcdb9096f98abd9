use Rattle.std.proofs.Common.{[], ◌∷◌, ◌++◌, sym, ap, ◌∙◌}
use Rattle.sipl_book.specs.Book.{answer_now}
use Rattle.sipl_book.specs.declared.event.Event.TheVariants.{Answer}
use Rattle.sipl_book.proofs.Answering.{consistent-answered}
use Rattle.sipl_book.proofs.book.Book.record_answer.Goals as goal

pub invariant_of-self : goal.invariant_of-self
invariant_of-self c =
    let now = c.requires ∙ ap (λ book. answer_now book c.args.question c.args.draws) (sym c.self.view_is) in
    consistent-answered _ c.args.question c.args.draws c.record_event.new.journal.items c.self.invariant c.in-Ok.ensures.few
    (c.record_event.ensures.items
    ∙ (λ i. c.reserve_event.ensures.items i ++ Answer c.args.question c.args.draws (now i) ∷ []))
