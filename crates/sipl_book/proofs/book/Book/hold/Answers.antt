use Rattle.std.proofs.Common.{[], ◌∷◌, ◌++◌, ap, ◌∙◌}
use Rattle.sipl_book.specs.declared.event.Event.TheVariants.{Hold}
use Rattle.sipl_book.proofs.Moving.{consistent-moved}
use Rattle.sipl_book.proofs.book.Book.hold.Goals as goal

pub invariant_of-self-2 : goal.invariant_of-self-2
invariant_of-self-2 c =
    consistent-moved _ _ c.hold.new.self c.record_event.new.journal.items c.self.invariant c.in_ok-hold.ensures.event
    c.in_default.ensures.few
    (c.record_event.ensures.items ∙ ap (λ events. events ++ Hold c.args.endpoint.now c.args.ms ∷ []) c.reserve_event.ensures.items)
