use Rattle.std.proofs.Common.{[], ◌∷◌, ◌++◌, ap, ◌∙◌}
use Rattle.sipl_book.specs.declared.event.Event.TheVariants.{Release}
use Rattle.sipl_book.proofs.Moving.{consistent-moved}
use Rattle.sipl_book.proofs.book.Book.release.Goals as goal

pub invariant_of-self-2 : goal.invariant_of-self-2
invariant_of-self-2 c =
    consistent-moved _ _ c.release.new.self c.record_event.new.journal.items c.self.invariant c.in_ok-release.ensures.event
    c.in_default.ensures.few
    (c.record_event.ensures.items ∙ ap (λ events. events ++ Release c.args.endpoint.now ∷ []) c.reserve_event.ensures.items)
