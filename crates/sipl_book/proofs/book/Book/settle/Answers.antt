use Rattle.std.proofs.Common.{◌≡◌, None, position, sym, subst, ◌∙◌}
use Rattle.sipl_book.specs.Book.{BookState, IsConsistent}
use Rattle.sipl_book.specs.Cache.{CacheState}
use Rattle.sipl_book.specs.Calls.{is_renumbered}
use Rattle.sipl_book.specs.Repairs.{queue_after_give_back}
use Rattle.sipl_book.specs.contracts.book.Book.{the_view}
use Rattle.sipl_book.proofs.Settling.{consistent-queued}
use Rattle.sipl_book.proofs.Staleness.{current-numbered}
use Rattle.sipl_book.proofs.book.Book.settle.Goals as goal

pub invariant_of-self : goal.invariant_of-self
invariant_of-self c =
    let inside = c.self.inside in
    let old : BookState = the_view inside in
    subst (λ (k : CacheState). IsConsistent (record old { entries = k.entries; queue = k.queue; max_entries = k.max_entries })) (sym c.give_back.ensures)
    (consistent-queued old (queue_after_give_back inside.cache.entries inside.cache.queue c.args.lease) c.self.invariant)

pub settle_compared-requires-clause-current : goal.settle_compared-requires-clause-current
settle_compared-requires-clause-current c = λ none.
    let book = c.args.self.now in
    let found = c.args.finding in
    let inside = c.self.inside in
    let same : position (is_renumbered book.store) found.items ≡ None =
    (λ i. position (is_renumbered ((sym c.self.view_is i).store)) (sym (c.items.ensures.items ∙ c.evidence.ensures.evidence) i)) ∙ sym c.first_renumbered-changed.ensures ∙ none in
    current-numbered book.store found.items c.requires.honest same
