use Rattle.std.proofs.Common.{◌≡◌, None, position, sym, ap, subst, ◌∙◌}
use Rattle.sipl_zonestore.specs.Store.{Store}
use Rattle.sipl_book.specs.Book.{BookState, IsConsistent}
use Rattle.sipl_book.specs.Cache.{CacheState}
use Rattle.sipl_book.specs.Calls.{compared, is_stale, looks_after}
use Rattle.sipl_book.specs.Honesty.{AreCurrent}
use Rattle.sipl_book.specs.Repairs.{queue_after_give_back}
use Rattle.sipl_book.specs.contracts.book.Book.{the_view}
use Rattle.sipl_book.proofs.Committing.{consistent_looked}
use Rattle.sipl_book.proofs.Settling.{consistent-queued}
use Rattle.sipl_book.proofs.Staleness.{current-fresh}
use Rattle.sipl_book.proofs.book.Book.settle_checked.Goals as goal

pub invariant_of-self : goal.invariant_of-self
invariant_of-self c =
    let inside = c.self.inside in
    let old : BookState = the_view inside in
    subst (λ (k : CacheState). IsConsistent (record old { entries = k.entries; queue = k.queue; max_entries = k.max_entries })) (sym c.give_back.ensures)
    (consistent-queued old (queue_after_give_back inside.cache.entries inside.cache.queue c.args.lease) c.self.invariant)

pub invariant_of-self-2 : goal.invariant_of-self-2
invariant_of-self-2 c =
    let old : BookState = the_view c.self.inside in
    subst (λ (store : Store). IsConsistent (record old { store = store })) (sym c.first_stale-changed.ensures.looks)
    (consistent_looked (looks_after (compared c.self.inside.store c.items.result.now) c.self.inside.store.looks) old c.self.invariant)

pub settle_compared-requires-clause-current : goal.settle_compared-requires-clause-current
settle_compared-requires-clause-current c = λ none.
    let store = c.self.inside.store in
    let found = c.args.finding in
    let fresh : position (is_stale store) found.items ≡ None =
    ap (position (is_stale store)) (sym (c.items.ensures.items ∙ c.evidence.ensures.evidence)) ∙ sym c.first_stale-changed.ensures.place ∙ none in
    let now = current-fresh store found.items fresh in
    subst (λ (s : Store). AreCurrent s found.items) (sym c.first_stale-changed.ensures.looks) (record { agrees = now.agrees; numbers = now.numbers })
