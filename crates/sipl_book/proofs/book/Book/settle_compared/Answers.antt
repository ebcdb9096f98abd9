use Rattle.std.proofs.Common.{◌≡◌, sym, ap, subst, ◌∙◌}
use Rattle.sipl_repair.specs.QueueState.{after_settle}
use Rattle.sipl_book.specs.Book.{BookState, IsConsistent}
use Rattle.sipl_book.specs.Cache.{CacheState}
use Rattle.sipl_book.specs.Honesty.{AreCurrent}
use Rattle.sipl_book.specs.Repairs.{after_failure}
use Rattle.sipl_book.specs.contracts.book.Book.{the_view}
use Rattle.sipl_book.proofs.Settling.{consistent-queued, consistent-settled}
use Rattle.sipl_book.proofs.book.Book.settle_compared.Goals as goal

pub invariant_of-self : goal.invariant_of-self
invariant_of-self c =
    let inside = c.self.inside in
    let old : BookState = the_view inside in
    subst (λ (k : CacheState). IsConsistent (record old { entries = k.entries; queue = k.queue; max_entries = k.max_entries })) (sym c.requeue.ensures)
    (consistent-queued old (after_failure inside.cache.entries inside.cache.queue c.args.lease) c.self.invariant)

pub invariant_of-self-2 : goal.invariant_of-self-2
invariant_of-self-2 c =
    let inside = c.self.inside in
    let old : BookState = the_view inside in
    let found = c.args.finding in
    let client : found.client ≡ inside.abilities = c.requires.client ∙ sym (ap (λ (b : BookState). b.client) c.self.view_is) in
    let now : AreCurrent inside.store found.items = subst (λ (b : BookState). AreCurrent b.store found.items) (sym c.self.view_is) (c.requires.current c.in_default.is) in
    subst (λ (k : CacheState). IsConsistent (record old { entries = k.entries; queue = k.queue; max_entries = k.max_entries })) (sym c.settle.ensures)
    (consistent-settled old found (after_settle inside.cache.queue c.args.lease) c.self.invariant c.requires.sound client now)
