use Rattle.std.proofs.Common.{sym, ap, subst, ◌∙◌, arith}
use Rattle.sipl_repair.specs.QueueState.{QueueState}
use Rattle.sipl_book.specs.Cache.{CacheState, InOrder, IsCache}
use Rattle.sipl_book.specs.Repairs.{is_outdated}
use Rattle.sipl_book.proofs.Caches.{IsCache-give_back, IsCache-settle}
use Rattle.sipl_book.proofs.Leases.{leased-give_back, leased-settle, leased_count}
use Rattle.sipl_book.proofs.cache.Cache.give_back.Goals as goal

pub invariant_of-self : goal.invariant_of-self
invariant_of-self c =
    let es = c.self.inside.entries.entries in
    let order = subst (λ (cache : CacheState). InOrder cache.entries) (sym c.self.view_is) c.requires.order in
    let same = ap leased_count c.give_back.ensures in
    record {
      cache = subst (λ (q : QueueState). IsCache es q) (sym c.give_back.ensures) (IsCache-give_back es c.self.inside.queue order c.self.invariant.cache c.args.lease
          (ap (is_outdated es) (sym c.id.ensures) ∙ sym (c.is_outdated.ensures ∙ (λ i. is_outdated (c.entries.ensures i) c.id.result)) ∙ c.if-is_outdated.true));
      leases = omega (arith, same, leased-give_back c.self.inside.queue c.args.lease, c.self.invariant.leases);
      candidates = c.self.invariant.candidates;
      ids = c.self.invariant.ids;
    }

pub invariant_of-self-else-is_outdated : goal.invariant_of-self-else-is_outdated
invariant_of-self-else-is_outdated c =
    let es = c.self.inside.entries.entries in
    let order = subst (λ (cache : CacheState). InOrder cache.entries) (sym c.self.view_is) c.requires.order in
    let same = ap leased_count c.settle.ensures in
    record {
      cache = subst (λ (q : QueueState). IsCache es q) (sym c.settle.ensures)
          (IsCache-settle es c.self.inside.queue c.args.lease order c.self.invariant.cache
          (ap (is_outdated es) (sym c.id.ensures) ∙ sym (c.is_outdated.ensures ∙ (λ i. is_outdated (c.entries.ensures i) c.id.result)) ∙ c.if-is_outdated.false));
      leases = omega (arith, same, leased-settle c.self.inside.queue c.args.lease, c.self.invariant.leases);
      candidates = c.self.invariant.candidates;
      ids = c.self.invariant.ids;
    }
