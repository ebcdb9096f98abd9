use Rattle.std.proofs.Common.{◌≡◌, ◌≢◌, List, length, map, Some, option_copied, sym, ap, subst, ◌∙◌, arith}
use Rattle.std.specs.List.{AllPairs}
use Rattle.std.proofs.Math.ListN.{length-map}
use Rattle.sipl_repair.specs.QueueState.{QueueState}
use Rattle.sipl_book.specs.Cache.{CacheState, InOrder, IsCache}
use Rattle.sipl_book.specs.Entries.{EntryState, entry_of, renewed}
use Rattle.sipl_book.proofs.Caches.{IsCache-renewed, unqueued}
use Rattle.sipl_book.proofs.Leases.{leased_count}
use Rattle.sipl_book.proofs.cache.Cache.commit.Goals as goal

pub renew-replaced-requires-clause-order : goal.renew-replaced-requires-clause-order
renew-replaced-requires-clause-order c =
    subst InOrder (sym c.reserve.ensures.entries) (subst (λ (cache : CacheState). InOrder cache.entries) (sym c.self.view_is) c.requires.order)

pub invariant_of-self-2 : goal.invariant_of-self-2
invariant_of-self-2 c =
    let es = c.self.inside.entries.entries in
    let q : QueueState = c.self.inside.queue in
    let found = c.args.finding in
    let own = c.in-Some.entry.now in
    let order = subst (λ (cache : CacheState). InOrder cache.entries) (sym c.self.view_is) c.requires.order in
    let is : entry_of es found.question ≡ Some own =
    (λ i. entry_of (sym c.entries.ensures i) (sym c.question.ensures i)) ∙ sym c.get.ensures.entry ∙ ap option_copied c.in-Some.is in
    let queue : c.unqueue.new.queue ≡ unqueued q own.id = c.unqueue.ensures ∙ ap (unqueued q) c.id-id.ensures in
    let after : c.renew-replaced.new.self.entries ≡ map (renewed found) es = c.renew-replaced.ensures.after ∙ ap (map (renewed found)) c.reserve.ensures.entries in
    let questions = subst (λ (xs : List EntryState). AllPairs (λ a b. a.found.question ≢ b.found.question) xs) c.reserve.ensures.entries c.renew-replaced.ensures.questions in
    let kept = ap (λ (xs : List EntryState). length xs) after in
    let leased = ap leased_count queue in
    let pairs = ap (λ xs. length xs) c.evidence.ensures.evidence in
    record {
      cache = subst (λ (p : List EntryState × QueueState). IsCache p.0 p.1) (λ i. (sym after i, sym queue i)) (IsCache-renewed found es q own order questions c.self.invariant.cache is);
      leases = omega (arith, leased, pairs, c.len-pairs.ensures.len, c.leased_len.ensures.len, c.in-Ok.ensures.ok, c.renew-replaced.ensures.room);
      candidates = omega (arith, kept, length-map es (renewed found), c.self.invariant.candidates);
      ids = omega (arith, kept, length-map es (renewed found), c.self.invariant.ids);
    }
