use Rattle.std.proofs.Common.{◌≡◌, true, false, ◌&&◌, eqb, List, length, Option, Some, None, refl, sym, ap, subst, ◌∙◌, arith, true≢false}
use Rattle.std.specs.Prelude.{vec_capacity}
use Rattle.std.proofs.Math.ListN.{length-map}
use Rattle.std.proofs.lemmas.Bool.{and_parts}
use Rattle.std.proofs.lemmas.Map.Views.{exact_unsigned_eq}
use Rattle.sipl_repair.specs.QueueState.{QueueState, is_leased, after_settle}
use Rattle.sipl_book.specs.Cache.{CacheState, InOrder, IsCache, IsIndexedCache}
use Rattle.sipl_book.specs.Entries.{EntryState, entry_of, renewed}
use Rattle.sipl_book.specs.Repairs.{is_leased_for}
use Rattle.sipl_book.proofs.Caches.{IsCache-settled}
use Rattle.sipl_book.proofs.Leases.{leased-settled, leased_count}
use Rattle.sipl_book.proofs.cache.Cache.settle.Goals as goal

-- the lease is one of those
own_leased : (o : Option EntryState) (q : QueueState) (id : _) → elim o [ Some e ↦ eqb e.id id && is_leased q id | None ↦ false ] ≡ true → is_leased q id ≡ true
own_leased (Some own) q id leased = (and_parts _ _ leased).1
own_leased None q id leased = absurd (true≢false (sym leased))

pub renew-requires-clause-order : goal.renew-requires-clause-order
renew-requires-clause-order c = subst (λ (cache : CacheState). InOrder cache.entries) (sym c.self.view_is) c.requires.order

pub renew-requires-clause-room : goal.renew-requires-clause-room
renew-requires-clause-room c =
    let q = c.self.inside.queue in
    let es = c.self.inside.entries.entries in
    let leased : is_leased_for es q c.args.lease c.args.finding.question ≡ true =
    ap (λ (cache : CacheState). is_leased_for cache.entries cache.queue c.args.lease c.args.finding.question) c.self.view_is ∙ c.requires.leased in
    let less = leased-settled q c.args.lease (own_leased (entry_of es c.args.finding.question) q c.args.lease leased) in
    omega (arith, less, c.requires.few, c.self.invariant.leases)

pub invariant_of-self : goal.invariant_of-self
invariant_of-self c =
    let es = c.self.inside.entries.entries in
    let q = c.self.inside.queue in
    let found = c.args.finding in
    let leased : is_leased_for es q c.args.lease found.question ≡ true =
    ap (λ (cache : CacheState). is_leased_for cache.entries cache.queue c.args.lease found.question) c.self.view_is ∙ c.requires.leased in
    by (entry_of es found.question) refl leased
  where
    by : (o : Option EntryState) → entry_of c.self.inside.entries.entries c.args.finding.question ≡ o
        → elim o [ Some e ↦ eqb e.id c.args.lease && is_leased c.self.inside.queue c.args.lease | None ↦ false ] ≡ true
        → IsIndexedCache c.renew.new.self.entries c.settle.new.self c.renew.new.self.room (vec_capacity c.self.inside.candidates) (vec_capacity c.self.inside.ids)
    by (Some own) is leased =
        let es = c.self.inside.entries.entries in
        let q = c.self.inside.queue in
        let found = c.args.finding in
        let order = subst (λ (cache : CacheState). InOrder cache.entries) (sym c.self.view_is) c.requires.order in
        let same : own.id ≡ c.args.lease = exact_unsigned_eq own.id c.args.lease (and_parts _ _ leased).0 in
        let is_one = (and_parts _ _ leased).1 in
        let few = leased-settled q c.args.lease is_one in
        let now = ap leased_count c.settle.ensures in
        let kept = ap (λ (xs : List EntryState). length xs) c.renew.ensures.after in
        record {
          cache = subst (λ (p : List EntryState × QueueState). IsCache p.0 p.1) (λ i. (sym c.renew.ensures.after i, sym (c.settle.ensures ∙ ap (after_settle q) (sym same)) i))
              (IsCache-settled found es q own order c.renew.ensures.questions c.self.invariant.cache (ap (is_leased q) same ∙ is_one) is);
          leases = omega (arith, few, now, c.renew.ensures.room, c.requires.few, c.self.invariant.leases);
          candidates = omega (arith, kept, length-map es (renewed found), c.self.invariant.candidates);
          ids = omega (arith, kept, length-map es (renewed found), c.self.invariant.ids);
        }
    by None is leased = absurd (true≢false (sym leased))
