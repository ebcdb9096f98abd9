use Rattle.std.proofs.Common.{◌≡◌, List, length, Option, Some, None, option_map, refl, sym, ap, subst, ◌∙◌, arith}
use Rattle.std.proofs.lemmas.Option.{none-some, same_Some}
use Rattle.sipl_repair.specs.QueueState.{QueueState, after_forget}
use Rattle.sipl_book.specs.Cache.{CacheState, InOrder, IsCache}
use Rattle.sipl_book.specs.Entries.{EntryState, entry_of}
use Rattle.sipl_book.proofs.Caches.{IsCache-removed, IsCache-absent, length-without}
use Rattle.sipl_book.proofs.Leases.{leased-forget, leased_count}
use Rattle.sipl_book.proofs.cache.Cache.forget.Goals as goal

pub invariant_of-self : goal.invariant_of-self
invariant_of-self c =
    let es = c.self.inside.entries.entries in
    let few = length-without c.args.question.now es in
    let kept = ap (λ (xs : List EntryState). length xs) c.remove.ensures.after in
    let now = ap leased_count c.forget.ensures in
    record {
      cache = by (entry_of es c.args.question.now) refl;
      leases = omega (arith, now, leased-forget c.self.inside.queue c.in-Some.id, c.remove.ensures.room, c.self.invariant.leases);
      candidates = omega (arith, few, kept, c.self.invariant.candidates);
      ids = omega (arith, few, kept, c.self.invariant.ids);
    }
  where
    by : (o : Option EntryState) → entry_of c.self.inside.entries.entries c.args.question.now ≡ o → IsCache c.remove.new.self.entries c.forget.new.self
    by (Some own) is =
        let es = c.self.inside.entries.entries in
        let q = c.self.inside.queue in
        let order = subst (λ (cache : CacheState). InOrder cache.entries) (sym c.self.view_is) c.requires.order in
        let same : own.id ≡ c.in-Some.id = same_Some own.id c.in-Some.id (sym (sym c.in-Some.is ∙ c.remove.ensures.id ∙ ap (option_map (λ (e : EntryState). e.id)) is)) in
        subst (λ (p : List EntryState × QueueState). IsCache p.0 p.1) (λ i. (sym c.remove.ensures.after i, sym (c.forget.ensures ∙ ap (after_forget q) (sym same)) i))
        (IsCache-removed c.args.question.now es q own order c.remove.ensures.questions c.self.invariant.cache is)
    by None is = absurd (none-some c.in-Some.id (sym (sym c.in-Some.is ∙ c.remove.ensures.id ∙ ap (option_map (λ (e : EntryState). e.id)) is)))

pub invariant_of-self-in-None : goal.invariant_of-self-in-None
invariant_of-self-in-None c =
    let es = c.self.inside.entries.entries in
    let few = length-without c.args.question.now es in
    let kept = ap (λ (xs : List EntryState). length xs) c.remove.ensures.after in
    record {
      cache = by (entry_of es c.args.question.now) refl;
      leases = omega (arith, c.remove.ensures.room, c.self.invariant.leases);
      candidates = omega (arith, few, kept, c.self.invariant.candidates);
      ids = omega (arith, few, kept, c.self.invariant.ids);
    }
  where
    by : (o : Option EntryState) → entry_of c.self.inside.entries.entries c.args.question.now ≡ o → IsCache c.remove.new.self.entries c.self.inside.queue
    by (Some own) is = absurd (none-some own.id (sym c.in-None.is ∙ c.remove.ensures.id ∙ ap (option_map (λ (e : EntryState). e.id)) is))
    by None is =
        subst (λ (es : List EntryState). IsCache es c.self.inside.queue) (sym c.remove.ensures.after)
        (IsCache-absent c.args.question.now c.self.inside.entries.entries c.self.inside.queue c.self.invariant.cache is)
