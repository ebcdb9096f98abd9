use Rattle.std.proofs.Common.{◌≡◌, ℕ, true, false, not, eqb, filter, inl, inr, sym, ◌∙◌, true≢false}
use Rattle.std.proofs.lemmas.Bool.{cases_Bool}
use Rattle.sipl_repair.specs.QueueState.{QueueState, IsConsistent, is_queued, is_leased}
use Rattle.sipl_repair.proofs.Public.{filter-absent, remove_absent}
use Rattle.sipl_book.proofs.cache.unqueue.Goals as goal

-- a queued id is not leased
not_leased : (q : QueueState) (id : ℕ) → IsConsistent q → is_queued q id ≡ true → is_leased q id ≡ false
not_leased q id so queued = elim (cases_Bool (is_leased q id)) [
  | inl leased ↦ absurd (true≢false (sym queued ∙ so.apart id leased))
  | inr other ↦ other
]

pub returns-then-is_queued : goal.returns-then-is_queued
returns-then-is_queued c =
    let q : QueueState = c.args.queue.now in
    let id = c.args.id in
    let apart = not_leased q id c.if-is_queued.ensures.consistent (sym c.if-is_queued.ensures.queued) in
    c.forget.ensures ∙ (λ i. record q { queued = filter (λ k. not (eqb k id)) q.queued; leased = remove_absent q.leased id apart i })

pub returns-else-is_queued : goal.returns-else-is_queued
returns-else-is_queued c =
    let q : QueueState = c.args.queue.now in
    let id = c.args.id in
    let same = sym (filter-absent q.queued id (sym c.if-is_queued.ensures.queued)) in
    λ i. record q { queued = same i }
