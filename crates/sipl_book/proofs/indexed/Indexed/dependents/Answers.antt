use Rattle.std.proofs.Common.{◌≡◌, ℕ, false, inl, inr, sym, ap, subst, ◌∙◌, arith}
use Rattle.std.specs.List.{count_by}
use Rattle.std.proofs.lemmas.Bool.{cases_Bool}
use Rattle.sipl_book.specs.Cache.{InOrder}
use Rattle.sipl_book.specs.Indexed.{IndexedState, has, needs}
use Rattle.sipl_book.proofs.Becoming.{count-none}
use Rattle.sipl_book.proofs.Indexing.{no_candidate}
use Rattle.sipl_book.proofs.indexed.Indexed.dependents.Goals as goal

pub returns-then-count-eq0 : goal.returns-then-count-eq0
returns-then-count-eq0 c =
    let key = c.args.key.now in
    let order = subst (λ (i : IndexedState). InOrder i.entries) (sym c.self.view_is) c.requires.order in
    sym (count-none key c.self.inside.entries order none) ∙ ap (λ (i : IndexedState). count_by (needs key) i.entries) c.self.view_is
  where
    none : (k : ℕ) → has (needs c.args.key.now) c.self.inside.entries k ≡ false
    none k = elim (cases_Bool (has (needs c.args.key.now) c.self.inside.entries k)) [
      | inl need ↦ absurd (no_candidate c.args.key.now c.self.inside.entries c.self.inside.kept c.self.inside.dependents.pairs k c.self.invariant need (omega (arith, c.count.ensures.count, c.if-count-eq0.true)))
      | inr free ↦ free
    ]
