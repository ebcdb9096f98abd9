use Rattle.std.proofs.Common.{sym, subst, ◌∙◌}
use Rattle.sipl_plans.specs.Runs.{IsSet}
use Rattle.sipl_zonestore.specs.Store.{number_in}
use Rattle.sipl_book.proofs.Honest.{given-now}
use Rattle.sipl_book.proofs.StoreSets.{set_is_set}
use Rattle.sipl_book.proofs.book.Book.read.Goals as goal

pub returns-clause-set : goal.returns-clause-set
returns-clause-set c =
    let store = c.self.inside.store in
    let k = c.args.key.now in
    subst (λ number. IsSet k number c.from_vec.result) (sym c.set.ensures.number)
    (subst (λ content. IsSet k (number_in store k) content) (sym (c.from_vec.ensures ∙ c.in_ok-copy.ensures ∙ c.set.ensures.value))
    (set_is_set store k c.self.invariant.store))

pub returns-clause-given : goal.returns-clause-given
returns-clause-given c =
    rw (← c.self.view_is) (given-now c.self.inside.store (record { key = c.args.key.now; number = c.set.result.0; content = c.from_vec.result }) c.self.invariant.store
    (sym c.set.ensures.number) (sym (c.from_vec.ensures ∙ c.in_ok-copy.ensures ∙ c.set.ensures.value)))
