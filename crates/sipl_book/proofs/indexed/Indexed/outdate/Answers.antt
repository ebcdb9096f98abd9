use Rattle.std.proofs.Common.{List, Some, sym, subst, ◌∙◌}
use Rattle.sipl_book.specs.Cache.{InOrder}
use Rattle.sipl_book.specs.Entries.{EntryState}
use Rattle.sipl_book.specs.Indexed.{IndexedState, IsIndexOf}
use Rattle.sipl_book.proofs.Indexing.{IsIndexOf-released, IsIndexOf-touched, touched-same}
use Rattle.sipl_book.proofs.indexed.Indexed.outdate.Goals as goal

pub invariant_of-self : goal.invariant_of-self
invariant_of-self c =
    let id = c.args.id in
    let key = c.args.key.now in
    let es = c.self.inside.entries in
    let order = subst (λ (i : IndexedState). InOrder i.entries) (sym c.self.view_is) c.requires.order in
    subst (λ (xs : List EntryState). IsIndexOf xs c.self.inside.kept c.self.inside.dependents.pairs) (sym (c.outdate.ensures.after ∙ touched-same id key es order (sym c.outdate.ensures.needs ∙ c.if-not-outdate.true))) c.self.invariant

pub invariant_of-self-2 : goal.invariant_of-self-2
invariant_of-self-2 c =
    let id = c.args.id in
    let key = c.args.key.now in
    let es = c.self.inside.entries in
    let kept = c.self.inside.kept in
    let pairs = c.self.inside.dependents.pairs in
    subst (λ (xs : List EntryState). IsIndexOf xs (Some id) c.release.new.dependents.pairs) (sym c.outdate.ensures.after)
    (IsIndexOf-touched id key es c.release.new.dependents.pairs (IsIndexOf-released es kept pairs c.release.new.dependents.pairs c.self.invariant c.release.ensures.pairs)
    (sym c.outdate.ensures.needs ∙ c.if-not-outdate.false))
