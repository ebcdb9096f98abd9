use Rattle.std.proofs.Common.{◌≡◌, ◌<◌, ◌&&◌, ◌||◌, ◌++◌, ◌∷◌, [], true, false, eqb, List, Result, Ok, Err, OnOk, OnErr, is_err, sym, subst, ◌∙◌, true≢false}
use Rattle.std.specs.List.{All}
use Rattle.sipl_evidence.specs.Dependents.{depends, has_code}
use Rattle.sipl_book.specs.Entries.{EntryState}
use Rattle.sipl_book.specs.Indexed.{IndexedState, IsIndexOf, linked_code}
use Rattle.sipl_book.proofs.Committed.{current}
use Rattle.sipl_book.proofs.Indexing.{IsIndexOf-added, IsIndexOf-unchanged, has-later}
use Rattle.sipl_book.proofs.indexed.Indexed.add.Goals as goal

pub add-requires-clause-new : goal.add-requires-clause-new
add-requires-clause-new c =
    let below = subst (λ (i : IndexedState). All (λ e. e.id < c.args.id) i.entries) (sym c.self.view_is) c.requires.last in
    λ code. c.self.invariant.same code c.args.id ∙ has-later (linked_code c.self.invariant.linked code) c.self.inside.entries c.args.id below

pub invariant_of-self : goal.invariant_of-self
invariant_of-self c =
    by c.add-added.result (sym c.is_err.ensures.value ∙ c.if-is_err.true) c.add-added.ensures.err
  where
    by : {E : Type 0} (r : Result (Unit {0}) E) → is_err r ≡ true → OnErr r (c.add-added.new.self ≡ c.self.inside.entries)
        → IsIndexOf c.add-added.new.self c.self.inside.kept c.remove.new.self.pairs
    by (Ok u) is _ = absurd (true≢false (sym is))
    by (Err e) _ same =
        let below = subst (λ (i : IndexedState). All (λ e. e.id < c.args.id) i.entries) (sym c.self.view_is) c.requires.last in
        subst (λ (es : List EntryState). IsIndexOf es c.self.inside.kept c.remove.new.self.pairs) (sym same)
        (IsIndexOf-unchanged c.args.finding c.args.id c.self.inside.entries c.self.inside.kept c.self.inside.dependents.pairs c.add.new.self.pairs c.remove.new.self.pairs below c.self.invariant
        (λ code other. c.add.ensures.pairs code other ∙ (λ i. (eqb c.args.id other && has_code (c.evidence.ensures.evidence i) code) || depends c.self.inside.dependents.pairs code other))
        c.remove.ensures.pairs)

pub invariant_of-self-else-is_err : goal.invariant_of-self-else-is_err
invariant_of-self-else-is_err c =
    by c.add-added.result (sym c.is_err.ensures.value ∙ c.if-is_err.false) c.add-added.ensures.ok
  where
    by : {E : Type 0} (r : Result (Unit {0}) E) → is_err r ≡ false → OnOk r (c.add-added.new.self ≡ c.self.inside.entries ++ current c.args.id c.args.finding ∷ [])
        → IsIndexOf c.add-added.new.self c.self.inside.kept c.add.new.self.pairs
    by (Err e) is _ = absurd (true≢false is)
    by (Ok u) _ same =
        let below = subst (λ (i : IndexedState). All (λ e. e.id < c.args.id) i.entries) (sym c.self.view_is) c.requires.last in
        subst (λ (es : List EntryState). IsIndexOf es c.self.inside.kept c.add.new.self.pairs) (sym same)
        (IsIndexOf-added c.args.finding c.args.id c.self.inside.entries c.self.inside.kept c.self.inside.dependents.pairs c.add.new.self.pairs below c.self.invariant
        (λ code other. c.add.ensures.pairs code other ∙ (λ i. (eqb c.args.id other && has_code (c.evidence.ensures.evidence i) code) || depends c.self.inside.dependents.pairs code other)))
