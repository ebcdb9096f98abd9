use Rattle.std.proofs.Common.{◌≡◌, ℕ, not, ◌&&◌, cond, eqb, List, Option, Some, None, option_map, refl, sym, ap, subst, ◌∙◌}
use Rattle.std.proofs.lemmas.Option.{none-some, same_Some}
use Rattle.sipl_evidence.specs.Dependents.{depends}
use Rattle.sipl_book.specs.Cache.{InOrder}
use Rattle.sipl_book.specs.Entries.{EntryState, entry_of}
use Rattle.sipl_book.specs.Indexed.{IndexedState, IsIndexOf, is_kept}
use Rattle.sipl_book.proofs.Committed.{absent_from_entry_of}
use Rattle.sipl_book.proofs.Indexing.{IsIndexOf-cleared, IsIndexOf-removed, not_kept}
use Rattle.sipl_book.proofs.Removing.{without-absent}
use Rattle.sipl_book.proofs.indexed.Indexed.remove.Goals as goal

pub invariant_of-self : goal.invariant_of-self
invariant_of-self c =
    by (entry_of c.self.inside.entries c.args.question.now) refl
  where
    by : (o : Option EntryState) → entry_of c.self.inside.entries c.args.question.now ≡ o → IsIndexOf c.remove.new.self c.self.inside.kept c.self.inside.dependents.pairs
    by (Some own) is = absurd (none-some own.id (sym c.in_err-id.was ∙ c.remove.ensures.id ∙ ap (option_map (λ (e : EntryState). e.id)) is))
    by None is =
        subst (λ (es : List EntryState). IsIndexOf es c.self.inside.kept c.self.inside.dependents.pairs)
        (sym (c.remove.ensures.after ∙ without-absent c.args.question.now c.self.inside.entries (absent_from_entry_of c.args.question.now c.self.inside.entries is)))
        c.self.invariant

pub invariant_of-self-2 : goal.invariant_of-self-2
invariant_of-self-2 c =
    by (entry_of c.self.inside.entries c.args.question.now) refl
  where
    by : (o : Option EntryState) → entry_of c.self.inside.entries c.args.question.now ≡ o → IsIndexOf c.remove.new.self c.without_id-self-inside.result c.remove-2.new.self.pairs
    by (Some own) is =
        let es = c.self.inside.entries in
        let order = subst (λ (i : IndexedState). InOrder i.entries) (sym c.self.view_is) c.requires.order in
        let same : own.id ≡ c.in_ok-id.id = same_Some own.id c.in_ok-id.id (sym (sym c.in_ok-id.was ∙ c.remove.ensures.id ∙ ap (option_map (λ (e : EntryState). e.id)) is)) in
        let kept = c.self.inside.kept in
        let without = c.without_id-self-inside.ensures ∙ ap (λ n. cond (is_kept kept n) None kept) (sym same) in
        subst (λ (p : List EntryState × Option ℕ). IsIndexOf p.0 p.1 c.remove-2.new.self.pairs) (λ i. (sym c.remove.ensures.after i, sym without i))
        (IsIndexOf-removed c.args.question.now es own (cond (is_kept kept own.id) None kept) c.self.inside.dependents.pairs c.remove-2.new.self.pairs order c.remove.ensures.questions is
        (IsIndexOf-cleared es kept c.self.inside.dependents.pairs own.id c.self.invariant) (not_kept kept own.id)
        (λ code other. c.remove-2.ensures.pairs code other ∙ ap (λ n. not (eqb n other) && depends c.self.inside.dependents.pairs code other) (sym same)))
    by None is = absurd (none-some c.in_ok-id.id (sym (sym c.in_ok-id.was ∙ c.remove.ensures.id ∙ ap (option_map (λ (e : EntryState). e.id)) is)))
