use Rattle.std.proofs.Common.{◌≡◌, ℕ, true, true≢false, ◌&&◌, ◌||◌, not, cond, eqb, List, Option, Some, None, option_map, refl, sym, ap, subst, ◌∙◌}
use Rattle.std.specs.Option.{option_eq}
use Rattle.std.proofs.lemmas.Map.Views.{exact_unsigned_eq}
use Rattle.std.proofs.lemmas.Option.{none-some, same_Some}
use Rattle.sipl_evidence.specs.Dependents.{depends, has_code}
use Rattle.sipl_book.specs.Cache.{InOrder}
use Rattle.sipl_book.specs.Entries.{EntryState, entry_of}
use Rattle.sipl_book.specs.Indexed.{IndexedState, IsIndexOf, is_kept}
use Rattle.sipl_book.proofs.Indexing.{IsIndexOf-cleared, IsIndexOf-renewed, kept_pairs, no_one_kept, not_kept}
use Rattle.sipl_book.proofs.indexed.Indexed.renew.Goals as goal

same_kept : (kept : Option ℕ) (id : ℕ) → option_eq eqb kept (Some id) ≡ true → kept ≡ Some id
same_kept None id none = absurd (true≢false (sym none))
same_kept (Some own) id same = ap Some (exact_unsigned_eq own id same)

pub invariant_of-self : goal.invariant_of-self
invariant_of-self c =
    by (entry_of c.self.inside.entries c.args.finding.question) refl
  where
    own_id : option_map (λ e. e.id) (entry_of c.self.inside.entries c.args.finding.question) ≡ Some c.args.own_id
    own_id = ap (λ (i : IndexedState). option_map (λ e. e.id) (entry_of i.entries c.args.finding.question)) c.self.view_is ∙ c.requires.own

    by : (o : Option EntryState) → entry_of c.self.inside.entries c.args.finding.question ≡ o → IsIndexOf c.renew.new.self None c.self.inside.dependents.pairs
    by (Some own) is =
        let found = c.args.finding in
        let es = c.self.inside.entries in
        let pairs = c.self.inside.dependents.pairs in
        let order = subst (λ (i : IndexedState). InOrder i.entries) (sym c.self.view_is) c.requires.order in
        let same : own.id ≡ c.args.own_id = same_Some own.id c.args.own_id (sym (ap (option_map (λ (e : EntryState). e.id)) is) ∙ own_id) in
        let kept : c.self.inside.kept ≡ Some own.id = same_kept c.self.inside.kept c.args.own_id (sym c.eq.ensures ∙ c.if-eq.true) ∙ ap Some (sym same) in
        let so = subst (λ (k : Option ℕ). IsIndexOf es k pairs) kept c.self.invariant in
        subst (λ (xs : List EntryState). IsIndexOf xs None pairs) (sym c.renew.ensures.after)
        (IsIndexOf-renewed found es own None pairs pairs order c.renew.ensures.questions is (no_one_kept es (Some own.id) pairs so) (λ none. none-some own.id none)
        (kept_pairs found es own pairs order is so (c.has_keys_of.ensures c.if-has_keys_of.true own is)))
    by None is = absurd (none-some c.args.own_id (sym (ap (option_map (λ (e : EntryState). e.id)) is) ∙ own_id))

pub invariant_of-self-2 : goal.invariant_of-self-2
invariant_of-self-2 c =
    by (entry_of c.self.inside.entries c.args.finding.question) refl
  where
    own_id : option_map (λ e. e.id) (entry_of c.self.inside.entries c.args.finding.question) ≡ Some c.args.own_id
    own_id = ap (λ (i : IndexedState). option_map (λ e. e.id) (entry_of i.entries c.args.finding.question)) c.self.view_is ∙ c.requires.own

    by : (o : Option EntryState) → entry_of c.self.inside.entries c.args.finding.question ≡ o → IsIndexOf c.renew-2.new.self c.without_id-self-inside.result c.add.new.self.pairs
    by (Some own) is =
        let found = c.args.finding in
        let es = c.self.inside.entries in
        let kept = c.self.inside.kept in
        let pairs = c.self.inside.dependents.pairs in
        let order = subst (λ (i : IndexedState). InOrder i.entries) (sym c.self.view_is) c.requires.order in
        let same : own.id ≡ c.args.own_id = same_Some own.id c.args.own_id (sym (ap (option_map (λ (e : EntryState). e.id)) is) ∙ own_id) in
        let without = c.without_id-self-inside.ensures ∙ ap (λ n. cond (is_kept kept n) None kept) (sym same) in
        subst (λ (p : List EntryState × Option ℕ). IsIndexOf p.0 p.1 c.add.new.self.pairs) (λ i. (sym c.renew-2.ensures.after i, sym without i))
        (IsIndexOf-renewed found es own (cond (is_kept kept own.id) None kept) pairs c.add.new.self.pairs order c.renew-2.ensures.questions is
        (IsIndexOf-cleared es kept pairs own.id c.self.invariant) (not_kept kept own.id)
        (λ code other. c.add.ensures.pairs code other
        ∙ (λ i. (eqb c.args.own_id other && has_code (c.evidence.ensures.evidence i) code) || c.remove.ensures.pairs code other i)
        ∙ ap (λ n. (eqb n other && has_code found.items code) || (not (eqb n other) && depends pairs code other)) (sym same)))
    by None is = absurd (none-some c.args.own_id (sym (ap (option_map (λ (e : EntryState). e.id)) is) ∙ own_id))
