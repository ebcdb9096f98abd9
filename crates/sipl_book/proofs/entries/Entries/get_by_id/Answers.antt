use Rattle.std.proofs.Common.{◌≡◌, List, Some, sym, ap, subst, ◌∙◌, rules}
use Rattle.std.specs.List.Sorted.{IsBinarySearchResult}
use Rattle.std.specs.Ordering.{nat_cmp}
use Rattle.std.proofs.lemmas.List.Sorted.{answers_always}
use Rattle.sipl_book.specs.Cache.{InOrder}
use Rattle.sipl_book.specs.Entries.{EntryState}
use Rattle.sipl_book.specs.Repairs.{entry_with}
use Rattle.sipl_book.proofs.Ids.{searched_at, searched_none}
use Rattle.sipl_book.proofs.entries.Entries.get_by_id.Goals as goal

pub returns-in-Ok : goal.returns-in-Ok
returns-in-Ok c =
    let es = c.as_slice-entries.result.now in
    let items : c.args.self.now ≡ es = sym (c.as_slice-entries.ensures ∙ c.values.ensures.rest ∙ c.self.view_is) in
    let e = c.index-entries-index.result in
    let found = c.binary_search_by_key.ensures.position (λ (x : EntryState). x.id) (answers_always _ _ _ (λ f a r g called. search rules)) in
    sym (ap (λ (xs : List EntryState). entry_with xs c.args.id) items
    ∙ searched_at es c.args.id c.in-Ok.index (subst InOrder items c.requires.order) c.in-Ok.ensures.bound
    (subst (IsBinarySearchResult (λ (x : EntryState). nat_cmp x.id c.args.id) es) c.in-Ok.is found) e
    ∙ ap Some (sym c.index-entries-index.is))

pub returns-in-Err : goal.returns-in-Err
returns-in-Err c =
    let es = c.as_slice-entries.result.now in
    let items : c.args.self.now ≡ es = sym (c.as_slice-entries.ensures ∙ c.values.ensures.rest ∙ c.self.view_is) in
    let found = c.binary_search_by_key.ensures.position (λ (e : EntryState). e.id) (answers_always _ _ _ (λ f a r g called. search rules)) in
    sym (ap (λ (xs : List EntryState). entry_with xs c.args.id) items
    ∙ searched_none es c.args.id _ (subst InOrder items c.requires.order) (subst (IsBinarySearchResult (λ (e : EntryState). nat_cmp e.id c.args.id) es) c.in-Err.is found))
