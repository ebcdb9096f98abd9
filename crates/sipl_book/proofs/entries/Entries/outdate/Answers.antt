use Rattle.std.proofs.Common.{◌≡◌, ℕ, ◌<◌, List, [], ◌∷◌, map, length, get_or, None, Some, refl, sym, ap, subst, ◌∙◌, rules, arith}
use Rattle.std.specs.Map.{values_of}
use Rattle.std.specs.Option.{option_copied_mut}
use Rattle.std.specs.List.{slice_get}
use Rattle.std.specs.List.Sorted.{IsBinarySearchResult}
use Rattle.std.specs.Ordering.{nat_cmp}
use Rattle.std.proofs.lemmas.List.Sorted.{answers_always}
use Rattle.std.proofs.lemmas.Option.{get_or_from_slice_get, none-some, slice_get-get_or}
use Rattle.sipl_book.specs.Cache.{InOrder}
use Rattle.indexmap.specs.IndexMap.{set_value_at}
use Rattle.sipl_book.specs.Entries.{EntryState, after_change}
use Rattle.sipl_book.specs.EntryTable.{IsTable}
use Rattle.sipl_book.specs.Indexed.{has, needs, touched}
use Rattle.sipl_book.specs.Repairs.{entry_with}
use Rattle.sipl_book.specs.declared.entries.Entries.TheInside.{Inside}
use Rattle.sipl_book.proofs.Ids.{searched_at, searched_none, All-entry_with}
use Rattle.sipl_book.proofs.Indexing.{passes, touched-same}
use Rattle.sipl_book.proofs.Touching.{values-touched, IsTable-touched}
use Rattle.sipl_book.proofs.Table.{Rows}
use Rattle.sipl_book.proofs.entries.Entries.outdate.Goals as goal
use Rattle.sipl_book.proofs.entries.Entries.outdate.Goals.{in-Some, in-None}

module _ (c : goal.In_default) where
  items : c.args.self.now ≡ c.as_slice-entries.result.now
  items = sym (c.as_slice-entries.ensures ∙ c.values.ensures.rest ∙ c.self.view_is)

  no_entry : entry_with c.args.self.now c.args.id ≡ None
  no_entry =
      let es = c.as_slice-entries.result.now in
      let found = c.binary_search_by_key.ensures.position (λ (e : EntryState). e.id) (answers_always _ _ _ (λ f a r g called. search rules)) in
      ap (λ (xs : List EntryState). entry_with xs c.args.id) items
      ∙ searched_none es c.args.id _ (subst InOrder items c.requires.order) (subst (IsBinarySearchResult (λ (e : EntryState). nat_cmp e.id c.args.id) es) c.in_default.is found)

pub returns-in_default-clause-needs : goal.returns-in_default-clause-needs
returns-in_default-clause-needs c = sym (ap (passes (needs c.args.key.now)) (no_entry c))

pub returns-in_default-clause-after : goal.returns-in_default-clause-after
returns-in_default-clause-after c =
    sym (touched-same c.args.id c.args.key.now c.args.self.now c.requires.order (ap (passes (needs c.args.key.now)) (no_entry c)))

module _ (c : goal.Joined-get_index_mut) where
  abbrev rows : Rows
  rows = c.self.inside.table.entries

  abbrev index : ℕ
  index = c.in-Ok.index

  listed : values_of rows ≡ c.as_slice-entries.result.now
  listed = sym (c.as_slice-entries.ensures ∙ c.values.ensures.rest)

  order : InOrder (values_of rows)
  order = subst InOrder (sym c.self.view_is) c.requires.order

  within : index < length (values_of rows)
  within = omega (arith, c.in-Ok.ensures.bound, ap (λ (xs : List EntryState). length xs) listed)

  searched : (d : EntryState) → entry_with (values_of rows) c.args.id ≡ Some (get_or (values_of rows) index d)
  searched d =
      let es = c.as_slice-entries.result.now in
      let found = c.binary_search_by_key.ensures.position (λ (x : EntryState). x.id) (answers_always _ _ _ (λ f a r g called. search rules)) in
      ap (λ (xs : List EntryState). entry_with xs c.args.id) listed
      ∙ searched_at es c.args.id index (subst InOrder listed order) c.in-Ok.ensures.bound
      (subst (IsBinarySearchResult (λ (x : EntryState). nat_cmp x.id c.args.id) es) c.in-Ok.is found) d
      ∙ ap (λ (xs : List EntryState). Some (get_or xs index d)) (sym listed)

  module _ (e : EntryState) (got : slice_get (values_of rows) index ≡ Some e) where
    at : get_or (values_of rows) index e ≡ e
    at = get_or_from_slice_get (values_of rows) index e e got

    is : entry_with (values_of rows) c.args.id ≡ Some e
    is = searched e ∙ ap Some at

    own : e.id ≡ c.args.id
    own = (All-entry_with (λ y. y ≡ y) (values_of rows) c.args.id e (λ k d within. refl) is).1

    table : IsTable (set_value_at rows index (after_change (c.args.key.now ∷ []) e))
    table = IsTable-touched c.args.key.now rows index e within at c.self.invariant

    values : values_of (set_value_at rows index (after_change (c.args.key.now ∷ []) e)) ≡ map (touched c.args.id c.args.key.now) (values_of rows)
    values = values-touched c.args.id c.args.key.now rows index e order within at own

  nothing : slice_get (values_of rows) index ≡ None → ⊥
  nothing none = by (values_of rows) within none
    where
      by : (es : List EntryState) → index < length es → slice_get es index ≡ None → ⊥
      by [] below _ = omega (arith, below)
      by (d ∷ es) below past = none-some (get_or (d ∷ es) index d) (sym past ∙ slice_get-get_or (d ∷ es) index d below)

pub returns-clause-needs : goal.returns-clause-needs
returns-clause-needs c =
    elim c.match-get_index_mut.branch [
      | in-Some w ↦
          let got = sym c.get_index_mut.ensures.value ∙ ap option_copied_mut w.in-Some.is in
          w.result-is ∙ w.outdate.ensures.needs ∙ sym (ap (passes (needs c.args.key.now)) (is c w.in-Some.entry.now got))
          ∙ ap (λ es. has (needs c.args.key.now) es c.args.id) c.self.view_is
      | in-None w ↦ absurd (nothing c (sym c.get_index_mut.ensures.value ∙ ap option_copied_mut w.in-None.is))
    ]

pub returns-clause-after : goal.returns-clause-after
returns-clause-after c =
    elim c.match-get_index_mut.branch [
      | in-Some w ↦
          let got = sym c.get_index_mut.ensures.value ∙ ap option_copied_mut w.in-Some.is in
          ap (λ (inside : Inside). values_of inside.table.entries) w.self-inside-is
          ∙ ap (λ (v : EntryState). values_of (set_value_at (rows c) (index c) v)) w.outdate.ensures.after
          ∙ values c w.in-Some.entry.now got
          ∙ ap (map (touched c.args.id c.args.key.now)) c.self.view_is
      | in-None w ↦ absurd (nothing c (sym c.get_index_mut.ensures.value ∙ ap option_copied_mut w.in-None.is))
    ]

pub invariant_of-self : goal.invariant_of-self
invariant_of-self c =
    elim c.match-get_index_mut.branch [
      | in-Some w ↦
          let got = sym c.get_index_mut.ensures.value ∙ ap option_copied_mut w.in-Some.is in
          subst (λ (inside : Inside). IsTable inside.table.entries) (sym w.self-inside-is)
          (subst (λ (v : EntryState). IsTable (set_value_at (rows c) (index c) v)) (sym w.outdate.ensures.after) (table c w.in-Some.entry.now got))
      | in-None w ↦ absurd (nothing c (sym c.get_index_mut.ensures.value ∙ ap option_copied_mut w.in-None.is))
    ]
