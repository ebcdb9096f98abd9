use Rattle.std.proofs.Common.{◌≡◌, ◌++◌, Ok, subst, sym, ap, ◌∙◌}
use Rattle.sipl_zonestore.specs.IndexedRecords.{IndexedState, IsReplaced, nothing}
use Rattle.sipl_zonestore.specs.SetTable.{numbers_of}
use Rattle.sipl_zonestore.specs.Store.{records_outside}
use Rattle.sipl_zonestore.proofs.PatchedLists.{empty-patch}
use Rattle.sipl_zonestore.proofs.SameRecords.{unchanged}
use Rattle.sipl_zonestore.proofs.indexed_records.IndexedRecords.replace_within.Goals as goal

pub returns-then-is_empty : goal.returns-then-is_empty
returns-then-is_empty c =
    let apex = c.args.apex.now in
    let old = c.self.inside.records.records in
    let text = c.args.text.now in
    let new = records_outside apex old ++ text in
    let sets = c.self.inside.sets in
    let next = c.self.inside.next in
    let now = c.as_slice-records.result.now in
    let value : now ≡ old = c.as_slice-records.ensures.value in
    let same : new ≡ old = ap (λ rs. records_outside apex rs ++ text) (sym value) ∙ empty-patch apex now text c.patch_of-patch.result c.if-is_empty.ensures.last c.if-is_empty.ensures.old c.if-is_empty.ensures.new c.patch_of-patch.ensures ∙ value in
    let before : IndexedState = record { records = old; numbers = numbers_of sets; next = next } in
    rw (c.no_change.ensures, ← c.self.view_is) (subst (λ rs. IsReplaced new before (record { records = rs; numbers = numbers_of sets; next = next }) (Ok nothing)) (sym c.as_slice-records.follows.holds-at-none) (unchanged old new sets next c.self.invariant.has_sets c.self.invariant.last same))
