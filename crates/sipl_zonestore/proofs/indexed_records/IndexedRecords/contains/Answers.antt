use Rattle.std.proofs.Common.{ap, sym, ◌∙◌}
use Rattle.std.specs.List.{list_any}
use Rattle.sipl_records.specs.Sets.{same_data, same_record}
use Rattle.sipl_zonestore.specs.IndexedRecords.{IndexedState}
use Rattle.sipl_zonestore.proofs.Comparing.{bare-repeated, key-of_kind, key-of_none, repeated-is}
use Rattle.sipl_zonestore.proofs.indexed_records.IndexedRecords.contains.Goals as goal

pub returns-in_default : goal.returns-in_default
returns-in_default c =
    c.contains.ensures ∙ bare-repeated _ c.self.inside.records.records c.args.sought.now c.self.invariant.has_bare (key-of_none c.args.sought.now (sym c.kind.ensures ∙ c.in_default.is)) ∙ ap (λ (state : IndexedState). list_any (same_record c.args.sought.now) state.records) c.self.view_is

pub returns : goal.returns
returns c =
    c.has_value.ensures ∙ ap (list_any (same_data c.args.sought.now.value)) c.values.ensures
    ∙ repeated-is c.self.inside.sets c.self.inside.records.records c.args.sought.now (record { name = c.args.sought.now.owner; kind = c.in-Some.kind }) c.self.invariant.has_sets (key-of_kind c.args.sought.now c.in-Some.kind (sym c.kind.ensures ∙ c.in-Some.is))
    ∙ ap (λ (state : IndexedState). list_any (same_record c.args.sought.now) state.records) c.self.view_is
