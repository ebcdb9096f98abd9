use Rattle.std.proofs.Common.{length, ap, sym, ◌∙◌}
use Rattle.std.specs.List.{count_by, list_any}
use Rattle.sipl_records.specs.Sets.{conflicts, same_data, same_record, shares_set}
use Rattle.sipl_zonestore.specs.IndexedRecords.{IndexedState}
use Rattle.sipl_zonestore.proofs.Comparing.{bare-conflicts, bare-count, bare-repeated, conflicts-is, key-of_kind, key-of_none, repeated-is, set_len-is}
use Rattle.sipl_zonestore.proofs.indexed_records.IndexedRecords.compare.Goals as goal

pub returns-in_default-clause-repeated : goal.returns-in_default-clause-repeated
returns-in_default-clause-repeated c =
    c.contains.ensures ∙ bare-repeated _ c.self.inside.records.records c.args.new.now c.self.invariant.has_bare (key-of_none c.args.new.now (sym c.kind.ensures ∙ c.in_default.is)) ∙ ap (λ (state : IndexedState). list_any (same_record c.args.new.now) state.records) c.self.view_is

pub returns-in_default-clause-conflicts : goal.returns-in_default-clause-conflicts
returns-in_default-clause-conflicts c =
    bare-conflicts c.self.inside.records.records c.args.new.now (key-of_none c.args.new.now (sym c.kind.ensures ∙ c.in_default.is)) ∙ ap (λ (state : IndexedState). list_any (conflicts c.args.new.now) state.records) c.self.view_is

pub returns-in_default-clause-set_len : goal.returns-in_default-clause-set_len
returns-in_default-clause-set_len c =
    bare-count c.self.inside.records.records c.args.new.now (key-of_none c.args.new.now (sym c.kind.ensures ∙ c.in_default.is)) ∙ ap (λ (state : IndexedState). count_by (shares_set c.args.new.now) state.records) c.self.view_is

pub returns-clause-repeated : goal.returns-clause-repeated
returns-clause-repeated c =
    c.has_value.ensures ∙ ap (list_any (same_data c.args.new.now.value)) c.values-values.ensures
    ∙ repeated-is c.self.inside.sets c.self.inside.records.records c.args.new.now (record { name = c.args.new.now.owner; kind = c.in-Some.kind }) c.self.invariant.has_sets (key-of_kind c.args.new.now c.in-Some.kind (sym c.kind.ensures ∙ c.in-Some.is))
    ∙ ap (λ (state : IndexedState). list_any (same_record c.args.new.now) state.records) c.self.view_is

pub returns-clause-conflicts : goal.returns-clause-conflicts
returns-clause-conflicts c =
    c.has_conflict.ensures
    ∙ conflicts-is c.self.inside.sets c.self.inside.records.records c.args.new.now (record { name = c.args.new.now.owner; kind = c.in-Some.kind }) c.self.invariant.has_sets (key-of_kind c.args.new.now c.in-Some.kind (sym c.kind.ensures ∙ c.in-Some.is))
    ∙ ap (λ (state : IndexedState). list_any (conflicts c.args.new.now) state.records) c.self.view_is

pub returns-clause-set_len : goal.returns-clause-set_len
returns-clause-set_len c =
    ap length c.values-values.ensures
    ∙ set_len-is c.self.inside.sets c.self.inside.records.records c.args.new.now (record { name = c.args.new.now.owner; kind = c.in-Some.kind }) c.self.invariant.has_sets (key-of_kind c.args.new.now c.in-Some.kind (sym c.kind.ensures ∙ c.in-Some.is))
    ∙ ap (λ (state : IndexedState). count_by (shares_set c.args.new.now) state.records) c.self.view_is
