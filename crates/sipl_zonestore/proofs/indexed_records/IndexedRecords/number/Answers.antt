use Rattle.std.proofs.Common.{◌≡◌, not, nat_eq, sym, ap, ◌∙◌}
use Rattle.sipl_zonestore.specs.NameTable.{count_at}
use Rattle.sipl_zonestore.specs.SetTable.{numbers_of}
use Rattle.sipl_zonestore.proofs.Lookups.{byte-number, number-existence, number-of_set}
use Rattle.sipl_zonestore.proofs.indexed_records.IndexedRecords.number.Goals as goal

pub returns-then-not-is_existence : goal.returns-then-not-is_existence
returns-then-not-is_existence c =
    rw (← c.self.view_is) (c.number.ensures ∙ sym (number-of_set c.self.inside.records.records c.self.inside.sets c.args.key.now (sym c.is_existence.ensures ∙ c.if-not-is_existence.true)))

pub returns : goal.returns
returns c =
    let counted : nat_eq (count_at c.self.inside.names.entries c.args.key.now.name) 0 ≡ nat_eq c.count_of.result 0 = ap (λ n. nat_eq n 0) (sym c.count_of.ensures) in
    rw (← c.self.view_is) (c.from.ensures ∙ byte-number (not (nat_eq c.count_of.result 0)) ∙ sym (number-existence c.self.inside.records.records (numbers_of c.self.inside.sets) c.self.inside.names.entries c.args.key.now (nat_eq c.count_of.result 0) c.self.invariant.has_names (sym c.is_existence.ensures ∙ c.if-not-is_existence.false) counted))
