use Rattle.std.proofs.Common.{◌≡◌, nat_eq, true, false, sym, ap, ◌∙◌}
use Rattle.sipl_zonestore.specs.NameTable.{count_at}
use Rattle.sipl_zonestore.specs.SetTable.{numbers_of}
use Rattle.sipl_zonestore.proofs.Lookups.{number-existence, number-of_set, set-existence, some-count, zero-count}
use Rattle.sipl_zonestore.proofs.indexed_records.IndexedRecords.set.Goals as goal

pub returns-then-not-is_existence-clause-number : goal.returns-then-not-is_existence-clause-number
returns-then-not-is_existence-clause-number c =
    rw (← c.self.view_is) (c.get.ensures.number ∙ sym (number-of_set c.self.inside.records.records c.self.inside.sets c.args.key.now (sym c.is_existence.ensures ∙ c.if-not-is_existence.true)))

pub returns-then-count_of-eq0-clause-number : goal.returns-then-count_of-eq0-clause-number
returns-then-count_of-eq0-clause-number c =
    let none : nat_eq (count_at c.self.inside.names.entries c.args.key.now.name) 0 ≡ true = ap (λ n. nat_eq n 0) (sym c.count_of.ensures) ∙ zero-count c.count_of.result c.if-count_of-eq0.true in
    rw (← c.self.view_is) (sym (number-existence c.self.inside.records.records (numbers_of c.self.inside.sets) c.self.inside.names.entries c.args.key.now true c.self.invariant.has_names (sym c.is_existence.ensures ∙ c.if-not-is_existence.false) none))

pub returns-then-count_of-eq0-clause-values : goal.returns-then-count_of-eq0-clause-values
returns-then-count_of-eq0-clause-values c =
    let none : nat_eq (count_at c.self.inside.names.entries c.args.key.now.name) 0 ≡ true = ap (λ n. nat_eq n 0) (sym c.count_of.ensures) ∙ zero-count c.count_of.result c.if-count_of-eq0.true in
    rw (← c.self.view_is) (sym (set-existence c.self.inside.records.records c.self.inside.names.entries c.args.key.now true c.self.invariant.has_names (sym c.is_existence.ensures ∙ c.if-not-is_existence.false) none))

pub returns-clause-number : goal.returns-clause-number
returns-clause-number c =
    let some : nat_eq (count_at c.self.inside.names.entries c.args.key.now.name) 0 ≡ false = ap (λ n. nat_eq n 0) (sym c.count_of.ensures) ∙ some-count c.count_of.result c.if-count_of-eq0.false in
    rw (← c.self.view_is) (sym (number-existence c.self.inside.records.records (numbers_of c.self.inside.sets) c.self.inside.names.entries c.args.key.now false c.self.invariant.has_names (sym c.is_existence.ensures ∙ c.if-not-is_existence.false) some))

pub returns-clause-values : goal.returns-clause-values
returns-clause-values c =
    let some : nat_eq (count_at c.self.inside.names.entries c.args.key.now.name) 0 ≡ false = ap (λ n. nat_eq n 0) (sym c.count_of.ensures) ∙ some-count c.count_of.result c.if-count_of-eq0.false in
    rw (← c.self.view_is) (c.self.invariant.lent ∙ sym (set-existence c.self.inside.records.records c.self.inside.names.entries c.args.key.now false c.self.invariant.has_names (sym c.is_existence.ensures ∙ c.if-not-is_existence.false) some))
