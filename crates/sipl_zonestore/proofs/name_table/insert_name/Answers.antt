use Rattle.std.proofs.Common.{◌≡◌, ◌+◌, ◌++◌, ◌∷◌, [], cond, IsSome, Some, None, subst, refl, sym, ap, ◌∙◌, arith}
use Rattle.std.specs.Map.{lookup}
use Rattle.indexmap.proofs.CallerLemmas.{insert_entry-new}
use Rattle.sipl_names.specs.Labels.{same_name}
use Rattle.sipl_zonestore.specs.NameTable.{NameTable}
use Rattle.sipl_zonestore.proofs.Counts.{counted-more, keys-absent, keys-present}
use Rattle.sipl_zonestore.proofs.name_table.insert_name.Goals as goal

pub returns-in-Some-clause-counts : goal.returns-in-Some-clause-counts
returns-in-Some-clause-counts c =
    let written = c.in-Some.own.now + 1 in
    counted-more c.args.names.now.entries (c.get_mut.follows.lender written).entries c.args.name.now (Some c.in-Some.own.now) (Some written) 1 ((c.get_mut.follows.holds written).3 (subst IsSome c.in-Some.ensures.value refl)).0 c.in-Some.ensures.value refl

pub returns-in-Some-clause-keys : goal.returns-in-Some-clause-keys
returns-in-Some-clause-keys c =
    let written = c.in-Some.own.now + 1 in
    keys-present c.args.names.now.entries c.args.name.now c.in-Some.own.now _ (c.get_mut.follows.holds written).1 c.in-Some.ensures.value

pub returns-clause-counts : goal.returns-clause-counts
returns-clause-counts c =
    let updates = rw c.in_ok-dup.ensures.value at c.in_ok-insert.ensures.updates in
    let stored : c.get_mut.follows.lender-at-none.entries ≡ c.args.names.now.entries = ap (λ m. m.entries) c.get_mut.follows.holds-at-none in
    counted-more c.args.names.now.entries c.insert.new.self.entries c.args.name.now None (Some 1) 1 (λ other. updates.0 other ∙ ap (λ (es : NameTable). cond (same_name c.args.name.now other) (Some 1) (lookup (same_name other) es)) stored) c.in_default.ensures.value (omega arith)

pub returns-clause-keys : goal.returns-clause-keys
returns-clause-keys c =
    let entries = rw c.in_ok-dup.ensures.value at c.in_ok-insert.ensures.entries in
    let stored : c.get_mut.follows.lender-at-none.entries ≡ c.args.names.now.entries = ap (λ m. m.entries) c.get_mut.follows.holds-at-none in
    keys-absent c.args.names.now.entries c.insert.new.self.entries c.args.name.now 1 (entries ∙ insert_entry-new same_name c.get_mut.follows.lender-at-none c.args.name.now 1 (ap (lookup (same_name c.args.name.now)) stored ∙ sym c.in_default.ensures.value) ∙ ap (λ (es : NameTable). es ++ (c.args.name.now, 1) ∷ []) stored) c.in_default.ensures.value
