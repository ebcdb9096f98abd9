use Rattle.std.proofs.Common.{◌≡◌, ◌≢◌, false, true, sym, ap, subst, ◌∙◌}
use Rattle.sipl_names.proofs.Public.{same_name_decides}
use Rattle.sipl_evidence.specs.WalkPlaces.{IsLentApart, name_of}
use Rattle.sipl_evidence.proofs.Legs.{on_err}
use Rattle.sipl_evidence.proofs.walk_place.Held.into_other.Goals as goal

pub returns-in_err-dup-in-Lent-clause-memory : goal.returns-in_err-dup-in-Lent-clause-memory
returns-in_err-dup-in-Lent-clause-memory c =
    let apart : c.in-Lent.name.now ≢ c.args.from.now = λ same.
    let never : false ≡ true = sym c.if-eq.false ∙ c.eq.ensures ∙ (same_name_decides c.in-Lent.name.now c.args.from.now).1 same in cc never in
    on_err c.from_residual.result (subst (λ held. IsLentApart held c.args.from.now) (sym c.in-Lent.is) apart)

pub returns-then-eq-clause-name : goal.returns-then-eq-clause-name
returns-then-eq-clause-name c =
    sym ((same_name_decides c.in-Lent.name.now c.args.from.now).0 (sym c.eq.ensures ∙ c.if-eq.true))
    ∙ ap name_of (sym c.in-Lent.is)
