use Rattle.std.proofs.Common.{◌≡◌, true, false, nat_le, sym, ◌∙◌, arith}
use Rattle.std.specs.List.{count_by}
use Rattle.std.proofs.lemmas.Bool.Decides.{nat_tests}
use Rattle.sipl_names.specs.Labels.{is_within}
use Rattle.sipl_records.specs.Sets.{shares_set}
use Rattle.sipl_masterfile.proofs.TakenIn.{fits-new}
use Rattle.sipl_masterfile.proofs.intake.Intake.is_new.Goals as goal

pub returns-clause-fits : goal.returns-clause-fits
returns-clause-fits c =
    let new = c.args.new.now in
    let s = c.self.inside in
    let inside : is_within new.owner s.apex ≡ true = sym c.is_within.ensures.value ∙ c.if-not-is_within.false in
    let below : nat_le 32 (count_by (shares_set new) s.records) ≡ false = grind (arith, nat_tests) in
    λ _. rw (← c.self.view_is) (fits-new (record { apex = s.apex; records = s.records; outside = s.outside; repeated = s.repeated }) new c.self.invariant inside (sym c.compare-found.ensures.repeated ∙ c.if-found.false) (sym c.compare-found.ensures.conflicts ∙ c.if-found-2.false) below)
