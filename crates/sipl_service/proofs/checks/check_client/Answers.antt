use Rattle.std.proofs.Common.{None, Some, sym, ◌∙◌}
use Rattle.std.proofs.lemmas.Bool.{cond-false, cond-true}
use Rattle.sipl_service.specs.Refusals.{is_for}
use Rattle.sipl_service.specs.declared.fault.ServiceFault.TheVariants.{OtherBook}
use Rattle.sipl_service.proofs.Policies.{is_for-same}
use Rattle.sipl_service.proofs.checks.check_client.Goals as goal

pub returns-clause-same : goal.returns-clause-same
returns-clause-same c =
    (is_for-same c.args.abilities.now c.args.held c.args.book.now (sym c.is_for.ensures ∙ c.if-not-is_for.false)).0

pub returns-clause-held : goal.returns-clause-held
returns-clause-held c =
    (is_for-same c.args.abilities.now c.args.held c.args.book.now (sym c.is_for.ensures ∙ c.if-not-is_for.false)).1

pub returns-clause-accepted : goal.returns-clause-accepted
returns-clause-accepted c =
    cond-true (is_for c.args.abilities.now c.args.held c.args.book.now) None (Some OtherBook) (sym c.is_for.ensures ∙ c.if-not-is_for.false)

pub returns-then-not-is_for-clause-other : goal.returns-then-not-is_for-clause-other
returns-then-not-is_for-clause-other c =
    cond-false (is_for c.args.abilities.now c.args.held c.args.book.now) None (Some OtherBook) (sym c.is_for.ensures ∙ c.if-not-is_for.true)
