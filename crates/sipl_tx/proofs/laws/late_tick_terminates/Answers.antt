use Rattle.std.proofs.Common.{refl, arith}
use Rattle.sipl_tx.specs.declared.parts.Kind.TheVariants.{Invite, Other}
use Rattle.sipl_tx.specs.Transaction.{new_transaction}
use Rattle.sipl_tx.specs.Runs.{run}
use Rattle.sipl_tx.proofs.Steps.{late_tick_ends_invite, late_tick_ends_other}
use Rattle.sipl_tx.proofs.RunLaws.{kind_stays_over, counts_from_before_over, invite_never_tries_over, other_never_calls_over}
use Rattle.sipl_tx.proofs.laws.late_tick_terminates.Goals as goal

pub returns-clause-invite : goal.returns-clause-invite
returns-clause-invite c =
    λ reliable start moment events elsewhere late.
    let first = new_transaction Invite reliable start in
    late_tick_ends_invite (run first events) moment (kind_stays_over first events) (invite_never_tries_over first events refl (λ h. absurd (cc h))) elsewhere (counts_from_before_over first events (omega arith)) late

pub returns-clause-other : goal.returns-clause-other
returns-clause-other c =
    λ reliable start moment events late.
    let first = new_transaction Other reliable start in
    late_tick_ends_other (run first events) moment (kind_stays_over first events) (other_never_calls_over first events refl (λ h. absurd (cc h))) (counts_from_before_over first events (omega arith)) late
