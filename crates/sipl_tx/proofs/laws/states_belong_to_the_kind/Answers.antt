use Rattle.std.proofs.Common.{true, refl}
use Rattle.sipl_tx.specs.declared.parts.Kind.{Kind}
use Rattle.sipl_tx.specs.declared.parts.Kind.TheVariants.{Invite, Other}
use Rattle.sipl_tx.specs.declared.parts.State.TheVariants.{Completed}
use Rattle.sipl_tx.specs.Transaction.{new_transaction, first_state}
use Rattle.sipl_tx.proofs.RunLaws.{invite_never_tries_over, other_never_calls_over, reliable_never_completes_over}
use Rattle.std.proofs.Common.{◌≢◌}
use Rattle.sipl_tx.proofs.laws.states_belong_to_the_kind.Goals as goal

starts_elsewhere : (kind : Kind) → first_state kind ≢ Completed
starts_elsewhere Invite h = absurd (cc h)
starts_elsewhere Other h = absurd (cc h)

pub returns-clause-invite : goal.returns-clause-invite
returns-clause-invite c = λ reliable start events. invite_never_tries_over (new_transaction Invite reliable start) events refl (λ h. absurd (cc h))

pub returns-clause-other : goal.returns-clause-other
returns-clause-other c = λ reliable start events. other_never_calls_over (new_transaction Other reliable start) events refl (λ h. absurd (cc h))

pub returns-clause-reliable : goal.returns-clause-reliable
returns-clause-reliable c = λ kind start events. reliable_never_completes_over (new_transaction kind true start) events refl (starts_elsewhere kind)
