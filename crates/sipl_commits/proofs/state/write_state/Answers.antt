use Rattle.std.proofs.Common.{◌++◌, ap, ◌∙◌}
use Rattle.sha2.specs.Sha256.{sha256}
use Rattle.sipl_commits.specs.Seals.{Octets}
use Rattle.sipl_commits.proofs.States.{state_written}
use Rattle.sipl_commits.proofs.state.write_state.Goals as goal

pub returns-clause-text : goal.returns-clause-text
returns-clause-text c =
    state_written c.args.out.now.items _ _ _ _ c.args.body.now c.in_ok-text.ensures.items c.in_ok-extend_from_slice.ensures.items
    (c.deref.ensures.value ∙ c.in_ok-digest.ensures.text) c.in_ok-extend_from_slice-2.ensures.items

pub returns-clause-digest : goal.returns-clause-digest
returns-clause-digest c =
    c.in_ok-digest.ensures.digest
    ∙ ap sha256 (c.in_ok-extend_from_slice.ensures.items ∙ ap (λ (x : Octets). x ++ c.args.body.now) c.in_ok-text.ensures.items)
