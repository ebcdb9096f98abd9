use Rattle.std.proofs.Common.{Some, None, ◌++◌, ◌∙◌}
use Rattle.std.proofs.lemmas.Bool.Decides.{Decides-eqb}
use Rattle.std.proofs.lemmas.Slice.Eq.{strip_prefix_is}
use Rattle.sipl_commits.specs.States.{state_line}
use Rattle.sipl_commits.proofs.Lines.{sealed_parts}
use Rattle.sipl_commits.proofs.States.{no_state, state_is}
use Rattle.sipl_commits.proofs.Texts.{starts_decides}
use Rattle.sipl_commits.proofs.state.read_state.Goals as goal

pub returns-in_default-strip_prefix-clause-fault : goal.returns-in_default-strip_prefix-clause-fault
returns-in_default-strip_prefix-clause-fault c =
    let octets = c.args.octets.now in
    let text = c.in-Some.text.now in (
      (starts_decides octets state_line c.starts_with-2.result c.starts_with-2.ensures.value).0 c.if-not-starts_with.false,
      λ body e. strip_prefix_is Decides-eqb text state_line None c.in_default-strip_prefix.ensures.cases body
          (sealed_parts octets text c.in-Some.line.now (state_line ++ body) c.in-Some.ensures.cut e).0,
    )

pub returns-then-eq-clause-read : goal.returns-then-eq-clause-read
returns-then-eq-clause-read c =
    let text = c.in-Some.text.now in
    let body = c.in-Some-strip_prefix.body.now in
    let found = state_is c.args.octets.now text c.in-Some.line.now c.as_slice.result.now body c.digest-digest.result c.eq.result c.in-Some.ensures.cut
    (strip_prefix_is Decides-eqb text state_line (Some c.in-Some-strip_prefix.body) c.in-Some-strip_prefix.ensures.cases)
    c.digest-digest.ensures (c.as_slice.ensures.value ∙ c.in_ok-seal_line.ensures) c.eq.ensures c.if-eq.true in
    record {
      is = found.0;
      digest_is = found.1;
    }

pub returns-else-eq-clause-fault : goal.returns-else-eq-clause-fault
returns-else-eq-clause-fault c =
    let octets = c.args.octets.now in (
      (starts_decides octets state_line c.starts_with-2.result c.starts_with-2.ensures.value).0 c.if-not-starts_with.false,
      no_state octets c.in-Some.text.now c.in-Some.line.now c.as_slice.result.now c.digest-digest.result c.eq.result c.in-Some.ensures.cut
          c.digest-digest.ensures (c.as_slice.ensures.value ∙ c.in_ok-seal_line.ensures) c.eq.ensures c.if-eq.false,
    )
