use Rattle.std.proofs.Common.{ap, sym, ◌∙◌}
use Rattle.sipl_records.proofs.Public.{same_key_decides}
use Rattle.sipl_evidence.specs.Items.{Item}
use Rattle.sipl_service.proofs.versions.Versions.shown.Goals as goal

pub returns-in_ok-dup-in-Some-get_seen-clause-key : goal.returns-in_ok-dup-in-Some-get_seen-clause-key
returns-in_ok-dup-in-Some-get_seen-clause-key c =
    let same = (same_key_decides c.key.result.now c.args.key.now).0 (sym c.eq.ensures ∙ c.if-eq.true) in
    ap (λ (item : Item). item.key) c.in_ok-dup-in-Some-get_seen.ensures ∙ sym c.key.ensures.key ∙ same
