use Rattle.std.proofs.Common.{Some, None, ap, ◌∙◌}
use Rattle.sipl_records.proofs.Groups.{four_groups_read}
use Rattle.sipl_records.proofs.address4.read.Goals as goal

pub returns-in_err-fourth : goal.returns-in_err-fourth
returns-in_err-fourth c =
    c.from_residual-in_err-fourth.ensures ∙ four_groups_read c.in_ok-first.first c.in_ok-second.second c.in_ok-third.third c.args.text.now c.in_ok-first.rest.now c.in_ok-second.rest.now c.in_ok-third.rest.now None c.in_ok-first.ensures.read c.in_ok-second.ensures.read c.in_ok-third.ensures.read c.in_err-fourth.ensures

pub returns : goal.returns
returns c =
    ap (λ n. Some n) c.from_be_bytes.ensures ∙ four_groups_read c.in_ok-first.first c.in_ok-second.second c.in_ok-third.third c.args.text.now c.in_ok-first.rest.now c.in_ok-second.rest.now c.in_ok-third.rest.now (Some c.in_ok-fourth.fourth) c.in_ok-first.ensures.read c.in_ok-second.ensures.read c.in_ok-third.ensures.read c.in_ok-fourth.ensures
