use Rattle.std.proofs.Common.{◌≡◌, Some, None, ap, sym, ◌∙◌}
use Rattle.std.specs.Option.{option_copied}
use Rattle.sipl_records.specs.Parts.{split_once}
use Rattle.sipl_records.specs.Ipv4.{group_of}
use Rattle.sipl_records.proofs.Groups.{lacks_dot, lacks_group, groups-Some}
use Rattle.sipl_records.proofs.address4.group_before_dot.Goals as goal

pub returns-in_err-rest-clause-refused : goal.returns-in_err-rest-clause-refused
returns-in_err-rest-clause-refused c =
    rw c.from_residual.ensures (lacks_dot c.args.text.now (sym c.split_once.ensures.after ∙ ap option_copied c.in_err-rest.was))

pub returns-in_err-octet-clause-refused : goal.returns-in_err-octet-clause-refused
returns-in_err-octet-clause-refused c =
    let found : (split_once 46 c.args.text.now).1 ≡ Some c.in_ok-rest.rest.now = sym c.split_once.ensures.after ∙ ap option_copied c.in_ok-rest.was in
    let bad : group_of (split_once 46 c.args.text.now).0 ≡ None = ap group_of (sym c.split_once.ensures.before) ∙ sym c.in_err-octet.ensures in
    rw c.from_residual-in_err-octet.ensures (lacks_group c.args.text.now c.in_ok-rest.rest.now found bad)

pub returns-clause-read : goal.returns-clause-read
returns-clause-read c =
    groups-Some c.args.text.now c.in_ok-rest.rest.now c.in_ok-octet.octet (sym c.split_once.ensures.after ∙ ap option_copied c.in_ok-rest.was) (ap group_of (sym c.split_once.ensures.before) ∙ sym c.in_ok-octet.ensures)
