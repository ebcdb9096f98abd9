use Rattle.std.proofs.Common.{◌≡◌, ◌∙◌, true, false, sym, ap, None, Some}
use Rattle.std.specs.Option.{option_copied}
use Rattle.sipl_records.specs.Ipv6.{groups_of_text, split_at_zeros}
use Rattle.sipl_records.proofs.Ipv6Numbers.{joined, whole, none_after}
use Rattle.sipl_records.proofs.address6.read.Goals as goal

pub returns-in_err-read_groups-in-Some-2 : goal.returns-in_err-read_groups-in-Some-2
returns-in_err-read_groups-in-Some-2 c =
    let after : Some c.in-Some.right.now ≡ (split_at_zeros c.args.text.now).1 = ap option_copied (sym c.in-Some.is) ∙ c.split_at_zeros.ensures.after in
    rw (← c.split_at_zeros.ensures.before, ← after, c.from_residual-in_err-read_groups-in-Some-2.ensures)
    (none_after (groups_of_text false c.split_at_zeros.result.0.now) (groups_of_text true c.in-Some.right.now) c.in_err-read_groups-in-Some-2.ensures.read)

pub returns-in_ok-read_groups-in-None : goal.returns-in_ok-read_groups-in-None
returns-in_ok-read_groups-in-None c =
    let g = c.in_ok-read_groups-in-None in
    let alone : None ≡ (split_at_zeros c.args.text.now).1 = ap option_copied (sym c.in-None.is) ∙ c.split_at_zeros.ensures.after in
    rw (← c.split_at_zeros.ensures.before, ← alone) (c.number_if_eight.ensures ∙ whole (groups_of_text true c.split_at_zeros.result.0.now) g.field-0.number g.field-0.len g.ensures.read)

pub returns-in_ok-read_groups-in-Some-2 : goal.returns-in_ok-read_groups-in-Some-2
returns-in_ok-read_groups-in-Some-2 c =
    let l = c.in_ok-read_groups-in-Some in
    let r = c.in_ok-read_groups-in-Some-2 in
    let after : Some c.in-Some.right.now ≡ (split_at_zeros c.args.text.now).1 = ap option_copied (sym c.in-Some.is) ∙ c.split_at_zeros.ensures.after in
    rw (← c.split_at_zeros.ensures.before, ← after)
    (c.number_around_zeros.ensures ∙ joined (groups_of_text false c.split_at_zeros.result.0.now) (groups_of_text true c.in-Some.right.now) l.field-0.number l.field-0.len r.field-0.number r.field-0.len l.ensures.read r.ensures.read)
