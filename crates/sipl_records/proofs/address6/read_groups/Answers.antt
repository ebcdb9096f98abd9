use Rattle.std.proofs.Common.{sym, ◌∙◌}
use Rattle.sipl_records.proofs.Ipv6Groups.{counted_text, counted-bad, counted-too_many, counted-pushed, some_from_test}
use Rattle.sipl_records.proofs.address6.read_groups.Goals as goal

pub returns-in_err-group-clause-read : goal.returns-in_err-group-clause-read
returns-in_err-group-clause-read c =
    let l = c.loop-part in
    rw c.from_residual.ensures
    (sym (counted_text c.args.ipv4 c.args.text.now (some_from_test c.args.text.now c.if-is_empty.ensures) ∙ l.invariant.same
    ∙ counted-bad c.args.ipv4 l.groups.number l.groups.len l.rest.now c.in-Some.part.now c.in-Some.after.now c.in-Some.ensures.parts (sym c.in_err-group.ensures)))

pub returns-in_err-groups-clause-read : goal.returns-in_err-groups-clause-read
returns-in_err-groups-clause-read c =
    let l = c.loop-part in
    rw c.from_residual-in_err-groups.ensures
    (sym (counted_text c.args.ipv4 c.args.text.now (some_from_test c.args.text.now c.if-is_empty.ensures) ∙ l.invariant.same
    ∙ counted-too_many c.args.ipv4 l.groups.number l.groups.len c.in_ok-group.field-0 l.rest.now c.in-Some.part.now c.in-Some.after.now c.in-Some.ensures.parts (sym c.in_ok-group.ensures) c.in_err-groups.ensures.full))

pub loop-part-preserved : goal.loop-part-preserved
loop-part-preserved c =
    let l = c.loop-part in
    let pushed = c.in_ok-groups.ensures.pushed in
    record {
      same = l.invariant.same ∙ counted-pushed c.args.ipv4 l.groups.number l.groups.len c.in_ok-group.field-0 c.in_ok-groups.groups.number c.in_ok-groups.groups.len l.rest.now c.in-Some.part.now c.in-Some.after.now c.in-Some.ensures.parts (sym c.in_ok-group.ensures) pushed;
      bounded = pushed.bounded;
    }
