use Rattle.std.proofs.Common.{◌≡◌, ◌<◌, [], length, ap, sym, ◌∙◌, arith}
use Rattle.std.proofs.lemmas.Bool.{eqb-true, eqb-false}
use Rattle.std.proofs.lemmas.List.{nil_from_length}
use Rattle.sipl_records.specs.Fields.{fields_of, trim_start, before_wsp, from_wsp}
use Rattle.sipl_records.proofs.Fields.{fields_of-trim_start, fields_of-first, length-after_field-lt, before_wsp-append}
use Rattle.sipl_records.proofs.field.next_field.Goals as goal

some_left : (c : goal.After-split_at_wsp) → 0 < length (trim_start c.args.line.now)
some_left c =
    let some = eqb-false (length c.trim_start-line.result.now) 0 (sym c.if-is_empty.ensures) in
    let same = ap length c.trim_start-line.ensures in
    omega arith

field_is : (c : goal.After-split_at_wsp) → c.split_at_wsp.result.0.now ≡ before_wsp (trim_start c.args.line.now)
field_is c = c.split_at_wsp.ensures.before ∙ ap before_wsp c.trim_start-line.ensures

rest_is : (c : goal.After-split_at_wsp) → c.split_at_wsp.result.1.now ≡ from_wsp (trim_start c.args.line.now)
rest_is c = c.split_at_wsp.ensures.from ∙ ap from_wsp c.trim_start-line.ensures

pub returns-then-is_empty-clause-fields : goal.returns-then-is_empty-clause-fields
returns-then-is_empty-clause-fields c =
    let none : trim_start c.args.line.now ≡ [] = sym c.trim_start-line.ensures ∙ nil_from_length _ (eqb-true _ 0 (sym c.if-is_empty.ensures)) in
    sym (fields_of-trim_start c.args.line.now) ∙ ap fields_of none

pub returns-clause-fields : goal.returns-clause-fields
returns-clause-fields c = rw (field_is c, rest_is c) (fields_of-first c.args.line.now (some_left c))

pub returns-clause-whole : goal.returns-clause-whole
returns-clause-whole c = rw (field_is c, rest_is c) (sym (before_wsp-append (trim_start c.args.line.now)))

pub returns-clause-shorter : goal.returns-clause-shorter
returns-clause-shorter c = rw (rest_is c) (length-after_field-lt c.args.line.now (some_left c))
