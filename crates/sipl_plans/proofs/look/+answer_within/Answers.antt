use Rattle.std.proofs.Common.{rules, ◌≡◌, IfOk, sym, subst}
use Rattle.sipl_plans.proofs.Answering.{alias-answer, no-answer, wildcard-answer, wildcard_alias-answer, wildcard_none-answer}
use Rattle.sipl_plans.proofs.look.+answer_within.Goals as goal

pub returns-in-Some : goal.returns-in-Some
returns-in-Some t c =
    subst (λ set. IfOk c.answer_within.result (λ found. found.items ≡ set))
    (sym (alias-answer c.args.records.now c.args.kind c.requires c.args.left c.args.name.now c.in_ok-set.set.items c.in_ok-set.ensures (search rules) c.in-Some.target.now (search rules)))
    c.answer_within.ensures

pub returns-in_default-2 : goal.returns-in_default-2
returns-in_default-2 t c =
    sym (no-answer c.args.records.now c.args.kind c.requires c.args.left c.args.name.now c.in_ok-set.set.items c.in_ok-set.ensures (search rules) (search rules) c.in_ok-wildcard.field-0 c.in_ok-wildcard.ensures c.in_default-2.is)

pub returns-then-not-is_empty-2 : goal.returns-then-not-is_empty-2
returns-then-not-is_empty-2 t c =
    sym (wildcard-answer c.args.records.now c.args.kind c.requires c.args.left c.args.name.now c.in_ok-set.set.items c.in_ok-set.ensures (search rules) (search rules) c.in_ok-wildcard.field-0 c.in_ok-wildcard.ensures c.in-Some-2.wildcard c.in-Some-2.is c.in_ok-set-2.set.items c.in_ok-set-2.ensures (search rules))

pub returns-in-Some-target_within : goal.returns-in-Some-target_within
returns-in-Some-target_within t c =
    subst (λ set. IfOk c.answer_within-in-Some-target_within.result (λ found. found.items ≡ set))
    (sym (wildcard_alias-answer c.args.records.now c.args.kind c.requires c.args.left c.args.name.now c.in_ok-set.set.items c.in_ok-set.ensures (search rules) (search rules) c.in_ok-wildcard.field-0 c.in_ok-wildcard.ensures c.in-Some-2.wildcard c.in-Some-2.is c.in_ok-set-2.set.items c.in_ok-set-2.ensures (search rules) c.in-Some-target_within.target.now (search rules)))
    c.answer_within-in-Some-target_within.ensures

pub returns : goal.returns
returns t c =
    sym (wildcard_none-answer c.args.records.now c.args.kind c.requires c.args.left c.args.name.now c.in_ok-set.set.items c.in_ok-set.ensures (search rules) (search rules) c.in_ok-wildcard.field-0 c.in_ok-wildcard.ensures c.in-Some-2.wildcard c.in-Some-2.is c.in_ok-set-2.set.items c.in_ok-set-2.ensures (search rules) (search rules))
