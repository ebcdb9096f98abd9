use Rattle.std.proofs.Common.{ap, sym, ◌∙◌, ◌+◌, Some, add-one}
use Rattle.sipl_records.proofs.Splitting.{IsFirstAt-found, none_found, split_once-Some, split_once-None, list_any-take, list_any-without}
use Rattle.sipl_records.proofs.Groups.{rest_whole}
use Rattle.sipl_records.proofs.split.split_once.Goals as goal

pub returns-in-Some-clause-before : goal.returns-in-Some-clause-before
returns-in-Some-clause-before c =
    sym (ap (λ parts. parts.0) (split_once-Some c.args.separator c.args.text.now c.in-Some.end (IsFirstAt-found c.args.separator c.args.text.now c.in-Some.end c.in-Some.ensures)))

pub returns-in-Some-clause-after : goal.returns-in-Some-clause-after
returns-in-Some-clause-after c =
    ap (λ rest. Some rest) (rest_whole c.args.text.now (c.in-Some.end + 1)) ∙ rw add-one (sym (ap (λ parts. parts.1) (split_once-Some c.args.separator c.args.text.now c.in-Some.end (IsFirstAt-found c.args.separator c.args.text.now c.in-Some.end c.in-Some.ensures))))

pub returns-in-Some-clause-first : goal.returns-in-Some-clause-first
returns-in-Some-clause-first c =
    list_any-take c.args.separator c.args.text.now c.in-Some.end (IsFirstAt-found c.args.separator c.args.text.now c.in-Some.end c.in-Some.ensures)

pub returns-in-None-clause-before : goal.returns-in-None-clause-before
returns-in-None-clause-before c =
    sym (ap (λ parts. parts.0) (split_once-None c.args.separator c.args.text.now (none_found c.args.separator c.args.text.now c.in-None.ensures)))

pub returns-in-None-clause-after : goal.returns-in-None-clause-after
returns-in-None-clause-after c =
    sym (ap (λ parts. parts.1) (split_once-None c.args.separator c.args.text.now (none_found c.args.separator c.args.text.now c.in-None.ensures)))

pub returns-in-None-clause-first : goal.returns-in-None-clause-first
returns-in-None-clause-first c =
    list_any-without c.args.separator c.args.text.now (none_found c.args.separator c.args.text.now c.in-None.ensures)
