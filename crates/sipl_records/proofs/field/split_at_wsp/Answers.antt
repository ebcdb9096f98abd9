use Rattle.std.proofs.Common.{◌≡◌, take, drop, ap, sym, ◌∙◌}
use Rattle.std.specs.List.{position_or_len}
use Rattle.sipl_records.specs.Fields.{is_wsp}
use Rattle.sipl_records.proofs.Fields.{before_wsp-is, from_wsp-is, position_or_len-found}
use Rattle.sipl_records.proofs.field.split_at_wsp.Goals as goal

end_is : (c : goal.After-split_at) → c.unwrap_or-end.result ≡ position_or_len is_wsp c.args.line.now
end_is c = c.unwrap_or-end.ensures ∙ position_or_len-found c.args.line.now c.memchr2.result c.memchr2.ensures

pub returns-clause-before : goal.returns-clause-before
returns-clause-before c = c.split_at.ensures.front ∙ (ap (λ n. take n c.args.line.now) (end_is c) ∙ sym (before_wsp-is c.args.line.now))

pub returns-clause-from : goal.returns-clause-from
returns-clause-from c = c.split_at.ensures.back ∙ (ap (λ n. drop n c.args.line.now) (end_is c) ∙ sym (from_wsp-is c.args.line.now))
