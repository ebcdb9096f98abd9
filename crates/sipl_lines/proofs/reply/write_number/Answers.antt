use Rattle.std.proofs.Common.{[], ◌∷◌, ◌++◌, ◌+◌, List, ℕ, ap, sym, ◌∙◌, append_assoc, arith}
use Rattle.std.proofs.lemmas.Fmt.{decimal_digit}
use Rattle.sipl_lines.proofs.reply.write_number.Goals as goal

pub returns-then-number-lt10-clause-ok : goal.returns-then-number-lt10-clause-ok
returns-then-number-lt10-clause-ok c =
    c.push_reserved-then-number-lt10.ensures.items ∙ ap (λ (text : List ℕ). text ++ (48 + c.args.number) ∷ []) c.push_reserved.ensures.items
    ∙ append_assoc c.args.out.now.items (32 ∷ []) ((48 + c.args.number) ∷ [])
    ∙ ap (λ (digits : List ℕ). c.args.out.now.items ++ 32 ∷ digits) (sym (decimal_digit c.args.number (omega arith)))
