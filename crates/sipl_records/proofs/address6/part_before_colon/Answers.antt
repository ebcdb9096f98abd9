use Rattle.std.proofs.Common.{◌≡◌, Some, ap, sym, ◌∙◌, ◌∷◌}
use Rattle.std.specs.Option.{option_copied}
use Rattle.sipl_records.specs.Parts.{parts, split_once}
use Rattle.sipl_records.proofs.Parts.{parts-Some, parts-None}
use Rattle.sipl_records.proofs.address6.part_before_colon.Goals as goal

pub returns-in_err-rest-clause-parts : goal.returns-in_err-rest-clause-parts
returns-in_err-rest-clause-parts c =
    rw c.from_residual.ensures (parts-None 58 c.args.text.now (sym c.split_once.ensures.after ∙ ap option_copied c.in_err-rest.was))

pub returns-clause-parts : goal.returns-clause-parts
returns-clause-parts c =
    let found : (split_once 58 c.args.text.now).1 ≡ Some c.in_ok-rest.field-0.now = sym c.split_once.ensures.after ∙ ap option_copied c.in_ok-rest.was in
    parts-Some 58 c.args.text.now c.in_ok-rest.field-0.now found ∙ ap (λ part. part ∷ parts 58 c.in_ok-rest.field-0.now) (sym c.split_once.ensures.before)
