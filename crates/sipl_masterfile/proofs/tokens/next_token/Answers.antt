use Rattle.std.proofs.Common.{◌≡◌, ◌∷◌, ◌∙◌, ap, false, rules}
use Rattle.sipl_records.proofs.Public.{rest_whole}
use Rattle.sipl_masterfile.specs.Tokens.{ends_field}
use Rattle.sipl_masterfile.proofs.Scanning.{begins-comment, begins-field}
use Rattle.sipl_masterfile.proofs.tokens.next_token.Goals as goal

pub returns-in-59 : goal.returns-in-59
returns-in-59 c =
    let begins = begins-comment c.args.text.now c.in_ok-first.tail.now _ c.comment_len.result (c.in_ok-first.ensures.cases.0 ∙ ap (λ first. first ∷ c.in_ok-first.tail.now) c.in-59.is) c.comment_len.ensures.value (rest_whole c.in_ok-first.tail.now c.comment_len.result) in
    record { spells = begins.spells; shorter = begins.shorter }

pub returns-in_default : goal.returns-in_default
returns-in_default c =
    let other : ends_field c.in_ok-first.first.now ≡ false = search rules in
    let begins = begins-field c.args.text.now c.in_ok-first.tail.now c.split_at.result.0.now c.split_at.result.1.now c.in_ok-first.first.now c.field_len.result c.in_ok-first.ensures.cases.0 other c.field_len.ensures.value c.split_at.ensures.front c.split_at.ensures.back in
    record { spells = begins.spells; shorter = begins.shorter }
