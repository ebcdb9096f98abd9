use Rattle.std.proofs.Common.{◌≡◌, ◌∷◌, ◌++◌, codes, ap, refl, ◌∙◌, append_assoc}
use Rattle.sipl_masterfile.specs.Tokens.{tokens, comment}
use Rattle.sipl_masterfile.proofs.Cutting.{tokens-cut, tokens-after_comment, ends_token-line, after_blank}
use Rattle.sipl_masterfile.proofs.Joining.{entries-without}
use Rattle.sipl_masterfile.proofs.laws.comments_change_nothing.Goals as goal

pub returns : goal.returns
returns c = λ before text after allows plain stop.
    let whole : before ++ codes ";" ++ text ++ after ≡ before ++ 59 ∷ (text ++ after) = append_assoc (before ++ codes ";") text after ∙ append_assoc before (codes ";") (text ++ after) in
    entries-without _ _ (tokens 0 before) (tokens 0 after)
    (ap (tokens 0) whole ∙ tokens-cut before (59 ∷ (text ++ after)) 0 allows refl ∙ ap (λ others. tokens 0 before ++ comment ∷ others) (tokens-after_comment text after plain stop))
    (tokens-cut before after 0 allows (ends_token-line after stop))
    (after_blank after stop)
