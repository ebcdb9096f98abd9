use Rattle.std.proofs.Common.{◌∷◌, ◌++◌, codes, ap, sym, ◌∙◌, append_assoc}
use Rattle.sipl_masterfile.specs.Tokens.{tokens}
use Rattle.sipl_masterfile.proofs.Quoting.{quoted-plain, unquoted-plain}
use Rattle.sipl_masterfile.proofs.laws.quotes_change_no_plain_field.Goals as goal

pub returns : goal.returns
returns c = λ octet octets after plain stop.
    ap (tokens 0) (append_assoc (codes "\"" ++ octet ∷ octets) (codes "\"") after) ∙ quoted-plain octet octets after plain ∙ sym (unquoted-plain octet octets after plain stop)
