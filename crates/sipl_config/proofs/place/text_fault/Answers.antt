use Rattle.std.proofs.Common.{ap, inr, is_some}
use Rattle.sipl_config.proofs.Results.{if_ok}
use Rattle.sipl_config.proofs.place.text_fault.Goals as goal

pub returns-in_default : goal.returns-in_default
returns-in_default c =
    if_ok c.format.result (λ told text. inr (ap is_some c.in_default.ensures.ok, text)) c.format.ensures.ok
