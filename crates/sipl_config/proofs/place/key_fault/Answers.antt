use Rattle.std.proofs.Common.{Some, None}
use Rattle.sipl_config.proofs.Results.{if_ok}
use Rattle.sipl_config.proofs.place.key_fault.Goals as goal

pub returns-in-Some : goal.returns-in-Some
returns-in-Some c = if_ok c.format.result (λ told text. (Some c.in-Some.line, text)) c.format.ensures.ok

pub returns-in-None : goal.returns-in-None
returns-in-None c = if_ok c.format-in-None.result (λ told text. (None, text)) c.format-in-None.ensures.ok
