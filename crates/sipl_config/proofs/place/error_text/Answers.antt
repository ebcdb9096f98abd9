use Rattle.std.proofs.Common.{inl}
use Rattle.sipl_config.proofs.Results.{if_ok}
use Rattle.sipl_config.proofs.place.error_text.Goals as goal

pub returns : goal.returns
returns c =
    if_ok c.format.result (λ told text. inl (c.place_of.result, c.message.result.now, rw (c.line_at-line.ensures, c.as_bytes.ensures.value) at text)) c.format.ensures.ok
