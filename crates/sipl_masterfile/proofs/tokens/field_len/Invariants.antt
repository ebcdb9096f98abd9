use Rattle.std.proofs.Common.{◌≡◌, ◌+◌, drop}
use Rattle.sipl_masterfile.specs.Tokens.{field_len}
use Rattle.sipl_masterfile.proofs.tokens.field_len.Given as goal

abbrev pub invariant-loop-len : goal.invariant-loop-len
invariant-loop-len l = field_len l.fn.is_escaped l.text ≡ l.len + field_len l.is_escaped (drop l.len l.text)
