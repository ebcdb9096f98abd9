use Rattle.std.proofs.Common.{◌≡◌, false, ◌+◌, drop}
use Rattle.std.specs.Option.{option_map}
use Rattle.sipl_masterfile.specs.Tokens.{quoted_len}
use Rattle.sipl_masterfile.proofs.tokens.quoted_len.Given as goal

abbrev pub invariant-loop-len : goal.invariant-loop-len
invariant-loop-len l = quoted_len false l.text ≡ option_map (λ n. l.len + n) (quoted_len l.is_escaped (drop l.len l.text))
