-- How a session ends.
use Rattle.std.specs.Prelude.{Result, Ok, Err}
use Rattle.sipl_lines.specs.declared.server.Ended.{Ended}
use Rattle.sipl_lines.specs.declared.server.Ended.TheVariants.{Quit, EndOfInput}

-- a fact, where the input has no more
abbrev pub OnEndOfInput : {E : Type 0} → Result Ended E → Type 0 → Type 0
OnEndOfInput (Ok Quit) fact = Unit {0}
OnEndOfInput (Ok EndOfInput) fact = fact
OnEndOfInput (Err fault) fact = Unit {0}
