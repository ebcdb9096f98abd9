use Rattle.std.proofs.Common.{◌≡◌, ◌++◌, length, drop}
use Rattle.std.specs.List.{flat_map}
use Rattle.std.specs.Str.{chars}
use Rattle.std.specs.String.{string_bytes}
use Rattle.sipl_log.specs.Lines.{glyph}
use Rattle.sipl_log.proofs.line.push_quoted.Given as goal

-- what is written and what is left are the whole
abbrev pub invariant-loop-c : goal.invariant-loop-c
invariant-loop-c l =
    string_bytes l.out ++ flat_map glyph (drop (length l.yielded) (chars l.value))
    ≡ string_bytes l.initial.out ++ flat_map glyph (chars l.value)
