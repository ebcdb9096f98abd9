use Rattle.std.proofs.Common.{◌≡◌, ◌∷◌, ◌++◌, decimal, take}
use Rattle.std.specs.List.{flat_map}
use Rattle.sipl_lines.proofs.command_text.write_draws.Given as goal

-- the words so far, each after a comma
abbrev pub invariant-loop-word : goal.invariant-loop-word
invariant-loop-word l =
    l.out.items ≡ l.initial.out.items ++ flat_map (λ other. 44 ∷ decimal other) (take l.word-index l.others)
