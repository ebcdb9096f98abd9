use Rattle.std.proofs.Common.{◌≡◌, ◌++◌, option_map, drop}
use Rattle.toml.specs.View.{items_view}
use Rattle.sipl_lines.specs.Values.{transports_named}
use Rattle.sipl_lines.proofs.settings.values.transports.Given as goal

abbrev pub invariant-loop-word : goal.invariant-loop-word
invariant-loop-word l =
    option_map (λ others. l.transports.items ++ others) (transports_named (items_view (drop l.word-index l.word-items)))
    ≡ transports_named (items_view l.word-items)
