use Rattle.std.proofs.Common.{◌≡◌, ◌++◌, drop, map}
use Rattle.toml.specs.Data.{string}
use Rattle.toml.specs.View.{view}
use Rattle.sipl_config.proofs.rows.text_values.Given as goal

abbrev pub invariant-loop-text : goal.invariant-loop-text
invariant-loop-text l =
    map view l.values.items ++ map (λ text. string text.now) (drop l.text-index l.texts)
    ≡ map (λ text. string text.now) l.texts
