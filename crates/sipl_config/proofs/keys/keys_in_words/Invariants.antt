use Rattle.std.proofs.Common.{◌≡◌, ◌++◌, drop, map, string_bytes}
use Rattle.sipl_config.specs.Keys.{in_words}
use Rattle.sipl_config.proofs.keys.keys_in_words.Given as goal

abbrev pub invariant-loop-place : goal.invariant-loop-place
invariant-loop-place l =
    string_bytes l.told ++ in_words (map (λ row. row.key.now) (drop l.place l.rows)) ≡ in_words (map (λ row. row.key.now) l.rows)
