use Rattle.std.proofs.Common.{◌≡◌, drop, map}
use Rattle.sipl_config.specs.Keys.{is_among}
use Rattle.sipl_config.proofs.keys.row_at.Given as goal

abbrev pub invariant-loop-row : goal.invariant-loop-row
invariant-loop-row l =
    is_among (map (λ row. row.key.now) (drop l.row-index l.rows)) l.key ≡ is_among (map (λ row. row.key.now) l.rows) l.key
