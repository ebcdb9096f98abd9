use Rattle.std.proofs.Common.{◌≡◌, ◌<◌, ◌-◌, ◌^◌}
use Rattle.std.specs.Prelude.{vec_len}
use Rattle.sipl_lines.specs.Tapped.{tapped_inner, has_failed}
use Rattle.sipl_lines.proofs.Reading.{HasRead}
use Rattle.sipl_lines.proofs.check.read_all.Given as goal

abbrev pub invariant-loop-chunk : goal.invariant-loop-chunk
invariant-loop-chunk g l =
    HasRead (g.R.Read.remaining (tapped_inner l.fn.reader)) (g.R.Read.remaining (tapped_inner l.reader)) l.fn.text.items l.text.items
    × (has_failed l.reader ≡ has_failed l.fn.reader)
    × (0 < vec_len l.chunk)

abbrev pub decreases-loop-chunk : goal.decreases-loop-chunk
decreases-loop-chunk g l = 2 ^ 64 - vec_len l.text
