use Rattle.std.proofs.Common.{◌≡◌, length}
use Rattle.sipl_lines.specs.Tapped.{tapped_inner, has_failed}
use Rattle.sipl_lines.proofs.Turning.{SentTo}
use Rattle.sipl_lines.proofs.server.send.Given as goal

abbrev pub invariant-loop-rest : goal.invariant-loop-rest
invariant-loop-rest g l =
    SentTo (g.W.Write.contents (tapped_inner l.fn.writer)) l.text (g.W.Write.contents (tapped_inner l.writer)) l.rest
    × (has_failed l.writer ≡ has_failed l.fn.writer)

abbrev pub decreases-loop-rest : goal.decreases-loop-rest
decreases-loop-rest g l = length l.rest
