use Rattle.std.proofs.Common.{◌≡◌, ◌++◌}
use Rattle.sipl_archive.specs.Text.{hold_lines}
use Rattle.sipl_archive.proofs.state.write_holds.Given as goal

-- the lines so far, and those of the holds left, are those of all
abbrev pub invariant-loop-endpoint : goal.invariant-loop-endpoint
invariant-loop-endpoint l =
    l.out.items ++ hold_lines l.now l.endpoint-iterator ≡ l.initial.out.items ++ hold_lines l.now l.board.holds.ends
