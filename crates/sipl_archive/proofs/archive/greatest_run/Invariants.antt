use Rattle.std.proofs.Common.{◌≡◌, map, max, take}
use Rattle.std.specs.List.{fold}
use Rattle.std.specs.String.{string_bytes}
use Rattle.sipl_archive.specs.Archive.{run_named}
use Rattle.sipl_archive.proofs.archive.greatest_run.Given as goal

-- the greatest run in the names so far
abbrev pub invariant-loop-name : goal.invariant-loop-name
invariant-loop-name l =
    l.last ≡ fold (λ last name. max (run_named name) last) 0 (map (λ name. string_bytes name) (take l.name-index l.names))
