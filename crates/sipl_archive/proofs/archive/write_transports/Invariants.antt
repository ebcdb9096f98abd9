use Rattle.std.proofs.Common.{◌≡◌, ◌++◌, codes, take}
use Rattle.std.specs.List.{flat_map}
use Rattle.sipl_choice.specs.Transports.{transport_text}
use Rattle.sipl_archive.specs.Archive.{quoted}
use Rattle.sipl_archive.proofs.archive.write_transports.Given as goal

-- the names so far, each after a comma
abbrev pub invariant-loop-other : goal.invariant-loop-other
invariant-loop-other l =
    l.out.items ≡ l.initial.out.items ++ flat_map (λ other. codes ", " ++ quoted (transport_text other)) (take l.other-index l.others)
