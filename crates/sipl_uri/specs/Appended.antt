-- What a writer leaves that fails.
use Rattle.std.specs.Prelude.{◌≡◌, ◌++◌}
use Rattle.sipl_names.specs.Labels.{Octets}

-- octets were appended, and what was there is as it was
abbrev pub IsAppended : Octets → Octets → Type 0
IsAppended old new = (written : Octets) × (new ≡ old ++ written)
