-- The source of synthesis of a name (RFC 4592, 3.3.1).
use Rattle.std.specs.Prelude.{◌≡◌, List, [], Option, None, Some}
use Rattle.sipl_names.specs.Labels.{Labels, wildcard_at}
use Rattle.sipl_records.specs.declared.data.Data.{Data}
use Rattle.sipl_evidence.specs.Answers.{max_ancestors, unless_exists}
use Rattle.sipl_evidence.specs.Looks.{Look, Asking, result_of}

-- this is the wildcard from which the data of a name are synthesized, or there is none: whatever is
-- asked for at the wildcard of the closest encloser, unless the name exists, is asked for at this one
abbrev pub IsSourceOfSynthesis : Look → Labels → Option Labels → Type 0
IsSourceOfSynthesis look name source =
    (next : Labels → Asking (List Data))
    → result_of look (unless_exists max_ancestors name (λ encloser. next (wildcard_at encloser)))
    ≡ elim source [ Some wildcard ↦ result_of look (next wildcard) | None ↦ [] ]
