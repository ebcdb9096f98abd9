use Rattle.std.proofs.Common.{◌≡◌, suc, None, Some, length}
use Rattle.std.specs.Option.{option_copied}
use Rattle.sipl_uri.specs.UriParts.{params_in}
use Rattle.sipl_uri.specs.Params.{no_settings, take_params}
use Rattle.sipl_uri.proofs.params.read_params.Given as goal

abbrev pub invariant-loop-rest : goal.invariant-loop-rest
invariant-loop-rest l =
    take_params (params_in (Some l.text)) no_settings ≡ take_params (params_in (option_copied l.rest)) l.settings

abbrev pub decreases-loop-rest : goal.decreases-loop-rest
decreases-loop-rest l = elim l.rest [ None ↦ 0 | Some text ↦ suc (length text.now) ]
