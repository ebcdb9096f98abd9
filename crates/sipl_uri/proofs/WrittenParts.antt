-- Texts written in parts.
use Rattle.std.proofs.Common.{◌≡◌, ◌++◌, Result, Ok, Err, if◌then◌else◌, ◌∙◌, ap, append_assoc}
use Rattle.std.specs.Prelude.{OnOk}
use Rattle.std.specs.Result.{is_ok}
use Rattle.sipl_names.specs.Labels.{Octets}

-- two parts, the second where its write succeeds
pub second-Ok : {T E : Type 0} (r : Result T E) (old first second middle new : Octets) → middle ≡ old ++ first → new ≡ (if is_ok r then middle ++ second else middle) → OnOk r (new ≡ old ++ (first ++ second))
second-Ok (Ok x) old first second middle new e f = f ∙ ap (λ (t : Octets). t ++ second) e ∙ append_assoc old first second
second-Ok (Err x) old first second middle new e f = tt
