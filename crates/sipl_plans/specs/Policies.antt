-- Answers under the policies on held endpoints (RFC 3263, 4.3).
use Rattle.std.specs.Prelude.{◌≡◌, false, List, ◌++◌, IsPermutation}
use Rattle.sipl_choice.specs.declared.endpoint.Endpoint.{Endpoint}
use Rattle.sipl_outages.specs.Holds.{Holds, is_held}
use Rattle.sipl_plans.specs.declared.answer.Answer.{Answer}
use Rattle.sipl_plans.specs.declared.answer.Answer.TheVariants.{Targets, None}

-- no endpoint is held
abbrev pub HoldsNone : Holds → Type 0
HoldsNone holds = (endpoint : Endpoint) → is_held holds endpoint ≡ false

-- the second answer has the same targets, each as often, in some order; or the same reason for none
abbrev pub HasTargetsOf : Answer → Answer → Type 0
HasTargetsOf (Targets targets) other =
    (reordered : List Endpoint) × (other ≡ Targets reordered) × IsPermutation targets reordered
HasTargetsOf (None reason) other = other ≡ None reason

-- the answer's first targets are these, in their order
abbrev pub BeginsWith : List Endpoint → Answer → Type 0
BeginsWith targets answer = (others : List Endpoint) × (answer ≡ Targets (targets ++ others))
