-- How many servers and addresses a layout has.
use Rattle.std.specs.Prelude.{ℕ, ◌≤◌, List, length}
use Rattle.std.specs.List.{All}
use Rattle.sipl_plans.specs.declared.answer.Answer.{Answer}
use Rattle.sipl_plans.specs.declared.answer.Answer.TheVariants.{Targets, None}
use Rattle.sipl_plans.specs.declared.layout.Layout.{Layout}
use Rattle.sipl_plans.specs.declared.layout.Layout.TheVariants.{Refused, Servers}
use Rattle.sipl_plans.specs.declared.layout.Source.{Source}

-- at most 32 servers, as many as a set has records, each with at most 64 addresses, 32 of each family
pub record AreFew (sources : List Source) : Type 0 where
  pub servers : length sources ≤ 32
  pub addresses : All (λ server. length server.addresses ≤ 64) sources

-- whether a layout's servers and their addresses are few
abbrev pub HasFewServers : Layout → Type 0
HasFewServers (Refused reason) = Unit {0}
HasFewServers (Servers transport servers) = AreFew servers

-- how many targets there are
abbrev pub target_count : Answer → ℕ
target_count (Targets targets) = length targets
target_count (None reason) = 0
