-- A service.
use Rattle.std.specs.Prelude.{ℕ}
use Rattle.sipl_choice.specs.Abilities.{Client}
use Rattle.sipl_outages.specs.declared.held.Held.{Held}

-- what callers see of a service: the client's abilities, the policy on held endpoints, and how often
-- a lookup tries to commit
pub record ServiceState : Type 0 where
  pub client : Client
  pub held : Held
  pub tries : ℕ
