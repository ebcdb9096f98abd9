-- Versions of record sets, which threads share.
use Rattle.std.specs.Prelude.{◌≢◌}
use Rattle.sipl_evidence.specs.Items.{Item}
use Rattle.sipl_plans.specs.Runs.{IsSet}

-- a set as it can be read, which is not empty: its data are of its key's kind, and its number is not 0
pub record IsVersion (item : Item) : Type 0 where
  pub set : IsSet item.key item.number item.content
  pub number : item.number ≢ 0
