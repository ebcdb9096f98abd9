-- A zone whose lines are taken: its apex, and the text of those that were.
use Rattle.sipl_names.specs.Labels.{Octets, Labels}

-- the text is each line followed by LF
pub record ZoneLines : Type 0 where
  pub apex : Labels
  pub text : Octets
