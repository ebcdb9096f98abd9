use Rattle.sipl_tx.proofs.TimerE.{provisional_keeps, tick_keeps, resent_in_trying, resent_in_proceeding}
use Rattle.sipl_tx.proofs.laws.timer_e_runs_on_in_proceeding.Goals as goal

pub returns : goal.returns
returns c = record {
  provisional = provisional_keeps;
  running = tick_keeps;
  trying = resent_in_trying;
  proceeding = resent_in_proceeding;
}
