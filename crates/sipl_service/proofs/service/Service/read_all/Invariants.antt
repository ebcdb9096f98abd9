use Rattle.std.proofs.Common.{◌≡◌, ◌-◌, length}
use Rattle.sipl_service.proofs.service.Service.read_all.Given as goal

abbrev pub invariant-loop-key : goal.invariant-loop-key
invariant-loop-key g l = record {
  question : l.run.question ≡ l.fn.run.question;
  client : l.run.client ≡ l.fn.run.client;
  reads : l.reads ≡ length l.run.items;
}

abbrev pub decreases-loop-key : goal.decreases-loop-key
decreases-loop-key g l = 80648 - length l.run.items
