use Rattle.std.proofs.Common.{◌≡◌, ◌≤◌, replicate, None, vec_len, vec_capacity}
use Rattle.sipl_interleave.proofs.workers.Workers.new.Given as goal

abbrev pub invariant-loop : goal.invariant-loop
invariant-loop l =
    record {
      workers : l.workers.items ≡ replicate l.counter None;
      len : vec_len l.workers ≡ l.counter;
      space : l.count ≤ vec_capacity l.workers;
    }
