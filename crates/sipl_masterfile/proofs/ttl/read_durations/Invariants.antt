use Rattle.std.proofs.Common.{◌≡◌, ◌+◌, ◌≤◌, length, option_map}
use Rattle.sipl_masterfile.specs.Ttl.{durations, sum_of}
use Rattle.sipl_masterfile.proofs.ttl.read_durations.Given as goal

abbrev pub invariant-loop-rest : goal.invariant-loop-rest
invariant-loop-rest l = record {
  sum : sum_of (durations l.text) ≡ option_map (λ more. l.sum + more) (sum_of (durations l.rest));
  small : l.sum ≤ 2147483647;
}

abbrev pub decreases-loop-rest : goal.decreases-loop-rest
decreases-loop-rest l = length l.rest
