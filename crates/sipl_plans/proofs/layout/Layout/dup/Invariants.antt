use Rattle.std.proofs.Common.{◌≡◌, take}
use Rattle.sipl_plans.proofs.layout.Layout.dup.Given as goal

-- the copies of the servers before this one
abbrev pub invariant-loop-server : goal.invariant-loop-server
invariant-loop-server l = l.copy.items ≡ take l.server-index l.servers
