use Rattle.std.proofs.Common.{◌≡◌, take}
use Rattle.sipl_records.specs.Unique.{unique}
use Rattle.sipl_choice.specs.Endpoints.{same_endpoint}
use Rattle.sipl_plans.proofs.unique.table_of.Given as goal

-- the table has the endpoints before this place
abbrev pub invariant-loop-endpoint : goal.invariant-loop-endpoint
invariant-loop-endpoint l = l.table.keys ≡ unique same_endpoint (take l.endpoint-index l.endpoints)
