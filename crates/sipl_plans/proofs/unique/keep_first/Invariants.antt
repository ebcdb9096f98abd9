use Rattle.std.proofs.Common.{◌≡◌, ◌≤◌, length, take, drop}
use Rattle.sipl_records.specs.Unique.{unique}
use Rattle.sipl_choice.specs.Endpoints.{same_endpoint}
use Rattle.sipl_plans.proofs.unique.keep_first.Given as goal

-- the kept ones are those before this place, each once, and from this place on all are as they were
abbrev pub invariant-loop-place : goal.invariant-loop-place
invariant-loop-place l = record {
  kept : take l.kept l.endpoints.items ≡ unique same_endpoint (take l.place l.fn.endpoints.items);
  rest : drop l.place l.endpoints.items ≡ drop l.place l.fn.endpoints.items;
  len : length l.endpoints.items ≡ length l.fn.endpoints.items;
  within : l.kept ≤ l.place;
}
