use Rattle.std.proofs.Common.{◌≡◌, ap}
use Rattle.sipl_records.specs.Sets.{same_key}
use Rattle.sipl_records.specs.Unique.{unique}
use Rattle.sipl_evidence.specs.Looks.{asked}
use Rattle.sipl_evidence.proofs.Public.{result_of-alike, asked-alike}
use Rattle.sipl_plans.specs.Route.{asking_route}
use Rattle.sipl_plans.proofs.Unread.{All-from_unique}
use Rattle.sipl_plans.proofs.laws.equal_sets_give_equal_routes.Goals as goal

pub returns : goal.returns
returns c = record {
  route = λ question client look other alike. let asking = asking_route question client in result_of-alike look other asking (All-from_unique (λ k. look k ≡ other k) (asked look asking) alike);
  reads = λ question client look other alike. let asking = asking_route question client in ap (unique same_key) (asked-alike look other asking (All-from_unique (λ k. look k ≡ other k) (asked look asking) alike));
}
