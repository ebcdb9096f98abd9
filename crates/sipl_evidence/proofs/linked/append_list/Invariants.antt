use Rattle.std.proofs.Common.{◌≡◌, ◌++◌}
use Rattle.std.specs.Prelude.{vec_capacity}
use Rattle.sipl_evidence.specs.Lists.{at}
use Rattle.sipl_evidence.proofs.Listing.{first_ids}
use Rattle.sipl_evidence.proofs.linked.append_list.Given as goal

abbrev pub invariant-loop-index : goal.invariant-loop-index
invariant-loop-index l = record {
  ids : l.ids.items ≡ l.fn.ids.items ++ first_ids (at l.by_code) l.code l.index;
  capacity : vec_capacity l.ids ≡ vec_capacity l.fn.ids;
}
