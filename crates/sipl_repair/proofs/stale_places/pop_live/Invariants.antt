use Rattle.std.proofs.Common.{◌≡◌, ℕ, ◌≤◌, length}
use Rattle.std.specs.VecDeque.{deque_capacity}
use Rattle.indexmap.specs.IndexMap.{index_map_len, spare}
use Rattle.sipl_repair.specs.StalePlaces.{stale_count, live, AreCounted}
use Rattle.sipl_repair.proofs.stale_places.pop_live.Given as goal

abbrev pub invariant-loop-id : goal.invariant-loop-id
invariant-loop-id l = record {
  same_live : live l.fn.places.items (stale_count l.fn.stale) ≡ live l.places.items (stale_count l.stale);
  counted : AreCounted l.places.items (stale_count l.stale);
  fewer : (id : ℕ) → stale_count l.stale id ≤ stale_count l.fn.stale id;
  len : length l.places.items ≤ length l.fn.places.items;
  places_capacity : deque_capacity l.places ≡ deque_capacity l.fn.places;
  stale_len : index_map_len l.stale ≡ index_map_len l.fn.stale;
  stale_spare : spare l.stale ≡ spare l.fn.stale;
}

abbrev pub decreases-loop-id : goal.decreases-loop-id
decreases-loop-id l = length l.places.items
