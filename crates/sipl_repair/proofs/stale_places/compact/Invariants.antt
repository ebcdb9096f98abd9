use Rattle.std.proofs.Common.{◌≡◌, ◌+◌, ◌-◌, ◌≤◌, ◌++◌, length, take, drop}
use Rattle.std.specs.VecDeque.{deque_capacity}
use Rattle.indexmap.specs.IndexMap.{index_map_len, spare}
use Rattle.sipl_repair.specs.StalePlaces.{stale_count, live}
use Rattle.sipl_repair.proofs.stale_places.compact.Given as goal

-- the places that are left are the first ones, and those after them are live
abbrev pub invariant-loop : goal.invariant-loop
invariant-loop l = record {
  same_live : drop (l.end - l.counter) l.places.items ++ live (take (l.end - l.counter) l.places.items) (stale_count l.stale) ≡ live l.fn.places.items (stale_count l.fn.stale);
  left : l.end - l.counter ≤ length l.places.items;
  places_capacity : deque_capacity l.places ≡ deque_capacity l.fn.places;
  stale_capacity : index_map_len l.stale + spare l.stale ≡ index_map_len l.fn.stale + spare l.fn.stale;
}
