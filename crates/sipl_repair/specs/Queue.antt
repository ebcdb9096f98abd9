-- How the fields of a `Queue` represent its state.
use Rattle.std.specs.Prelude.{◌≡◌, ℕ, ◌+◌, ◌<◌, ◌≤◌, true, length}
use Rattle.std.specs.FinSet as set
use Rattle.std.specs.VecDeque.{deque_capacity}
use Rattle.indexmap.specs.IndexMap.{index_map_len, spare}
use Rattle.sipl_repair.specs.StalePlaces.{stale_count, live, AreCounted}
use Rattle.sipl_repair.specs.QueueState.{QueueState, IsConsistent, is_leased}
use Rattle.sipl_repair.specs.declared.queue.Queue.TheInside.{Inside}

-- the ids of the live places in order, and the set of the leased ones
abbrev pub state_of : Inside → QueueState
state_of q =
    record {
      queued = live q.places.items (stale_count q.stale);
      leased = q.leased.members;
      capacity = q.capacity;
    }

-- the set of queued ids has the ids of the live places, a leased id has no stale place, and each part has the
-- capacity: there are places for all ids that are not queued, and the table can count a stale place of one
-- more id
pub record IsValidQueue (q : Inside) : Type 0 where
  pub consistent : IsConsistent (state_of q)
  pub same_ids : q.queued.members ≡ set.from_list (state_of q).queued
  pub counted : AreCounted q.places.items (stale_count q.stale)
  pub leased_fresh : (id : ℕ) → is_leased (state_of q) id ≡ true → stale_count q.stale id ≡ 0
  pub places_fit : length q.places.items + q.capacity ≤ deque_capacity q.places + length (state_of q).queued
  pub places_capacity : q.capacity ≤ deque_capacity q.places
  pub stale_fits : 0 < q.capacity → 0 < spare q.stale
  pub stale_capacity : q.capacity ≤ index_map_len q.stale + spare q.stale
  pub queued_capacity : q.capacity ≤ q.queued.capacity
  pub leased_capacity : q.capacity ≤ q.leased.capacity
