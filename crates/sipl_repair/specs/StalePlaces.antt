-- The places of queued ids, of which those of forgotten ids are stale.
use Rattle.std.specs.Prelude.{◌≡◌, ℕ, ◌+◌, ◌-◌, ◌≤◌, ◌==◌, nat_eq, nat_lt, if◌then◌else◌, List, [], ◌∷◌}
use Rattle.std.specs.List.{count_by}
use Rattle.std.specs.Option.{unwrap_or}
use Rattle.std.specs.VecDeque.{deque_capacity}
use Rattle.std.specs.declared.collections.VecDeque.{VecDeque}
use Rattle.indexmap.specs.IndexMap.{IndexMap, get, index_map_len, spare}

-- how many places of an id are stale, by a table
abbrev pub stale_count : {S : Type 0} → IndexMap ℕ ℕ S → ℕ → ℕ
stale_count table id = unwrap_or (get nat_eq table id) 0

-- the counts with one more for an id
abbrev pub one_more : (ℕ → ℕ) → ℕ → ℕ → ℕ
one_more stale id k = if k == id then stale k + 1 else stale k

-- the counts with one less for an id
abbrev pub one_less : (ℕ → ℕ) → ℕ → ℕ → ℕ
one_less stale id k = if k == id then stale k - 1 else stale k

-- the ids of the live places, in order: the first places of each id are stale, as many as its count says
abbrev pub live : List ℕ → (ℕ → ℕ) → List ℕ
live [] stale = []
live (id ∷ places) stale =
    if nat_lt 0 (stale id)
    then live places (one_less stale id)
    else id ∷ live places stale

-- each id has at least as many places as are stale
abbrev pub AreCounted : List ℕ → (ℕ → ℕ) → Type 0
AreCounted places stale = (id : ℕ) → stale id ≤ count_by (nat_eq id) places

-- after stale places are dropped the others are counted, by counts that are no greater, and the deque and the
-- table keep their capacities
pub record DropsPlaces {A S : Type 0} (places : VecDeque ℕ A) (stale : IndexMap ℕ ℕ S) (places_left : VecDeque ℕ A) (stale_left : IndexMap ℕ ℕ S) : Type 0 where
  pub counted : AreCounted places_left.items (stale_count stale_left)
  pub fewer : (id : ℕ) → stale_count stale_left id ≤ stale_count stale id
  pub places_capacity : deque_capacity places_left ≡ deque_capacity places
  pub stale_capacity : index_map_len stale + spare stale ≤ index_map_len stale_left + spare stale_left
