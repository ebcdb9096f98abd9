-- How many numbers choose a record (RFC 2782, "Weight"): "larger weights should be given a
-- proportionately higher probability of being selected".
use Rattle.std.specs.Prelude.{ℕ, ◌+◌, Bool, false, List, Option, slice_get, count_by, nat_lt, ◌==◌}
use Rattle.std.specs.List.{range_with_len}
use Rattle.std.specs.Option.{option_map_or}
use Rattle.sipl_srv.specs.Order.{Rank, priority_at, of_priority, weightless_first, candidates, total_weight, chosen_place, all_places, ordered}

-- whether there is a place, and it is this one
abbrev pub is_place : ℕ → Option ℕ → Bool
is_place place found = option_map_or (λ other. other == place) found false

-- whether the place is the first of those that are chosen from
abbrev pub is_first_candidate : List Rank → List ℕ → ℕ → Bool
is_first_candidate ranks places place = is_place place (slice_get (candidates ranks places) 0)

-- of the words from 0 to the sum of the weights, how many choose a place
abbrev pub share : List Rank → List ℕ → ℕ → ℕ
share ranks places place =
    count_by (λ word. is_place place (chosen_place ranks places word))
    (range_with_len 0 (total_weight ranks (candidates ranks places) + 1))

-- all records of a priority, those of weight 0 first
abbrev pub group_of : List Rank → ℕ → List ℕ
group_of ranks priority = weightless_first ranks (of_priority ranks priority (all_places ranks))

-- how many records have a lesser priority, so how many words are taken before those of a priority
abbrev pub words_before : List Rank → ℕ → ℕ
words_before ranks priority =
    count_by (λ place. nat_lt (priority_at ranks place) priority) (all_places ranks)

-- which of the records of a priority is first in the order
abbrev pub first_of_priority : List Rank → List ℕ → ℕ → Option ℕ
first_of_priority ranks words priority =
    slice_get (of_priority ranks priority (ordered ranks words)) 0
