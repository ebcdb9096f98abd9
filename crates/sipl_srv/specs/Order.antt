-- The order in which a client tries the targets of SRV records (RFC 2782, "Priority", "Weight" and
-- "Usage rules"). A record is named by its place in a list, from 0.
use Rattle.std.specs.Prelude.{◌≢◌, ℕ, ◌+◌, ◌%◌, not, List, [], ◌∷◌, ◌++◌, length, filter, replicate, Option, None, Some, nat_le, ◌==◌, if◌then◌else◌}
use Rattle.std.specs.List.{slice_index_or, AllPairs, list_all, range_with_len, sum_by}
use Rattle.sipl_srv.specs.declared.pick.Pick.{Pick}

-- what the order depends on
pub record Rank : Type 0 where
  pub priority : ℕ
  pub weight : ℕ

-- the rank of a pick
abbrev pub rank_of : Pick → Rank
rank_of pick = record { priority = pick.priority; weight = pick.weight }

-- the rank at a place, and its parts
abbrev pub rank_at : List Rank → ℕ → Rank
rank_at ranks place = slice_index_or ranks place (record { priority = 0; weight = 0 })

abbrev pub priority_at : List Rank → ℕ → ℕ
priority_at ranks place = (rank_at ranks place).priority

abbrev pub weight_at : List Rank → ℕ → ℕ
weight_at ranks place = (rank_at ranks place).weight

-- "the lowest-numbered priority": the places of which none has a lesser priority, in their order
abbrev pub of_least_priority : List Rank → List ℕ → List ℕ
of_least_priority ranks places =
    filter (λ i. list_all (λ j. nat_le (priority_at ranks i) (priority_at ranks j)) places) places

-- the places of a priority
abbrev pub of_priority : List Rank → ℕ → List ℕ → List ℕ
of_priority ranks priority places = filter (λ i. priority_at ranks i == priority) places

-- the places of weight 0, and the others
abbrev pub weightless : List Rank → List ℕ → List ℕ
weightless ranks places = filter (λ i. weight_at ranks i == 0) places

abbrev pub weighted : List Rank → List ℕ → List ℕ
weighted ranks places = filter (λ i. not (weight_at ranks i == 0)) places

-- "all those with weight 0 are placed at the beginning of the list"
abbrev pub weightless_first : List Rank → List ℕ → List ℕ
weightless_first ranks places = weightless ranks places ++ weighted ranks places

-- the places that are chosen from: those of least priority, of weight 0 first
abbrev pub candidates : List Rank → List ℕ → List ℕ
candidates ranks places = weightless_first ranks (of_least_priority ranks places)

-- the sum of the weights
abbrev pub total_weight : List Rank → List ℕ → ℕ
total_weight ranks places = sum_by (weight_at ranks) places

-- the first place whose running sum of weights, which goes on from this sum, is at least the number
abbrev pub first_reaching : List Rank → ℕ → ℕ → List ℕ → Option ℕ
first_reaching ranks number sum [] = None
first_reaching ranks number sum (place ∷ places) =
    if nat_le number (sum + weight_at ranks place) then Some place
    else first_reaching ranks number (sum + weight_at ranks place) places

-- "choose a uniform random number between 0 and the sum computed (inclusive)": the number of a word
abbrev pub number_of_word : ℕ → ℕ → ℕ
number_of_word total word = word % (total + 1)

-- the place that a word chooses
abbrev pub chosen_place : List Rank → List ℕ → ℕ → Option ℕ
chosen_place ranks places word =
    let from = candidates ranks places in
    first_reaching ranks (number_of_word (total_weight ranks from) word) 0 from

-- the places without one
abbrev pub without : ℕ → List ℕ → List ℕ
without place places = filter (λ i. not (i == place)) places

-- "apply the described algorithm to the unordered SRV RRs to select the next": one word for each
abbrev pub order_of : List Rank → List ℕ → List ℕ → List ℕ
order_of ranks places [] = []
order_of ranks places (word ∷ words) =
    elim (chosen_place ranks places word) [
      | None ↦ []
      | Some place ↦ place ∷ order_of ranks (without place places) words
    ]

-- the places of all ranks
abbrev pub all_places : List Rank → List ℕ
all_places ranks = range_with_len 0 (length ranks)

-- the places of all ranks in the order that the words give; a word past their end is 0
abbrev pub ordered : List Rank → List ℕ → List ℕ
ordered ranks words = order_of ranks (all_places ranks) (words ++ replicate (length ranks) 0)

-- no place twice
abbrev pub AreDistinct : List ℕ → Type 0
AreDistinct places = AllPairs (λ x y. x ≢ y) places
