-- The answer that an entry keeps.
use Rattle.std.specs.Prelude.{◌≡◌, ℕ, List, Option, None, Some, length, map, slice_get, nat_le, if◌then◌else◌}
use Rattle.sipl_outages.specs.Holds.{Holds, no_holds}
use Rattle.sipl_outages.specs.declared.held.Held.{Held}
use Rattle.sipl_plans.specs.Plan.{draw, source_rank}
use Rattle.sipl_plans.specs.declared.answer.Answer.{Answer}
use Rattle.sipl_plans.specs.declared.layout.Layout.{Layout}
use Rattle.sipl_plans.specs.declared.layout.Layout.TheVariants.{Refused, Servers}
use Rattle.sipl_srv.specs.Order.{ordered}
use Rattle.sipl_uri.specs.declared.question.Question.{Question}
use Rattle.sipl_book.specs.Entries.{EntryState, entry_of}

-- the place of the server that is first in the order that the words give, of at most two servers: with
-- it the order is known
abbrev pub first_place : Layout → List ℕ → Option ℕ
first_place (Refused reason) words = None
first_place (Servers transport servers) words =
    if nat_le (length servers) 2 then slice_get (ordered (map source_rank servers) words) 0
    else None

-- where nothing is held, a layout has this answer for these random words and by both policies
abbrev pub IsDrawnFree : Layout → List ℕ → Answer → Type 0
IsDrawnFree layout words answer = (held : Held) → answer ≡ draw layout no_holds words held

-- what is kept at a place, if anything, is the answer for all random words that put this place first
abbrev pub AreKeptFor : Layout → List (Option Answer) → Type 0
AreKeptFor layout kept =
    (place : ℕ) (answer : Answer) → slice_get kept place ≡ Some (Some answer)
    → (words : List ℕ) → first_place layout words ≡ Some place → IsDrawnFree layout words answer

-- an answer is what the entry of a question draws, if there is one
abbrev pub IsDrawnOf : List EntryState → Question → List ℕ → Holds → Held → Answer → Type 0
IsDrawnOf entries question words holds held answer =
    (entry : EntryState) → entry_of entries question ≡ Some entry
    → answer ≡ draw entry.found.layout holds words held
