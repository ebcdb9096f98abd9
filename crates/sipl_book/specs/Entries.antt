-- The entries of a book: for each of some questions a finding, current or outdated.
use Rattle.std.specs.Prelude.{ℕ, Bool, true, false, not, ◌&&◌, List, [], ◌∷◌, ◌++◌, length, map, find, nat_lt, if◌then◌else◌, Option, None, Some}
use Rattle.std.specs.Option.{is_some}
use Rattle.std.specs.List.{list_any}
use Rattle.sipl_records.specs.declared.record.Key.{Key}
use Rattle.sipl_evidence.specs.Known.{is_unknown}
use Rattle.sipl_book.specs.Questions.{same_question}
use Rattle.sipl_uri.specs.declared.question.Question.{Question}
use Rattle.sipl_plans.specs.Findings.{Found}

-- what callers see of an entry: the number of the event that made it, whether it is current, and
-- its finding
pub record EntryState : Type 0 where
  pub id : ℕ
  pub is_current : Bool
  pub found : Found

-- whether an entry is of this question
abbrev pub is_of : Question → EntryState → Bool
is_of question entry = same_question entry.found.question question

-- the entry of a question, if there is one
abbrev pub entry_of : List EntryState → Question → Option EntryState
entry_of entries question = find (is_of question) entries

-- whether a question has a current entry
abbrev pub has_current_entry : List EntryState → Question → Bool
has_current_entry entries question = elim (entry_of entries question) [ Some e ↦ e.is_current | None ↦ false ]

-- whether one of the keys is in an entry's evidence
abbrev pub depends_on : List Key → EntryState → Bool
depends_on keys entry = list_any (λ k. not (is_unknown entry.found.items k)) keys

-- an entry after the sets of these keys changed: it is outdated with one of them in its evidence
abbrev pub after_change : List Key → EntryState → EntryState
after_change keys entry =
    record {
      id = entry.id;
      is_current = entry.is_current && not (depends_on keys entry);
      found = entry.found;
    }

-- an entry after a commit: that of the finding's question has the finding, and is current
abbrev pub renewed : Found → EntryState → EntryState
renewed found entry =
    if is_of found.question entry
    then record { id = entry.id; is_current = true; found = found } else entry

-- the entries after the commit of a finding with this number, up to a maximum: the
-- question's entry is renewed, or else a new one is last; where all places are taken there is none
abbrev pub committed : Found → ℕ → ℕ → List EntryState → List EntryState
committed found number max_entries entries =
    if is_some (entry_of entries found.question) then map (renewed found) entries
    else (if nat_lt (length entries) max_entries
    then entries ++ record { id = number; is_current = true; found = found } ∷ [] else entries)
