-- The table of a book's entries.
use Rattle.std.specs.Prelude.{◌≡◌, List}
use Rattle.std.specs.List.{All, IsDistinct}
use Rattle.std.specs.Map.{keys_of}
use Rattle.sipl_book.specs.Questions.{same_question}
use Rattle.sipl_uri.specs.declared.question.Question.{Question}
use Rattle.sipl_book.specs.Entries.{EntryState}

-- each entry is at its finding's question, and no question is there twice
pub record IsTable (entries : List (Question × EntryState)) : Type 0 where
  pub keyed : All (λ e. e.1.found.question ≡ e.0) entries
  pub distinct : IsDistinct same_question (keys_of entries)
