use Rattle.std.proofs.Common.{◌-◌, ap, ◌∙◌}
use Rattle.std.specs.List.{slice_get}
use Rattle.sipl_book.specs.Calls.{answer_event, board_event}
use Rattle.sipl_book.specs.declared.event.Event.TheVariants.{Change}
use Rattle.sipl_book.proofs.Joining.{place_of_number}
use Rattle.sipl_book.proofs.laws.numbers_are_places.Goals as goal

pub returns-clause-edits : goal.returns-clause-edits
returns-clause-edits c = λ edit old new done changed.
    ap (λ journal. slice_get journal (done.number - new.first)) changed.journal
    ∙ place_of_number old.journal (Change edit) old.first done.number new.first changed.first changed.number

pub returns-clause-holds : goal.returns-clause-holds
returns-clause-holds c = λ event old new number moved.
    ap (λ book. slice_get book.journal (number - new.first)) moved.after
    ∙ place_of_number old.journal (board_event event) old.first number new.first (ap (λ book. book.first) moved.after) moved.number

pub returns-clause-handed : goal.returns-clause-handed
returns-clause-handed c = λ question words old new handed is.
    ap (λ book. slice_get book.journal (handed.number - new.first)) is.after
    ∙ place_of_number old.journal (answer_event old question words) old.first handed.number new.first (ap (λ book. book.first) is.after) is.number
