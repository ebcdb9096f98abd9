use Rattle.sipl_book.proofs.Honest.{read-after}
use Rattle.sipl_book.proofs.laws.what_was_read_outlasts_edits.Goals as goal

pub returns : goal.returns
returns c = λ edit old new done items changed was.
    read-after old.store new.store items (record { numbers = changed.numbers; next = changed.next }) was
