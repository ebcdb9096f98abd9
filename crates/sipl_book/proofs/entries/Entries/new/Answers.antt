use Rattle.std.proofs.Common.{sym, subst}
use Rattle.sipl_book.specs.EntryTable.{IsTable}
use Rattle.sipl_book.proofs.Table.{Rows, IsTable-nil}
use Rattle.sipl_book.proofs.entries.Entries.new.Goals as goal

pub invariant_of-result : goal.invariant_of-result
invariant_of-result c =
    subst (λ (es : Rows). IsTable es) (sym c.new.ensures.empty) IsTable-nil
