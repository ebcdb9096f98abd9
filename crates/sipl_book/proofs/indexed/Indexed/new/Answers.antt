use Rattle.std.proofs.Common.{None, List, sym, subst}
use Rattle.sipl_evidence.specs.Dependents.{Dependent}
use Rattle.sipl_book.specs.Entries.{EntryState}
use Rattle.sipl_book.specs.Indexed.{IsIndexOf}
use Rattle.sipl_book.proofs.Indexing.{IsIndexOf-nil}
use Rattle.sipl_book.proofs.indexed.Indexed.new.Goals as goal

pub invariant_of-result : goal.invariant_of-result
invariant_of-result c =
    subst (λ (p : List EntryState × List Dependent). IsIndexOf p.0 None p.1)
    (λ i. (sym c.new.ensures i, sym c.new-2.ensures.pairs i)) IsIndexOf-nil
