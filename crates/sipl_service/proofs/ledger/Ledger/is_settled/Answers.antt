use Rattle.std.proofs.Common.{◌≡◌, [], ap, sym, ◌∙◌, length, nat_eq, rules}
use Rattle.std.proofs.lemmas.Bool.{true≢false}
use Rattle.sipl_service.specs.Ledgers.{LedgerState}
use Rattle.sipl_service.specs.Receipts.{all_receipts}
use Rattle.sipl_service.proofs.Handed.{none_there}
use Rattle.sipl_service.proofs.ledger.Ledger.is_settled.Goals as goal

pub returns-then-not-is_empty : goal.returns-then-not-is_empty
returns-then-not-is_empty c = (
  λ no. absurd (search rules),
  λ none.
      let empty : c.handed-item.result ≡ [] =
      none_there c.deref-handed-items.result.now c.loop-handed.handed-index c.handed-item.result c.loop-handed-test.true c.handed-item.is
      (ap all_receipts c.deref-handed-items.ensures.value ∙ ap (λ (l : LedgerState). l.waiting) c.self.view_is ∙ none) in
      absurd (true≢false (sym (c.is_empty.ensures ∙ ap (λ xs. nat_eq (length xs) 0) empty) ∙ c.if-not-is_empty.true)),
)
