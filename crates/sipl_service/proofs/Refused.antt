-- Why a page is not claimed.
use Rattle.std.proofs.Common.{◌≡◌, ◌≢◌, ℕ, List, [], ◌∷◌, Option, refl, ap, subst, ◌∙◌}
use Rattle.sipl_book.specs.Pages.{PageState, next_of}
use Rattle.sipl_service.specs.Ledgers.{Accepts, FollowsLast, IsNoUnionAfter, IsRefusal, LedgerState, next_after}
use Rattle.sipl_service.specs.Receipts.{due}
use Rattle.sipl_service.specs.declared.fault.ClaimFault.{ClaimFault}
use Rattle.sipl_service.specs.declared.fault.ClaimFault.TheVariants.{Gap, NotOurs, Doubled, Unclaimed, Memory}
use Rattle.sipl_service.specs.declared.ledger.Last.{Last}
use Rattle.sipl_service.specs.declared.receipt.Receipt.{Receipt}
use Rattle.sipl_service.proofs.Runs.{next_le}
use Rattle.sipl_service.proofs.Waiting.{refutes-after}

is_refusal : (ledger : LedgerState) (page : PageState) (fault : ClaimFault) → FollowsLast ledger.last page
    → (fault ≢ Memory → IsNoUnionAfter (next_after ledger.last) (page ∷ []) (due (next_of page) ledger.waiting) fault) → IsRefusal ledger page fault
is_refusal ledger page (Gap n) follows cause = absurd (cause (λ e. cc))
is_refusal ledger page (NotOurs n) follows cause = (follows, cause (λ e. cc))
is_refusal ledger page (Doubled n) follows cause = (follows, cause (λ e. cc))
is_refusal ledger page (Unclaimed n) follows cause = (follows, cause (λ e. cc))
is_refusal ledger page Memory follows cause = follows

pub not_accepted : (ledger : LedgerState) (page : PageState) (fault : ClaimFault) → IsRefusal ledger page fault → fault ≢ Memory → Accepts ledger page → ⊥
not_accepted ledger page (Gap n) why ample ok = why.1 ok.follows
not_accepted ledger page (NotOurs n) why ample ok = refutes-after (next_after ledger.last) (page ∷ []) (due (next_of page) ledger.waiting) (NotOurs n) (next_le ledger.last page ok.follows) why.1 ok.union
not_accepted ledger page (Doubled n) why ample ok = refutes-after (next_after ledger.last) (page ∷ []) (due (next_of page) ledger.waiting) (Doubled n) (next_le ledger.last page ok.follows) why.1 ok.union
not_accepted ledger page (Unclaimed n) why ample ok = refutes-after (next_after ledger.last) (page ∷ []) (due (next_of page) ledger.waiting) (Unclaimed n) (next_le ledger.last page ok.follows) why.1 ok.union
not_accepted ledger page Memory why ample ok = ample refl

module _ (ledger : LedgerState) (page : PageState) (pages : List PageState) (last : Option Last) (waiting seen : List Receipt) (end : ℕ)
    (is : record { last = last; waiting = waiting } ≡ ledger) (one : pages ≡ page ∷ []) (same : seen ≡ waiting) (past : end ≡ next_of page) (follows : FollowsLast last page) where
  -- what was found of the receipts that wait is so of the ledger's
  pub refused-at : (next : ℕ) (fault : ClaimFault) → next ≡ next_after ledger.last
      → (fault ≢ Memory → IsNoUnionAfter next pages (due end seen) fault) → IsRefusal ledger page fault
  refused-at next fault from cause =
      is_refusal ledger page fault (subst (λ (l : LedgerState). FollowsLast l.last page) is follows)
      (λ ample.
      subst (λ n. IsNoUnionAfter n (page ∷ []) (due (next_of page) ledger.waiting) fault) from
      (subst (λ e. IsNoUnionAfter next (page ∷ []) (due e ledger.waiting) fault) past
      (subst (λ ps. IsNoUnionAfter next ps (due end ledger.waiting) fault) one
      (subst (λ ws. IsNoUnionAfter next pages (due end ws) fault) (same ∙ ap (λ (l : LedgerState). l.waiting) is) (cause ample)))))
