-- What holds after any calls of a ledger.
use Rattle.std.specs.Prelude.{◌≡◌, ◌<◌, ◌≤◌, ℕ, List, [], ◌∷◌, ◌++◌, None}
use Rattle.std.specs.List.{All}
use Rattle.sipl_book.specs.Machine.{IsLegal, empty_state}
use Rattle.sipl_book.specs.Pages.{AreInOrder, PageState, events_in, next_of}
use Rattle.sipl_service.specs.Claims.{IsUnion}
use Rattle.sipl_service.specs.Ledgers.{Accepts, Call, IsRun, LedgerState, added_of, new_ledger, next_after, pages_of, since_claim, until_claim}
use Rattle.sipl_service.specs.Receipts.{due, later, with_number}
use Rattle.sipl_service.specs.declared.receipt.Receipt.{Receipt}

-- pages follow one another, and their events, joined, are legal from the empty state, for the client
-- and policy of each
pub record AreFollowing (pages : List PageState) : Type 0 where
  pub follow : AreInOrder None pages
  pub legal : All (λ page. IsLegal page.client page.held (events_in pages) empty_state) pages

abbrev pub PagesFollow : Type 0
PagesFollow = (calls : List Call) (ledger : LedgerState) → IsRun new_ledger calls ledger
    → AreFollowing (pages_of calls)

-- of the receipts that were added before the last claim, those with numbers below the next are the
-- pages' events; all others wait, and so do those that were added since
pub record AreClaimed (ledger : LedgerState) (pages : List PageState) (before since : List Receipt)
    : Type 0 where
  pub union : IsUnion pages (due (next_after ledger.last) before)
  pub waiting : ledger.waiting ≡ later (next_after ledger.last) before ++ since

abbrev pub EventsAreReceipts : Type 0
EventsAreReceipts = (calls : List Call) (ledger : LedgerState) → IsRun new_ledger calls ledger
    → AreClaimed ledger (pages_of calls) (until_claim [] [] calls) (since_claim [] calls)

-- where no receipt that waits came too late, these are all that were added with numbers below the next
abbrev pub EventsAreThoseBelow : Type 0
EventsAreThoseBelow = (calls : List Call) (ledger : LedgerState) → IsRun new_ledger calls ledger
    → All (λ receipt. next_after ledger.last ≤ receipt.number) ledger.waiting
    → IsUnion (pages_of calls) (due (next_after ledger.last) (added_of calls))

-- what `claim` accepts
pub record IsClaim (pages : List PageState) (receipts : List Receipt) : Type 0 where
  pub follow : AreInOrder None pages
  pub union : IsUnion pages receipts

abbrev pub ClaimsAreTheClaim : Type 0
ClaimsAreTheClaim = (calls : List Call) (ledger : LedgerState) → IsRun new_ledger calls ledger
    → ledger.waiting ≡ [] → IsClaim (pages_of calls) (added_of calls)

-- the receipts with numbers below an end are the same in both, in whatever order
abbrev pub AreSameBelow : ℕ → List Receipt → List Receipt → Type 0
AreSameBelow end some all = (n : ℕ) → n < end → with_number n some ≡ with_number n all

abbrev pub AcceptsWhatIsWhole : Type 0
AcceptsWhatIsWhole = (pages rest : List PageState) (page : PageState) (receipts : List Receipt)
    → IsClaim (pages ++ page ∷ rest) receipts
    → (calls : List Call) (ledger : LedgerState) → IsRun new_ledger calls ledger
    → pages_of calls ≡ pages → AreSameBelow (next_of page) (added_of calls) receipts
    → Accepts ledger page

abbrev pub NoneWaits : Type 0
NoneWaits = (pages : List PageState) (receipts : List Receipt) → IsClaim pages receipts
    → (calls : List Call) (ledger : LedgerState) → IsRun new_ledger calls ledger
    → pages_of calls ≡ pages
    → ((n : ℕ) → with_number n (added_of calls) ≡ with_number n receipts) → ledger.waiting ≡ []
