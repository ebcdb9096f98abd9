-- What a ledger has, and what its calls do.
use Rattle.std.specs.Prelude.{◌≡◌, ◌<◌, ◌≤◌, ◌⊎◌, ℕ, List, [], ◌∷◌, ◌++◌, Option, None, Some}
use Rattle.sipl_book.specs.Pages.{Follows, IsPage, PageState, next_of}
use Rattle.sipl_service.specs.Claims.{IsFirst, IsNoUnion, IsUnion}
use Rattle.sipl_service.specs.Receipts.{due, later}
use Rattle.sipl_service.specs.declared.fault.ClaimFault.{ClaimFault}
use Rattle.sipl_service.specs.declared.fault.ClaimFault.TheVariants.{Gap, NotOurs, Doubled, Memory}
use Rattle.sipl_service.specs.declared.ledger.Last.{Last}
use Rattle.sipl_service.specs.declared.receipt.Receipt.{Receipt}

-- where the last claimed page ended, if there is one, and the receipts that wait, in the order of adding
pub record LedgerState : Type 0 where
  pub last : Option Last
  pub waiting : List Receipt

-- nothing was claimed, and no receipt waits
abbrev pub new_ledger : LedgerState
new_ledger = record { last = None; waiting = [] }

-- where a page ends: the next number, the state after it, its client and policy
abbrev pub last_of : PageState → Last
last_of page =
    record {
      next = next_of page;
      result = page.result;
      abilities = page.client;
      held = page.held;
    }

-- the number of the event after those that were claimed; at first 0
abbrev pub next_after : Option Last → ℕ
next_after None = 0
next_after (Some last) = last.next

-- a page goes on where the last one ended, for the same client and policy
pub record GoesOnAfter (last : Last) (page : PageState) : Type 0 where
  pub first : page.first ≡ last.next
  pub base : page.base ≡ last.result
  pub client : page.client ≡ last.abilities
  pub held : page.held ≡ last.held

-- a page follows the last one; the first begins at the empty state, with any number
abbrev pub FollowsLast : Option Last → PageState → Type 0
FollowsLast None page = Follows None page
FollowsLast (Some last) page = GoesOnAfter last page

-- a page is claimed where it follows what was claimed, and its events are the union of the receipts
-- that wait with numbers below its end
pub record Accepts (ledger : LedgerState) (page : PageState) : Type 0 where
  pub follows : FollowsLast ledger.last page
  pub union : IsUnion (page ∷ []) (due (next_of page) ledger.waiting)

-- a ledger to which receipts were added
abbrev pub with_added : LedgerState → List Receipt → LedgerState
with_added ledger receipts =
    record { last = ledger.last; waiting = ledger.waiting ++ receipts }

-- a ledger by which a page was claimed: the receipts with numbers below its end are dropped
abbrev pub with_claimed : LedgerState → PageState → LedgerState
with_claimed ledger page =
    record { last = Some (last_of page); waiting = later (next_of page) ledger.waiting }

-- a receipt of an event that was claimed, with those before it, which are part of the page's events
pub record IsLate (next : ℕ) (pages : List PageState) (receipts : List Receipt) (n : ℕ) : Type 0 where
  pub before : List Receipt
  pub receipt : Receipt
  pub at : IsFirst pages receipts before receipt
  pub number : receipt.number ≡ n
  pub claimed : n < next

-- why events are not the union of receipts, where those with numbers below the next were claimed: as
-- for `IsNoUnion`, but that a receipt of what was claimed is one too many
abbrev pub IsNoUnionAfter : ℕ → List PageState → List Receipt → ClaimFault → Type 0
IsNoUnionAfter next pages receipts (NotOurs n) = (next ≤ n) × IsNoUnion pages receipts (NotOurs n)
IsNoUnionAfter next pages receipts (Doubled n) =
    IsLate next pages receipts n ⊎ IsNoUnion pages receipts (Doubled n)
IsNoUnionAfter next pages receipts fault = IsNoUnion pages receipts fault

-- why a page is not claimed: it does not follow; or else why its events are not the union of the
-- receipts that wait with numbers below its end
abbrev pub IsRefusal : LedgerState → PageState → ClaimFault → Type 0
IsRefusal ledger page (Gap n) = (n ≡ page.first) × ¬ FollowsLast ledger.last page
IsRefusal ledger page Memory = FollowsLast ledger.last page
IsRefusal ledger page fault =
    FollowsLast ledger.last page
    × IsNoUnionAfter (next_after ledger.last) (page ∷ []) (due (next_of page) ledger.waiting) fault

-- an accepted call; a refused one changes nothing
pub data Call : Type 0 where
  Added : (receipts : List Receipt) → Call
  Claimed : (page : PageState) → Call

-- the accepted calls lead from a ledger to a ledger
abbrev pub IsRun : LedgerState → List Call → LedgerState → Type 0
IsRun old [] new = new ≡ old
IsRun old (Added receipts ∷ calls) new = IsRun (with_added old receipts) calls new
IsRun old (Claimed page ∷ calls) new =
    IsPage page × Accepts old page × IsRun (with_claimed old page) calls new

-- the claimed pages
abbrev pub pages_of : List Call → List PageState
pages_of [] = []
pages_of (Added receipts ∷ calls) = pages_of calls
pages_of (Claimed page ∷ calls) = page ∷ pages_of calls

-- the receipts that were added
abbrev pub added_of : List Call → List Receipt
added_of [] = []
added_of (Added receipts ∷ calls) = receipts ++ added_of calls
added_of (Claimed page ∷ calls) = added_of calls

-- the receipts that were added since the last claim, where these were added before the calls
abbrev pub since_claim : List Receipt → List Call → List Receipt
since_claim since [] = since
since_claim since (Added receipts ∷ calls) = since_claim (since ++ receipts) calls
since_claim since (Claimed page ∷ calls) = since_claim [] calls

-- the receipts that were added up to the last claim, where the first were added up to a claim before
-- the calls, and the second since
abbrev pub until_claim : List Receipt → List Receipt → List Call → List Receipt
until_claim before since [] = before
until_claim before since (Added receipts ∷ calls) = until_claim before (since ++ receipts) calls
until_claim before since (Claimed page ∷ calls) = until_claim (before ++ since) [] calls
