-- When the events of pages are the union of receipts.
use Rattle.std.specs.Prelude.{◌≡◌, ◌≢◌, ◌<◌, ◌-◌, ℕ, Bool, true, false, List, [], ◌∷◌, ◌++◌, slice_get, Option, None, Some, nat_eq, nat_lt, if◌then◌else◌}
use Rattle.std.specs.List.{All, AllPairs, list_any}
use Rattle.sipl_book.specs.Machine.{IsLegal, replay}
use Rattle.sipl_book.specs.Pages.{AreInOrder, PageState, events_in}
use Rattle.sipl_book.specs.declared.event.Event.{Event}
use Rattle.sipl_service.specs.Gaps.{IsGap}
use Rattle.sipl_service.specs.declared.receipt.Receipt.{Receipt}
use Rattle.sipl_service.specs.declared.fault.ClaimFault.{ClaimFault}
use Rattle.sipl_service.specs.declared.fault.ClaimFault.TheVariants.{Gap, NotOurs, Doubled, Unclaimed, Memory}

-- the number of the first event of all pages; 0 where there is no page
abbrev pub first_in : List PageState → ℕ
first_in [] = 0
first_in (page ∷ pages) = page.first

-- the event of a number, where these events are numbered one by one from the first number on
abbrev pub event_in : ℕ → List Event → ℕ → Option Event
event_in first events n = if nat_lt n first then None else slice_get events (n - first)

-- the event of a number: those of all pages are numbered one by one
abbrev pub event_at : List PageState → ℕ → Option Event
event_at pages n = event_in (first_in pages) (events_in pages) n

-- the event of the receipt's number is the receipt's
abbrev pub IsOurs : List PageState → Receipt → Type 0
IsOurs pages receipt = event_at pages receipt.number ≡ Some receipt.event

-- whether one of the receipts has the number
abbrev pub has_number : List Receipt → ℕ → Bool
has_number receipts n = list_any (λ receipt. nat_eq receipt.number n) receipts

-- each receipt is the pages', and no two have one number
pub record IsPart (pages : List PageState) (receipts : List Receipt) : Type 0 where
  pub ours : All (IsOurs pages) receipts
  pub apart : AllPairs (λ a b. a.number ≢ b.number) receipts

-- the events of the pages are the union of the receipts: each is that of just one of them
pub record IsUnion (pages : List PageState) (receipts : List Receipt) : Type 0 where
  pub part : IsPart pages receipts
  pub whole : (n : ℕ) → event_at pages n ≢ None → has_number receipts n ≡ true

-- a receipt, with those before it, which are part of the pages' events
pub record IsFirst (pages : List PageState) (receipts before : List Receipt) (receipt : Receipt)
    : Type 0 where
  pub after : List Receipt
  pub split : receipts ≡ before ++ receipt ∷ after
  pub part : IsPart pages before

-- why the events are not the union: the first receipt whose number has not its event, or whose number
-- an earlier one has; or else the least number of an event that none has
abbrev pub IsNoUnion : List PageState → List Receipt → ClaimFault → Type 0
IsNoUnion pages receipts (NotOurs n) =
    (before : List Receipt) × (receipt : Receipt) × IsFirst pages receipts before receipt
    × (receipt.number ≡ n) × (event_at pages n ≢ Some receipt.event)
IsNoUnion pages receipts (Doubled n) =
    (before : List Receipt) × (receipt : Receipt) × IsFirst pages receipts before receipt
    × (receipt.number ≡ n) × IsOurs pages receipt × (has_number before n ≡ true)
IsNoUnion pages receipts (Unclaimed n) =
    IsPart pages receipts × (event_at pages n ≢ None) × (has_number receipts n ≡ false)
    × ((k : ℕ) → k < n → event_at pages k ≢ None → has_number receipts k ≡ true)
IsNoUnion pages receipts (Gap place) = ⊥
IsNoUnion pages receipts Memory = ⊥

-- why a claim is refused: the first page that does not follow the one before it; where all do, why their
-- events are not the union of the receipts
abbrev pub IsCause : List PageState → List Receipt → ClaimFault → Type 0
IsCause pages receipts (Gap place) = IsGap None pages place
IsCause pages receipts Memory = AreInOrder None pages
IsCause pages receipts fault = AreInOrder None pages × IsNoUnion pages receipts fault

-- a page's events are legal from its base and lead to its result
pub record IsReplayed (page : PageState) : Type 0 where
  pub legal : IsLegal page.client page.held page.events page.base
  pub replayed : replay page.events page.base ≡ page.result
