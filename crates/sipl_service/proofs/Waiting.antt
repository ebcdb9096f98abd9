-- The places that receipts which wait claim, hand-over after hand-over.
use Rattle.std.proofs.Common.{◌≡◌, ◌≢◌, ◌<◌, ◌≤◌, ◌+◌, ◌-◌, ◌⊎◌, ℕ, Bool, true, false, List, [], ◌∷◌, ◌++◌, length, take, drop, get_or, nat_lt, slice_index_or, Some, refl, sym, ap, subst, ◌∙◌, inl, inr, arith, append_assoc, append-nil, take_all}
use Rattle.std.proofs.lemmas.Grind.{flat_map-append}
use Rattle.std.proofs.lemmas.List.{take-append-drop, take_more}
use Rattle.std.proofs.lemmas.List.Elements.{filter-append}
use Rattle.sipl_book.specs.Pages.{PageState, events_in}
use Rattle.sipl_book.specs.declared.event.Event.{Event}
use Rattle.sipl_service.specs.Claims.{IsFirst, IsNoUnion, IsPart, IsUnion, event_in, first_in}
use Rattle.sipl_service.specs.Ledgers.{IsNoUnionAfter}
use Rattle.sipl_service.specs.Receipts.{all_receipts, due}
use Rattle.sipl_service.specs.declared.fault.ClaimFault.{ClaimFault}
use Rattle.sipl_service.specs.declared.fault.ClaimFault.TheVariants.{Gap, NotOurs, Doubled, Unclaimed, Memory}
use Rattle.sipl_service.specs.declared.receipt.Receipt.{Receipt}
use Rattle.sipl_service.proofs.Claimed.{AreClaimed, is_twice, not_ours, ours-at, refutes-union, within_pages}

due-append : (e : ℕ) (xs ys : List Receipt) → due e (xs ++ ys) ≡ due e xs ++ due e ys
due-append e xs ys = filter-append (λ receipt. nat_lt receipt.number e) xs ys

-- all that wait, at a place among the hand-overs
pub parted : (e i : ℕ) (waiting : List (List Receipt)) (xs : List Receipt) → i < length waiting → xs ≡ get_or waiting i xs
    → due e (all_receipts waiting) ≡ due e (all_receipts (take i waiting)) ++ (due e xs ++ due e (all_receipts (drop (i + 1) waiting)))
parted e i waiting xs inside at =
    ap (λ l. due e (all_receipts l))
    (sym (take-append-drop (i + 1) waiting) ∙ ap (λ l. l ++ drop (i + 1) waiting) (take_more waiting i xs inside ∙ ap (λ y. take i waiting ++ y ∷ []) (sym at)) ∙ append_assoc (take i waiting) (xs ∷ []) (drop (i + 1) waiting))
    ∙ ap (due e) (flat_map-append (λ (ys : List Receipt). ys) (take i waiting) (xs ∷ drop (i + 1) waiting))
    ∙ due-append e (all_receipts (take i waiting)) (xs ++ all_receipts (drop (i + 1) waiting))
    ∙ ap (λ ys. due e (all_receipts (take i waiting)) ++ ys) (due-append e xs (all_receipts (drop (i + 1) waiting)))

-- one hand-over more
pub claimed-handed : (pages : List PageState) (e i : ℕ) (waiting : List (List Receipt)) (xs : List Receipt) (claimed : List Bool) → i < length waiting → xs ≡ get_or waiting i xs
    → AreClaimed pages (due e (all_receipts (take i waiting)) ++ due e xs) claimed → AreClaimed pages (due e (all_receipts (take (i + 1) waiting))) claimed
claimed-handed pages e i waiting xs claimed inside at h =
    let whole : due e (all_receipts (take i waiting)) ++ due e xs ≡ due e (all_receipts (take (i + 1) waiting)) =
    sym (ap (λ l. due e (all_receipts l)) (take_more waiting i xs inside ∙ ap (λ y. take i waiting ++ y ∷ []) (sym at))
    ∙ ap (due e) (flat_map-append (λ (ys : List Receipt). ys) (take i waiting) (xs ∷ []) ∙ ap (λ ys. all_receipts (take i waiting) ++ ys) (append-nil xs))
    ∙ due-append e (all_receipts (take i waiting)) xs) in
    subst (λ ys. AreClaimed pages ys claimed) whole h

-- all hand-overs have been gone through
pub claimed-all : (pages : List PageState) (e i : ℕ) (waiting : List (List Receipt)) (claimed now : List Bool) → now ≡ claimed → length waiting ≤ i
    → AreClaimed pages (due e (all_receipts (take i waiting))) claimed → AreClaimed pages (due e (all_receipts waiting)) now
claimed-all pages e i waiting claimed now is done h =
    subst (AreClaimed pages (due e (all_receipts waiting))) (sym is) (subst (λ l. AreClaimed pages (due e (all_receipts l)) claimed) (take_all i waiting done) h)

-- a receipt of a hand-over is the first of all that is not theirs
pub first-in : (pages : List PageState) (all before xs rest : List Receipt) (i : ℕ) (r : Receipt) → all ≡ before ++ (xs ++ rest) → i < length xs → r ≡ get_or xs i r
    → IsPart pages (before ++ take i xs) → IsFirst pages all (before ++ take i xs) r
first-in pages all before xs rest i r is inside at part = record {
  after = drop (i + 1) xs ++ rest;
  split =
      is
      ∙ ap (λ l. before ++ (l ++ rest))
      (sym (take-append-drop (i + 1) xs) ∙ ap (λ l. l ++ drop (i + 1) xs) (take_more xs i r inside ∙ ap (λ y. take i xs ++ y ∷ []) (sym at)) ∙ append_assoc (take i xs) (r ∷ []) (drop (i + 1) xs))
      ∙ ap (λ l. before ++ l) (append_assoc (take i xs) (r ∷ drop (i + 1) xs) rest)
      ∙ sym (append_assoc before (take i xs) (r ∷ (drop (i + 1) xs ++ rest)));
  part = part;
}

module _ (pages : List PageState) (first : ℕ) (events : List Event) (from : first ≡ first_in pages) (joined : events ≡ events_in pages) where
  -- why a receipt is not the first of a free event's
  pub is_cause_after : (next : ℕ) (receipts before : List Receipt) (claimed : List Bool) (r : Receipt) (fault : ClaimFault) → AreClaimed pages before claimed
      → IsFirst pages receipts before r
      → ((fault ≡ Doubled r.number) × (r.number < next))
      ⊎ (((fault ≡ NotOurs r.number) × (next ≤ r.number) × (event_in first events r.number ≢ Some r.event))
      ⊎ ((fault ≡ Doubled r.number) × (event_in first events r.number ≡ Some r.event) × (slice_index_or claimed (r.number - first) false ≡ true)))
      → IsNoUnionAfter next pages receipts fault
  is_cause_after next receipts before claimed r fault h at why = elim why [
    | inl late ↦ subst (IsNoUnionAfter next pages receipts) (sym late.0) (inl (record { before = before; receipt = r; at = at; number = refl; claimed = late.1 }))
    | inr here ↦ elim here [
      | inl other ↦ subst (IsNoUnionAfter next pages receipts) (sym other.0) (other.1, not_ours pages first events from joined receipts before r at other.2)
      | inr twice ↦ subst (IsNoUnionAfter next pages receipts) (sym twice.0) (inr (is_twice pages first events from joined receipts before claimed r h at twice.1 twice.2))
    ]
  ]

pub unclaimed-after : (next : ℕ) (pages : List PageState) (receipts : List Receipt) (n : ℕ) → IsNoUnion pages receipts (Unclaimed n) → IsNoUnionAfter next pages receipts (Unclaimed n)
unclaimed-after next pages receipts n cause = cause

-- none of these where the events are the union
pub refutes-after : (next : ℕ) (pages : List PageState) (receipts : List Receipt) (fault : ClaimFault) → next ≤ first_in pages → IsNoUnionAfter next pages receipts fault → IsUnion pages receipts → ⊥
refutes-after next pages receipts (Gap place) le cause union = cause
refutes-after next pages receipts (NotOurs n) le cause union = refutes-union pages receipts (NotOurs n) cause.1 union
refutes-after next pages receipts (Doubled n) le cause union = elim cause [
  | inl late ↦
      let ours = ours-at pages receipts late.before late.receipt late.at union in
      let within = within_pages pages late.receipt ours in
      absurd (omega (arith, within.0, late.number, late.claimed))
  | inr twice ↦ refutes-union pages receipts (Doubled n) twice union
]
refutes-after next pages receipts (Unclaimed n) le cause union = refutes-union pages receipts (Unclaimed n) cause union
refutes-after next pages receipts Memory le cause union = cause
