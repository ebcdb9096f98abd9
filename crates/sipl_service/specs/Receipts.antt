-- Receipts in the order of their numbers, and which are due at a number.
use Rattle.std.specs.Prelude.{◌<◌, ℕ, List, flat_map, nat_eq, nat_le, nat_lt}
use Rattle.std.specs.List.{AllPairs, filter}
use Rattle.sipl_service.specs.declared.receipt.Receipt.{Receipt}

-- each number is less than the later ones
pub record IsAscending (receipts : List Receipt) : Type 0 where
  pub ordered : AllPairs (λ a b. a.number < b.number) receipts

-- the receipts of all hand-overs, one after another
abbrev pub all_receipts : List (List Receipt) → List Receipt
all_receipts handed = flat_map (λ receipts. receipts) handed

-- the receipts with a number
abbrev pub with_number : ℕ → List Receipt → List Receipt
with_number n receipts = filter (λ receipt. nat_eq receipt.number n) receipts

-- the receipts with numbers below an end
abbrev pub due : ℕ → List Receipt → List Receipt
due end receipts = filter (λ receipt. nat_lt receipt.number end) receipts

-- the others
abbrev pub later : ℕ → List Receipt → List Receipt
later end receipts = filter (λ receipt. nat_le end receipt.number) receipts
