-- A pass after an accepted call.
use Rattle.std.proofs.Common.{◌≡◌, ◌<◌, ◌≤◌, ◌+◌, ℕ, List, [], ◌∷◌, ◌++◌, sym, subst, arith}
use Rattle.std.proofs.lemmas.List.Elements.{All-push}
use Rattle.std.proofs.lemmas.List.Quantifiers.{all_pairs_push}
use Rattle.sipl_book.specs.declared.event.Event.{Event}
use Rattle.sipl_service.specs.Passes.{IsPass, PassState, receipt_of, with_receipt}
use Rattle.sipl_service.specs.declared.receipt.Receipt.{Receipt}

-- its receipts are in the order of their numbers still
passed : (pass : PassState) (number : ℕ) (event : Event) → IsPass pass → pass.front ≤ number → IsPass (with_receipt pass number event)
passed pass number event h front =
    let r = receipt_of number event in
    record {
      ascending = record {
        ordered = all_pairs_push (λ (a b : Receipt). a.number < b.number) pass.receipts r h.ascending.ordered (λ k d less. let seen = h.seen k d less in omega arith);
      };
      seen = All-push (λ (a : Receipt). a.number < number + 1) pass.receipts r (λ k d less. let seen = h.seen k d less in omega arith) (omega arith);
    }

-- the same of its parts, with the receipt that is added
pub passed-with : (pass : PassState) (receipts : List Receipt) (front : ℕ) (receipt : Receipt) → IsPass pass → pass.front ≤ receipt.number
    → receipts ≡ pass.receipts ++ receipt ∷ [] → front ≡ receipt.number + 1 → IsPass (record { receipts = receipts; front = front })
passed-with pass receipts front receipt h seen list past =
    let new : record { receipts = receipts; front = front } ≡ with_receipt pass receipt.number receipt.event = λ i. record { receipts = list i; front = past i } in
    subst IsPass (sym new) (passed pass receipt.number receipt.event h seen)
