-- Leases that are given back one after the other.
use Rattle.std.proofs.Common.{◌≡◌, ℕ, List, [], ◌∷◌, ◌++◌, Option, Some, None, refl, sym, ap, ◌∙◌}
use Rattle.sipl_book.specs.Calls.{after_give_back}
use Rattle.sipl_book.specs.Book.{BookState}
use Rattle.sipl_interleave.specs.Jobs.{Job, lease_of}
use Rattle.sipl_interleave.specs.World.{after_give_back_of, after_give_back_of_all}

-- the last worker's lease is given back first
pub after_give_back_of_all-push : (workers : List (Option Job)) (worker : Option Job) (book : BookState)
    → after_give_back_of_all (workers ++ worker ∷ []) book ≡ after_give_back_of_all workers (after_give_back_of worker book)
after_give_back_of_all-push [] worker book = refl
after_give_back_of_all-push (first ∷ workers) worker book = ap (after_give_back_of first) (after_give_back_of_all-push workers worker book)

-- a lease that is given back is that of a worker, or there is none
pub return-some : (worker : Option Job) (id : ℕ) (book : BookState) → Some id ≡ lease_of worker → after_give_back id book ≡ after_give_back_of worker book
return-some worker id book is = ap (λ (o : Option ℕ). elim o [ Some k ↦ after_give_back k book | None ↦ book ]) is

pub return-none : (worker : Option Job) (book : BookState) → None ≡ lease_of worker → book ≡ after_give_back_of worker book
return-none worker book is = ap (λ (o : Option ℕ). elim o [ Some k ↦ after_give_back k book | None ↦ book ]) is

-- the rest is as it was with one worker more
pub returned : (all rest : List (Option Job)) (worker : Option Job) (before new last : BookState) → all ≡ rest ++ worker ∷ []
    → new ≡ after_give_back_of worker before → after_give_back_of_all all before ≡ last → after_give_back_of_all rest new ≡ last
returned all rest worker before new last is back so =
    ap (after_give_back_of_all rest) back ∙ sym (after_give_back_of_all-push rest worker before) ∙ ap (λ ws. after_give_back_of_all ws before) (sym is) ∙ so
