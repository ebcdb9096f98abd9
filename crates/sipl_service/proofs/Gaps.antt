-- Whether pages follow one another, seen from a place on.
use Rattle.std.proofs.Common.{◌≡◌, ◌<◌, ◌≤◌, ◌+◌, ℕ, zero, suc, List, [], ◌∷◌, length, drop, get_or, Option, None, Some, sym, ap, subst, ◌∙◌, zero-add, add-zero, arith}
use Rattle.std.proofs.lemmas.List.{drop_all, drop_more}
use Rattle.sipl_book.specs.Pages.{AreInOrder, Follows, PageState}
use Rattle.sipl_service.specs.Gaps.{IsGap}

-- the pages up to a place follow one another, and the last of them is this one: how it goes on from there
-- is how all pages go
pub record IsReached (pages : List PageState) (before : Option PageState) (place : ℕ) : Type 0 where
  pub order : AreInOrder before (drop place pages) → AreInOrder None pages
  pub gap : (n : ℕ) → IsGap before (drop place pages) n → IsGap None pages (place + n)

pub reached-none : (pages : List PageState) → IsReached pages None 0
reached-none pages = record { order = λ order. order; gap = λ n gap. subst (IsGap None pages) (sym (zero-add n)) gap }

module _ (pages : List PageState) (before : Option PageState) (place : ℕ) (reached : IsReached pages before place) where
  pub order-all : length pages ≤ place → AreInOrder None pages
  order-all past = reached.order (subst (AreInOrder before) (sym (drop_all place pages past)) tt)

  module _ (page : PageState) (within : place < length pages) (is : page ≡ get_or pages place page) where
    more : page ∷ drop (place + 1) pages ≡ drop place pages
    more = ap (λ p. p ∷ drop (place + 1) pages) is ∙ sym (drop_more pages place page within)

    pub reached-next : Follows before page → IsReached pages (Some page) (place + 1)
    reached-next follows =
        record {
          order = λ order. reached.order (subst (AreInOrder before) more (follows, order));
          gap = λ n gap. let next : place + suc n ≡ place + 1 + n = omega arith in
              subst (IsGap None pages) next (reached.gap (suc n) (subst (λ rest. IsGap before rest (suc n)) more (follows, gap)));
        }

    pub gap-here : ¬ Follows before page → IsGap None pages place
    gap-here apart = subst (IsGap None pages) (add-zero place) (reached.gap 0 (subst (λ rest. IsGap before rest 0) more apart))

-- pages of which one does not follow the one before it are not in order
pub no_gap : (before : Option PageState) (pages : List PageState) (place : ℕ) → IsGap before pages place → AreInOrder before pages → ⊥
no_gap before [] place gap order = gap
no_gap before (page ∷ pages) zero gap order = gap order.0
no_gap before (page ∷ pages) (suc place) gap order = no_gap (Some page) pages place gap.1 order.1
