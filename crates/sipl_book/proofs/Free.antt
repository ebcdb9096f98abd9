-- What is drawn where nothing is held.
use Rattle.std.proofs.Common.{◌≡◌, ◌≢◌, ◌⊎◌, ℕ, zero, suc, ◌-◌, ◌<◌, ◌≤◌, leb, not, List, [], ◌∷◌, ◌++◌, filter, length, map, slice_get, slice_set, Option, None, Some, refl, sym, ap, ◌∙◌, inl, inr, arith}
use Rattle.std.specs.List.{filter_map, flat_map, range_with_len, sum_by}
use Rattle.std.proofs.lemmas.Bool.{cases_Bool, leb-true}
use Rattle.std.proofs.lemmas.List.{length-map}
use Rattle.std.proofs.lemmas.List.FromFn.{length-range_with_len}
use Rattle.std.proofs.lemmas.List.Sorted.{length_permutation, sum_by-IsPermutation}
use Rattle.std.proofs.lemmas.Option.{same_Some, slice_get_past}
use Rattle.sipl_records.specs.Unique.{unique}
use Rattle.sipl_choice.specs.Endpoints.{same_endpoint}
use Rattle.sipl_choice.specs.declared.endpoint.Endpoint.{Endpoint}
use Rattle.sipl_choice.specs.declared.transport.Transport.{Transport}
use Rattle.sipl_srv.specs.Order.{Rank, ordered}
use Rattle.sipl_srv.proofs.Public.{ordered-IsPermutation}
use Rattle.sipl_outages.specs.Holds.{Holds, is_held, no_holds}
use Rattle.sipl_outages.specs.declared.held.Held.{Held}
use Rattle.sipl_outages.specs.declared.held.Held.TheVariants.{Out, Last}
use Rattle.sipl_plans.specs.Plan.{arranged, draw, endpoints_of, source_rank, targets_among, targets_or_all_held}
use Rattle.sipl_plans.specs.declared.answer.Answer.{Answer}
use Rattle.sipl_plans.specs.declared.answer.Answer.TheVariants.{Targets}
use Rattle.sipl_plans.specs.declared.layout.Layout.{Layout}
use Rattle.sipl_plans.specs.declared.layout.Layout.TheVariants.{Refused, Servers}
use Rattle.sipl_plans.specs.declared.layout.Source.{Source}
use Rattle.sipl_plans.proofs.FewTargets.{ordered-one}
use Rattle.sipl_plans.proofs.FreeTargets.{none-held, free-without, free-last}
use Rattle.sipl_book.specs.Kept.{AreKeptFor, IsDrawnFree, first_place}

module _ (holds : Holds) (none : holds.ends ≡ []) where
  -- an endpoint is held as where there are no holds
  same : is_held no_holds ≡ is_held holds
  same i e = (none-held no_holds refl e ∙ sym (none-held holds none e)) i

  among-free : (endpoints : List Endpoint) (held : Held) → targets_among no_holds endpoints held ≡ targets_among holds endpoints held
  among-free [] held = refl
  among-free (endpoint ∷ others) Out = λ i. targets_or_all_held (filter (λ e. not (same i e)) (endpoint ∷ others))
  among-free (endpoint ∷ others) Last = λ i. Targets (filter (λ e. not (same i e)) (endpoint ∷ others) ++ filter (λ e. same i e) (endpoint ∷ others))

  -- what is drawn without holds is drawn then
  pub draw-free : (layout : Layout) (words : List ℕ) (held : Held) → draw layout no_holds words held ≡ draw layout holds words held
  draw-free (Refused reason) words held = refl
  draw-free (Servers transport servers) words held =
      among-free (unique same_endpoint (flat_map (endpoints_of transport) (arranged servers words))) held

-- both policies have the same targets
among-either : (endpoints : List Endpoint) (held : Held) → targets_among no_holds endpoints held ≡ targets_among no_holds endpoints Out
among-either [] held = refl
among-either (endpoint ∷ others) Out = refl
among-either (endpoint ∷ others) Last =
    ap (λ ts. Targets ts) (sym (free-last no_holds (none-held no_holds refl) (endpoint ∷ others)))
    ∙ ap targets_or_all_held (free-without no_holds (none-held no_holds refl) (endpoint ∷ others))

-- the places of an order are as many as the ranks, and have one sum
length-ordered : (ranks : List Rank) (words : List ℕ) → length (ordered ranks words) ≡ length ranks
length-ordered ranks words =
    length_permutation (range_with_len 0 (length ranks)) (ordered ranks words) (ordered-IsPermutation ranks words) ∙ length-range_with_len 0 (length ranks)

sum-ordered : (ranks : List Rank) (words : List ℕ) → sum_by (λ place. place) (ordered ranks words) ≡ sum_by (λ place. place) (range_with_len 0 (length ranks))
sum-ordered ranks words =
    sum_by-IsPermutation (λ (place : ℕ). place) (range_with_len 0 (length ranks)) (ordered ranks words) (ordered-IsPermutation ranks words)

-- of at most two places the first decides
same-places : (xs ys : List ℕ) → length xs ≤ 2 → length xs ≡ length ys → sum_by (λ place. place) xs ≡ sum_by (λ place. place) ys → slice_get xs 0 ≡ slice_get ys 0 → xs ≡ ys
same-places [] [] few long sums first = refl
same-places [] (y ∷ ys) few long sums first = absurd (omega (arith, long))
same-places (x ∷ xs) [] few long sums first = absurd (omega (arith, long))
same-places (x ∷ []) (y ∷ []) few long sums first =
    let same : x ≡ y = omega (arith, sums) in
    ap (λ (p : ℕ). p ∷ []) same
same-places (x ∷ []) (y ∷ b ∷ ys) few long sums first = absurd (omega (arith, long))
same-places (x ∷ a ∷ []) (y ∷ []) few long sums first = absurd (omega (arith, long))
same-places (x ∷ a ∷ []) (y ∷ b ∷ []) few long sums first =
    let same : x ≡ y = same_Some x y first in
    let other : a ≡ b = omega (arith, sums, same) in
    ap (λ (p : ℕ). p ∷ a ∷ []) same ∙ ap (λ (p : ℕ). y ∷ p ∷ []) other
same-places (x ∷ a ∷ []) (y ∷ b ∷ z ∷ ys) few long sums first = absurd (omega (arith, long))
same-places (x ∷ a ∷ c ∷ xs) ys few long sums first = absurd (omega (arith, few))

same-order : (ranks : List Rank) (words others : List ℕ) → length ranks ≤ 2 → slice_get (ordered ranks words) 0 ≡ slice_get (ordered ranks others) 0 → ordered ranks words ≡ ordered ranks others
same-order ranks words others few first =
    same-places (ordered ranks words) (ordered ranks others) (omega (arith, few, length-ordered ranks words))
    (length-ordered ranks words ∙ sym (length-ordered ranks others)) (sum-ordered ranks words ∙ sym (sum-ordered ranks others)) first

-- so the place of the first server decides what is drawn
same-drawn : (layout : Layout) (words others : List ℕ) (place : ℕ) (held : Held) → first_place layout words ≡ Some place → first_place layout others ≡ Some place → draw layout no_holds words held ≡ draw layout no_holds others held
same-drawn (Refused reason) words others place held is other = refl
same-drawn (Servers transport servers) words others place held is other = elim (cases_Bool (leb (length servers) 2)) [
  | inl few ↦
      let ranks : List Rank = map source_rank servers in
      let first : slice_get (ordered ranks words) 0 ≡ Some place = rw few at is in
      let second : slice_get (ordered ranks others) 0 ≡ Some place = rw few at other in
      let below : length ranks ≤ 2 = omega (arith, leb-true (length servers) 2 few, length-map servers source_rank) in
      ap (λ (places : List ℕ). targets_among no_holds (unique same_endpoint (flat_map (endpoints_of transport) (filter_map (slice_get servers) places))) held)
      (same-order ranks words others below (first ∙ sym second))
  | inr many ↦ let never : None ≡ Some place = rw many at is in cc
]

-- both policies draw the same
either-drawn : (layout : Layout) (words : List ℕ) (held other : Held) → draw layout no_holds words held ≡ draw layout no_holds words other
either-drawn (Refused reason) words held other = refl
either-drawn (Servers transport servers) words held other =
    let endpoints : List Endpoint = unique same_endpoint (flat_map (endpoints_of transport) (arranged servers words)) in
    among-either endpoints held ∙ sym (among-either endpoints other)

-- a copy of what is drawn is drawn
pub copy-drawn : (layout seen : Layout) (holds : Holds) (words : List ℕ) (held : Held) (answer copy : Answer) → layout ≡ seen → holds.ends ≡ [] → answer ≡ draw seen holds words held → copy ≡ answer
    → IsDrawnFree layout words copy
copy-drawn layout seen holds words held answer copy same none drawn is other =
    is ∙ drawn ∙ ap (λ l. draw l holds words held) (sym same) ∙ sym (draw-free holds none layout words held) ∙ either-drawn layout words held other

-- one value of a list is replaced
replaced : (kept : List (Option Answer)) (i place : ℕ) (new : Option Answer) (answer : Answer) → slice_get (slice_set kept i new) place ≡ Some (Some answer)
    → ((place ≡ i) × (new ≡ Some answer)) ⊎ (slice_get kept place ≡ Some (Some answer))
replaced [] i place new answer is = inr is
replaced (x ∷ kept) zero zero new answer is = inl (refl, same_Some new (Some answer) is)
replaced (x ∷ kept) zero (suc place) new answer is = inr is
replaced (x ∷ kept) (suc i) zero new answer is = inr is
replaced (x ∷ kept) (suc i) (suc place) new answer is = elim (replaced kept i place new answer is) [
  | inl same ↦ inl (ap suc same.0, same.1)
  | inr other ↦ inr other
]

-- it may be kept at the place of the first server
pub kept-copy : (layout : Layout) (kept : List (Option Answer)) (place : ℕ) (words : List ℕ) (copy : Answer) → AreKeptFor layout kept → first_place layout words ≡ Some place → IsDrawnFree layout words copy
    → AreKeptFor layout (slice_set kept place (Some copy))
kept-copy layout kept place words copy before first drawn at answer found others other held = elim (replaced kept place at (Some copy) answer found) [
  | inl same ↦
      sym (same_Some copy answer same.1) ∙ drawn held
      ∙ same-drawn layout words others place held first (other ∙ ap Some same.0)
  | inr old ↦ before at answer old others other held
]

-- where no answer is kept
pub none-kept : (layout : Layout) → AreKeptFor layout (None ∷ None ∷ [])
none-kept layout zero answer found words first = let never : None ≡ Some answer = same_Some None (Some answer) found in cc
none-kept layout (suc zero) answer found words first = let never : None ≡ Some answer = same_Some None (Some answer) found in cc
none-kept layout (suc (suc place)) answer found words first = let never : None ≡ Some (Some answer) = found in cc

-- the place of the first server of one, and of none or more than two
pub first-one : (layout : Layout) (transport : Transport) (servers : List Source) (words : List ℕ) → layout ≡ Servers transport servers → length servers ≡ 1 → Some 0 ≡ first_place layout words
first-one layout transport servers words at one =
    sym (ap (λ l. first_place l words) at
    ∙ rw one (ap (λ (places : List ℕ). slice_get places 0) (ordered-one (map source_rank servers) words (length-map servers source_rank ∙ one))))

pub first-none : (layout : Layout) (transport : Transport) (servers : List Source) (words : List ℕ) → layout ≡ Servers transport servers → length servers ≢ 1 → length servers ≢ 2 → None ≡ first_place layout words
first-none layout transport servers words at one two =
    sym (ap (λ l. first_place l words) at ∙ elim (cases_Bool (leb (length servers) 2)) [
      | inl few ↦ by servers (leb-true (length servers) 2 few) one two
      | inr many ↦ rw many refl
    ])
  where
    by : (servers : List Source) → length servers ≤ 2 → length servers ≢ 1 → length servers ≢ 2 → first_place (Servers transport servers) words ≡ None
    by [] few one two = slice_get_past (ordered [] words) 0 (omega (arith, length-ordered [] words))
    by (a ∷ []) few one two = absurd (one refl)
    by (a ∷ b ∷ []) few one two = absurd (two refl)
    by (a ∷ b ∷ c ∷ servers) few one two = absurd (omega (arith, few))
