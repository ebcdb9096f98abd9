-- The places that are claimed: those of the numbers of receipts.
use Rattle.std.proofs.Common.{suc, zero, ◌≡◌, ◌≢◌, ◌<◌, ◌≤◌, ◌+◌, ◌-◌, ◌||◌, ◌⊎◌, ℕ, Bool, true, false, List, [], ◌∷◌, ◌++◌, length, take, drop, get_or, nat_eq, slice_set, slice_index_or, None, Some, refl, sym, ap, subst, ◌∙◌, inl, inr, arith, length-append, replicate, append_assoc, append-nil, take_all}
use Rattle.std.proofs.lemmas.Option.{none-some}
use mathlib.Core.Logic.{⊎_elim}
use Rattle.std.proofs.lemmas.Bool.{cases_Bool, true≢false}
use Rattle.std.proofs.lemmas.List.{get_or_append_left, take-append-drop, take_more}
use Rattle.std.proofs.Math.Seq.{get_or-append_seam}
use Rattle.std.proofs.lemmas.Grind.{common_steps, flat_map-append}
use Rattle.std.proofs.lemmas.List.Quantifiers.{all_pairs_push}
use Rattle.sipl_book.specs.Pages.{AreInOrder, PageState, events_in}
use Rattle.sipl_book.specs.declared.event.Event.{Event}
use Rattle.sipl_service.specs.declared.fault.ClaimFault.{ClaimFault}
use Rattle.sipl_service.specs.declared.fault.ClaimFault.TheVariants.{Gap, NotOurs, Doubled, Unclaimed, Memory}
use Rattle.sipl_service.specs.declared.receipt.Receipt.{Receipt}
use Rattle.sipl_service.specs.Passes.{PassState, receipts_of}
use Rattle.sipl_service.specs.Claims.{IsOurs, has_number, IsPart, IsUnion, IsFirst, IsCause, IsNoUnion, event_at, event_in, first_in}
use Rattle.sipl_service.proofs.Gaps.{no_gap}
use Rattle.sipl_service.proofs.Numbered.{has_event, numbered}

-- the receipts are part of the pages' events, and the places of their numbers are claimed
pub record AreClaimed (pages : List PageState) (receipts : List Receipt) (claimed : List Bool) : Type 0 where
  pub len : length claimed ≡ length (events_in pages)
  pub part : IsPart pages receipts
  pub places : (place : ℕ) → place < length (events_in pages) → slice_index_or claimed place false ≡ has_number receipts (first_in pages + place)

has_number-snoc : (receipts : List Receipt) (r : Receipt) (n : ℕ) → has_number (receipts ++ r ∷ []) n ≡ has_number receipts n || nat_eq r.number n
has_number-snoc [] r n = grind (arith, common_steps)
has_number-snoc (x ∷ receipts) r n = grind (arith, common_steps, has_number-snoc receipts r n)

-- a number that no receipt has is not that of the receipt at a place
has_not : (receipts : List Receipt) (n k : ℕ) (d : Receipt) → has_number receipts n ≡ false → k < length receipts → (get_or receipts k d).number ≢ n
has_not [] n k d none within = λ e. absurd (omega arith)
has_not (x ∷ receipts) n zero d none within = grind (arith, common_steps)
has_not (x ∷ receipts) n (suc k) d none within = has_not receipts n k d (grind (arith, common_steps)) (omega arith)

-- the number of an event of the pages is one of theirs
pub within_pages : (pages : List PageState) (r : Receipt) → IsOurs pages r → (first_in pages ≤ r.number) × (r.number - first_in pages < length (events_in pages))
within_pages pages r ours = numbered (first_in pages) (events_in pages) r.number (λ none. none-some r.event (sym none ∙ ours))

pub claimed-none : (pages : List PageState) (n : ℕ) → n ≡ length (events_in pages) → AreClaimed pages [] (replicate n false)
claimed-none pages n same = record {
  len = grind (arith, common_steps, same);
  part = record { ours = λ k d within. absurd (omega arith); apart = λ i j d lt within. absurd (omega arith) };
  places = λ place within. grind (arith, common_steps, same);
}

-- the place of a number more
claimed-at : (first place number : ℕ) (claimed : List Bool) (receipts : List Receipt) (r : Receipt) → first ≤ r.number → place < length claimed → r.number - first < length claimed
    → slice_index_or claimed place false ≡ has_number receipts (first + place)
    → slice_index_or (slice_set claimed (r.number - first) true) place false ≡ has_number (receipts ++ r ∷ []) (first + place)
claimed-at first place number claimed receipts r above less within old =
    let more = has_number-snoc receipts r (first + place) in
    grind (arith, common_steps, old, more)

pub claimed-next : (pages : List PageState) (receipts : List Receipt) (claimed : List Bool) (r : Receipt) → AreClaimed pages receipts claimed
    → IsOurs pages r → slice_index_or claimed (r.number - first_in pages) false ≡ false
    → AreClaimed pages (receipts ++ r ∷ []) (slice_set claimed (r.number - first_in pages) true)
claimed-next pages receipts claimed r h ours free =
    let within = within_pages pages r ours in
    let here : first_in pages + (r.number - first_in pages) ≡ r.number = omega (arith, within.0) in
    let none : has_number receipts r.number ≡ false = sym (ap (has_number receipts) here) ∙ sym (h.places (r.number - first_in pages) within.1) ∙ free in
    record {
      len = grind (arith, common_steps, h.len);
      part = record {
        ours = λ k d less. grind (arith, common_steps, h.part.ours);
        apart = all_pairs_push (λ (a b : Receipt). a.number ≢ b.number) receipts r h.part.apart (λ k d less. has_not receipts r.number k d none less);
      };
      places = λ place less. claimed-at (first_in pages) place r.number claimed receipts r within.0 (omega (arith, less, h.len)) (omega (arith, within.1, h.len)) (h.places place less);
    }

split-at : {X : Type 0} (xs : List X) (i : ℕ) (x : X) → i < length xs → x ≡ get_or xs i x → xs ≡ take i xs ++ x ∷ drop (i + 1) xs
split-at xs i x within at = sym (take-append-drop (i + 1) xs) ∙ ap (λ l. l ++ drop (i + 1) xs) (take_more xs i x within ∙ ap (λ y. take i xs ++ y ∷ []) (sym at)) ∙ append_assoc (take i xs) (x ∷ []) (drop (i + 1) xs)

pub first-at : (pages : List PageState) (passes : List PassState) (i j : ℕ) (p : PassState) (receipts : List Receipt) (r : Receipt)
    → i < length passes → p ≡ get_or passes i p → receipts ≡ p.receipts → j < length receipts → r ≡ get_or receipts j r
    → IsPart pages (receipts_of (take i passes) ++ take j receipts) → IsFirst pages (receipts_of passes) (receipts_of (take i passes) ++ take j receipts) r
first-at pages passes i j p receipts r within at same inside here part =
    record {
      after = drop (j + 1) receipts ++ receipts_of (drop (i + 1) passes);
      split =
          ap receipts_of (split-at passes i p within at)
          ∙ flat_map-append (λ (q : PassState). q.receipts) (take i passes) (p ∷ drop (i + 1) passes)
          ∙ ap (λ l. receipts_of (take i passes) ++ (l ++ receipts_of (drop (i + 1) passes))) (sym same ∙ split-at receipts j r inside here)
          ∙ ap (λ l. receipts_of (take i passes) ++ l) (append_assoc (take j receipts) (r ∷ drop (j + 1) receipts) (receipts_of (drop (i + 1) passes)))
          ∙ sym (append_assoc (receipts_of (take i passes)) (take j receipts) (r ∷ (drop (j + 1) receipts ++ receipts_of (drop (i + 1) passes))));
      part = part;
    }

-- what is said of the events and their first number is said of the pages
module _ (pages : List PageState) (first : ℕ) (events : List Event) (from : first ≡ first_in pages) (joined : events ≡ events_in pages) where
  same_event : (n : ℕ) → event_in first events n ≡ event_at pages n
  same_event n i = event_in (from i) (joined i) n

  pub claimed-in : (before receipts : List Receipt) (claimed new : List Bool) (j : ℕ) (r : Receipt)
      → AreClaimed pages (before ++ take j receipts) claimed → j < length receipts → r ≡ get_or receipts j r
      → event_in first events r.number ≡ Some r.event → slice_index_or claimed (r.number - first) false ≡ false → new ≡ slice_set claimed (r.number - first) true
      → AreClaimed pages (before ++ take (j + 1) receipts) new
  claimed-in before receipts claimed new j r h inside here ours free is =
      let longer : (before ++ take j receipts) ++ r ∷ [] ≡ before ++ take (j + 1) receipts =
      append_assoc before (take j receipts) (r ∷ []) ∙ ap (λ l. before ++ l) (ap (λ y. take j receipts ++ y ∷ []) here ∙ sym (take_more receipts j r inside)) in
      let set : slice_set claimed (r.number - first_in pages) true ≡ new = ap (λ f. slice_set claimed (r.number - f) true) (sym from) ∙ sym is in
      subst (AreClaimed pages (before ++ take (j + 1) receipts)) set
      (subst (λ l. AreClaimed pages l (slice_set claimed (r.number - first_in pages) true)) longer
      (claimed-next pages (before ++ take j receipts) claimed r h (sym (same_event r.number) ∙ ours) (ap (λ f. slice_index_or claimed (r.number - f) false) (sym from) ∙ free)))

  pub not_ours : (receipts before : List Receipt) (r : Receipt) → IsFirst pages receipts before r → event_in first events r.number ≢ Some r.event → IsNoUnion pages receipts (NotOurs r.number)
  not_ours receipts before r at other = (before, r, at, refl, λ ours. other (same_event r.number ∙ ours))

  pub is_twice : (receipts before : List Receipt) (claimed : List Bool) (r : Receipt) → AreClaimed pages before claimed → IsFirst pages receipts before r
      → event_in first events r.number ≡ Some r.event → slice_index_or claimed (r.number - first) false ≡ true → IsNoUnion pages receipts (Doubled r.number)
  is_twice receipts before claimed r h at here places =
      let ours : IsOurs pages r = sym (same_event r.number) ∙ here in
      let within = within_pages pages r ours in
      let back : first_in pages + (r.number - first_in pages) ≡ r.number = omega (arith, within.0) in
      let had : has_number before r.number ≡ true =
      sym (ap (has_number before) back) ∙ sym (h.places (r.number - first_in pages) within.1) ∙ ap (λ f. slice_index_or claimed (r.number - f) false) (sym from) ∙ places in
      (before, r, at, refl, ours, had)

  pub is_cause : (receipts before : List Receipt) (claimed : List Bool) (r : Receipt) (fault : ClaimFault) → AreInOrder None pages → AreClaimed pages before claimed
      → IsFirst pages receipts before r
      → ((fault ≡ NotOurs r.number) × (event_in first events r.number ≢ Some r.event))
      ⊎ ((fault ≡ Doubled r.number) × (event_in first events r.number ≡ Some r.event) × (slice_index_or claimed (r.number - first) false ≡ true))
      → IsCause pages receipts fault
  is_cause receipts before claimed r fault order h at why = elim why [
    | inl other ↦ subst (IsCause pages receipts) (sym other.0) (order, not_ours receipts before r at other.1)
    | inr twice ↦ subst (IsCause pages receipts) (sym twice.0) (order, is_twice receipts before claimed r h at twice.1 twice.2)
  ]

pub claimed-pass : (pages : List PageState) (passes : List PassState) (i j : ℕ) (p : PassState) (receipts : List Receipt) (claimed : List Bool)
    → i < length passes → p ≡ get_or passes i p → receipts ≡ p.receipts → length receipts ≤ j
    → AreClaimed pages (receipts_of (take i passes) ++ take j receipts) claimed → AreClaimed pages (receipts_of (take (i + 1) passes)) claimed
claimed-pass pages passes i j p receipts claimed within at same done h =
    let whole : receipts_of (take i passes) ++ take j receipts ≡ receipts_of (take (i + 1) passes) =
    ap (λ l. receipts_of (take i passes) ++ l) (take_all j receipts done ∙ same ∙ sym (append-nil p.receipts))
    ∙ sym (flat_map-append (λ (q : PassState). q.receipts) (take i passes) (p ∷ []))
    ∙ ap receipts_of (ap (λ q. take i passes ++ q ∷ []) at ∙ sym (take_more passes i p within)) in
    subst (λ l. AreClaimed pages l claimed) whole h

-- all passes have been gone through
pub claimed-all : (pages : List PageState) (passes : List PassState) (i : ℕ) (claimed now : List Bool) → now ≡ claimed → length passes ≤ i → AreClaimed pages (receipts_of (take i passes)) claimed → AreClaimed pages (receipts_of passes) now
claimed-all pages passes i claimed now is done h = subst (AreClaimed pages (receipts_of passes)) (sym is) (subst (λ l. AreClaimed pages (receipts_of l) claimed) (take_all i passes done) h)

-- all receipts have been gone through
module _ (pages : List PageState) (receipts : List Receipt) (claimed : List Bool) (h : AreClaimed pages receipts claimed) where
  -- whether the place of a number is claimed
  place-of : (n : ℕ) → event_at pages n ≢ None → slice_index_or claimed (n - first_in pages) false ≡ has_number receipts n
  place-of n has =
      let within = numbered (first_in pages) (events_in pages) n has in
      let here : first_in pages + (n - first_in pages) ≡ n = omega (arith, within.0) in
      h.places (n - first_in pages) within.1 ∙ ap (has_number receipts) here

  pub is_union : ((k : ℕ) → k < length claimed → slice_index_or claimed k false ≡ true) → IsUnion pages receipts
  is_union full =
      record {
        part = h.part;
        whole = λ n has. sym (place-of n has) ∙ full (n - first_in pages) (rw h.len (numbered (first_in pages) (events_in pages) n has).1);
      }

  pub is_unclaimed : (first place : ℕ) → first ≡ first_in pages → place < length claimed → slice_index_or claimed place false ≡ false
      → ((k : ℕ) → k < place → slice_index_or claimed k false ≡ true) → IsNoUnion pages receipts (Unclaimed (first + place))
  is_unclaimed first place from within free full =
      let inside : place < length (events_in pages) = omega (arith, h.len) in
      subst (λ f. IsNoUnion pages receipts (Unclaimed (f + place))) (sym from) (
        h.part,
        has_event (first_in pages) (events_in pages) place inside,
        sym (h.places place inside) ∙ free,
        λ k less has. let above = numbered (first_in pages) (events_in pages) k has in sym (place-of k has) ∙ full (k - first_in pages) (omega (arith, less, above.0)),
      )

-- where a receipt has the number, it stands at a place
pub has_at : (receipts : List Receipt) (n : ℕ) → has_number receipts n ≡ true → (k : ℕ) × (k < length receipts) × ((d : Receipt) → (get_or receipts k d).number ≡ n)
has_at [] n is = absurd (grind (arith, common_steps))
has_at (x ∷ receipts) n is =
    ⊎_elim
    (λ (here : nat_eq x.number n ≡ true). (0, omega arith, λ d. grind (arith, common_steps)))
    (λ (apart : nat_eq x.number n ≡ false). let rest = has_at receipts n (grind (arith, common_steps)) in (suc rest.0, omega (arith, rest.1), λ d. rest.2 d))
    (cases_Bool (nat_eq x.number n))

-- a receipt of events that are the union is theirs
pub ours-at : (pages : List PageState) (receipts before : List Receipt) (r : Receipt) → IsFirst pages receipts before r → IsUnion pages receipts → IsOurs pages r
ours-at pages receipts before r first union =
    let long : length receipts ≡ length before + suc (length first.after) = ap length first.split ∙ length-append before (r ∷ first.after) in
    let here : get_or receipts (length before) r ≡ r = ap (λ l. get_or l (length before) r) first.split ∙ get_or-append_seam before r first.after r in
    subst (IsOurs pages) here (union.part.ours (length before) r (omega (arith, long)))

-- none of these where the events are the union
pub refutes-union : (pages : List PageState) (receipts : List Receipt) (fault : ClaimFault) → IsNoUnion pages receipts fault → IsUnion pages receipts → ⊥
refutes-union pages receipts (Gap place) cause union = cause
refutes-union pages receipts (NotOurs n) (before, r, first, number, not_ours) union =
    not_ours (subst (λ m. event_at pages m ≡ Some r.event) number (ours-at pages receipts before r first union))
refutes-union pages receipts (Doubled n) (before, r, first, number, ours, had) union =
    let long : length receipts ≡ length before + suc (length first.after) = ap length first.split ∙ length-append before (r ∷ first.after) in
    let here : get_or receipts (length before) r ≡ r = ap (λ l. get_or l (length before) r) first.split ∙ get_or-append_seam before r first.after r in
    let at = has_at before n had in
    let there : get_or receipts at.0 r ≡ get_or before at.0 r = ap (λ l. get_or l at.0 r) first.split ∙ get_or_append_left before (r ∷ first.after) r at.0 at.1 in
    union.part.apart at.0 (length before) r at.1 (omega (arith, long)) (ap (λ (q : Receipt). q.number) there ∙ at.2 r ∙ sym number ∙ ap (λ (q : Receipt). q.number) (sym here))
refutes-union pages receipts (Unclaimed n) cause union = absurd (true≢false (sym (union.whole n cause.1) ∙ cause.2))
refutes-union pages receipts Memory cause union = cause

-- no cause where all pages follow and their events are the union
pub refutes : (pages : List PageState) (receipts : List Receipt) (fault : ClaimFault) → fault ≢ Memory → IsCause pages receipts fault → AreInOrder None pages → IsUnion pages receipts → ⊥
refutes pages receipts (Gap place) ample gap order union = no_gap None pages place gap order
refutes pages receipts (NotOurs n) ample cause order union = refutes-union pages receipts (NotOurs n) cause.1 union
refutes pages receipts (Doubled n) ample cause order union = refutes-union pages receipts (Doubled n) cause.1 union
refutes pages receipts (Unclaimed n) ample cause order union = refutes-union pages receipts (Unclaimed n) cause.1 union
refutes pages receipts Memory ample cause order union = ample refl
