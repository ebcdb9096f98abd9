-- What holds after accepted calls of a ledger.
use Rattle.std.proofs.Common.{◌≡◌, ◌<◌, ◌≤◌, ℕ, nat_le, List, [], ◌∷◌, ◌++◌, flat_map, Option, Some, None, refl, sym, ap, subst, ◌∙◌, arith, append_assoc, append-nil}
use mathlib.Core.Logic.{⊎_elim}
use Rattle.std.specs.List.{All}
use Rattle.std.proofs.lemmas.Bool.{cases_lt}
use Rattle.std.proofs.lemmas.Grind.{flat_map-append}
use Rattle.std.proofs.lemmas.List.{append_cancel_left}
use Rattle.std.proofs.lemmas.List.Elements.{All-push, filter-append}
use Rattle.sipl_book.specs.Pages.{AreInOrder, Follows, IsPage, PageState, events_in, next_of}
use Rattle.sipl_service.specs.Claims.{IsReplayed, IsUnion, first_in}
use Rattle.sipl_service.specs.Laws.{AreClaimed, AreSameBelow, IsClaim}
use Rattle.sipl_service.specs.Ledgers.{Accepts, Added, Call, Claimed, FollowsLast, IsRun, LedgerState, added_of, last_of, new_ledger, next_after, pages_of, since_claim, until_claim, with_added, with_claimed}
use Rattle.sipl_service.specs.Receipts.{due, later, with_number}
use Rattle.sipl_service.specs.declared.ledger.Last.{Last}
use Rattle.sipl_service.specs.declared.receipt.Receipt.{Receipt}
use Rattle.sipl_service.proofs.Numbers.{due-below, due-past, later-below, later-past, later-later, own_receipts, own-append, own-below, own-past, none_at_all, none_number, number-append}
use Rattle.sipl_service.proofs.Placed.{are_own, is_union}

abbrev pub last_page : Option PageState → List PageState → Option PageState
last_page before [] = before
last_page before (page ∷ pages) = last_page (Some page) pages

-- where the last of some pages ends
abbrev pub end_after : Option PageState → Option Last
end_after None = None
end_after (Some page) = Some (last_of page)

-- the receipts of the pages' events
abbrev pub told : List PageState → List Receipt
told pages = flat_map (λ page. own_receipts page.first page.events) pages

-- what is known of a ledger by its calls: the pages, and the receipts that were added up to the last
-- claim and since
pub record IsAudited (ledger : LedgerState) (pages : List PageState) (before since : List Receipt) : Type 0 where
  pub follow : AreInOrder None pages
  pub last : ledger.last ≡ end_after (last_page None pages)
  pub replayed : All IsReplayed pages
  pub waiting : ledger.waiting ≡ later (next_after ledger.last) before ++ since
  pub each : (n : ℕ) → with_number n (due (next_after ledger.last) before) ≡ with_number n (told pages)

follows-snoc : (before : Option PageState) (pages : List PageState) (page : PageState) → AreInOrder before pages → Follows (last_page before pages) page → AreInOrder before (pages ++ page ∷ [])
follows-snoc before [] page f h = (h, tt)
follows-snoc before (p ∷ pages) page f h = (f.0, follows-snoc (Some p) pages page f.1 h)

last_page-snoc : (before : Option PageState) (pages : List PageState) (page : PageState) → last_page before (pages ++ page ∷ []) ≡ Some page
last_page-snoc before [] page = refl
last_page-snoc before (p ∷ pages) page = last_page-snoc (Some p) pages page

-- a page follows one where it follows its end
from_last : (before : Option PageState) (page : PageState) → FollowsLast (end_after before) page → Follows before page
from_last None page h = h
from_last (Some p) page h = record { first = h.first; base = h.base; client = h.client; held = h.held }

to_last : (before : Option PageState) (page : PageState) → Follows before page → FollowsLast (end_after before) page
to_last None page h = h
to_last (Some p) page h = record { first = h.first; base = h.base; client = h.client; held = h.held }

pub next_le : (last : Option Last) (page : PageState) → FollowsLast last page → next_after last ≤ page.first
next_le None page h = omega arith
next_le (Some last) page h = omega (arith, h.first)

told-append : (n : ℕ) (ps qs : List PageState) → with_number n (told (ps ++ qs)) ≡ with_number n (told ps) ++ with_number n (told qs)
told-append n ps qs = ap (with_number n) (flat_map-append (λ (p : PageState). own_receipts p.first p.events) ps qs) ∙ number-append n (told ps) (told qs)

told-cons : (n : ℕ) (page : PageState) (pages : List PageState) → with_number n (told (page ∷ pages)) ≡ with_number n (own_receipts page.first page.events) ++ with_number n (told pages)
told-cons n page pages = number-append n (own_receipts page.first page.events) (told pages)

-- what waits, by number
wait-below : (l n : ℕ) (before since : List Receipt) → n < l → with_number n (later l before ++ since) ≡ with_number n since
wait-below l n before since less = number-append n (later l before) since ∙ ap (λ xs. xs ++ with_number n since) (later-below l n before less)

wait-past : (l n : ℕ) (before since : List Receipt) → l ≤ n → with_number n (later l before ++ since) ≡ with_number n (before ++ since)
wait-past l n before since more =
    number-append n (later l before) since ∙ ap (λ xs. xs ++ with_number n since) (later-past l n before more) ∙ sym (number-append n before since)

-- the receipts below the end of a page that was accepted
step-each : (l e n : ℕ) (before since waiting t o : List Receipt) → l ≤ e → waiting ≡ later l before ++ since
    → with_number n (due l before) ≡ t → with_number n (due e waiting) ≡ o → (n < l → o ≡ []) → (e ≤ n → o ≡ [])
    → with_number n (due e (before ++ since)) ≡ t ++ o
step-each l e n before since waiting t o le w a u below past =
    ⊎_elim
    (λ (less : n < e).
    let whole : with_number n (due e (before ++ since)) ≡ with_number n before ++ with_number n since = due-below e n (before ++ since) less ∙ number-append n before since in
    let here : with_number n (later l before ++ since) ≡ o = ap (with_number n) (sym w) ∙ sym (due-below e n waiting less) ∙ u in
    ⊎_elim
    (λ (old : n < l).
    let none : with_number n since ≡ [] = sym (wait-below l n before since old) ∙ here ∙ below old in
    let was : with_number n before ≡ t = sym (due-below l n before old) ∙ a in
    whole ∙ ap (λ xs. with_number n before ++ xs) none ∙ ap (λ xs. xs ++ []) was ∙ ap (λ xs. t ++ xs) (sym (below old)))
    (λ (new : l ≤ n).
    let none : t ≡ [] = sym a ∙ due-past l n before new in
    let is : with_number n before ++ with_number n since ≡ o = sym (number-append n before since) ∙ sym (wait-past l n before since new) ∙ here in
    whole ∙ is ∙ ap (λ xs. xs ++ o) (sym none))
    (cases_lt n l))
    (λ (more : e ≤ n).
    let none : t ≡ [] = sym a ∙ due-past l n before (omega arith) in
    due-past e n (before ++ since) more ∙ sym (past more) ∙ ap (λ xs. xs ++ o) (sym none))
    (cases_lt n e)

audit-new : IsAudited new_ledger [] [] []
audit-new = record { follow = tt; last = refl; replayed = λ k d less. absurd (omega arith); waiting = refl; each = λ n. refl }

audit-added : (ledger : LedgerState) (pages : List PageState) (before since receipts : List Receipt) → IsAudited ledger pages before since → IsAudited (with_added ledger receipts) pages before (since ++ receipts)
audit-added ledger pages before since receipts h = record {
  follow = h.follow;
  last = h.last;
  replayed = h.replayed;
  waiting = ap (λ xs. xs ++ receipts) h.waiting ∙ append_assoc (later (next_after ledger.last) before) since receipts;
  each = h.each;
}

-- the receipts of a page by their numbers
own_of : (page : PageState) (receipts : List Receipt) → IsUnion (page ∷ []) receipts → (n : ℕ) → with_number n receipts ≡ with_number n (own_receipts page.first page.events)
own_of page receipts union n = (are_own (page ∷ []) receipts union).each n ∙ ap (λ es. with_number n (own_receipts page.first es)) (append-nil page.events)

audit-claimed : (ledger : LedgerState) (pages : List PageState) (before since : List Receipt) (page : PageState) → IsPage page → Accepts ledger page
    → IsAudited ledger pages before since → IsAudited (with_claimed ledger page) (pages ++ page ∷ []) (before ++ since) []
audit-claimed ledger pages before since page is ok h =
    let le : next_after ledger.last ≤ page.first = next_le ledger.last page ok.follows in
    record {
      follow = follows-snoc None pages page h.follow (from_last (last_page None pages) page (subst (λ o. FollowsLast o page) h.last ok.follows));
      last = sym (ap end_after (last_page-snoc None pages page));
      replayed = All-push IsReplayed pages page h.replayed (record { legal = is.legal; replayed = is.replayed });
      waiting =
          ap (later (next_of page)) h.waiting
          ∙ filter-append (λ (r : Receipt). nat_le (next_of page) r.number) (later (next_after ledger.last) before) since
          ∙ ap (λ xs. xs ++ later (next_of page) since) (later-later (next_after ledger.last) (next_of page) before (omega arith))
          ∙ sym (filter-append (λ (r : Receipt). nat_le (next_of page) r.number) before since)
          ∙ sym (append-nil (later (next_of page) (before ++ since)));
      each = λ n.
          step-each (next_after ledger.last) (next_of page) n before since ledger.waiting (with_number n (told pages)) (with_number n (own_receipts page.first page.events)) (omega arith) h.waiting (h.each n)
          (own_of page (due (next_of page) ledger.waiting) ok.union n)
          (λ less. own-below page.first n page.events (omega arith)) (λ more. own-past page.first n page.events more)
          ∙ ap (λ xs. with_number n (told pages) ++ xs) (ap (with_number n) (sym (append-nil (own_receipts page.first page.events))))
          ∙ sym (told-append n pages (page ∷ []));
    }

-- by all calls
audit-run : (calls : List Call) (old new : LedgerState) (pages : List PageState) (before since : List Receipt) → IsRun old calls new → IsAudited old pages before since
    → IsAudited new (pages ++ pages_of calls) (until_claim before since calls) (since_claim since calls)
audit-run [] old new pages before since run h =
    subst (λ l. IsAudited l (pages ++ []) before since) (sym run) (subst (λ ps. IsAudited old ps before since) (sym (append-nil pages)) h)
audit-run (Added receipts ∷ calls) old new pages before since run h =
    audit-run calls (with_added old receipts) new pages before (since ++ receipts) run (audit-added old pages before since receipts h)
audit-run (Claimed page ∷ calls) old new pages before since run h =
    subst (λ ps. IsAudited new ps (until_claim (before ++ since) [] calls) (since_claim [] calls)) (append_assoc pages (page ∷ []) (pages_of calls))
    (audit-run calls (with_claimed old page) new (pages ++ page ∷ []) (before ++ since) [] run.2 (audit-claimed old pages before since page run.0 run.1 h))

pub audited : (calls : List Call) (ledger : LedgerState) → IsRun new_ledger calls ledger → IsAudited ledger (pages_of calls) (until_claim [] [] calls) (since_claim [] calls)
audited calls ledger run = audit-run calls new_ledger ledger [] [] [] run audit-new

-- what was added up to the last claim and since is all that was added
added-parts : (calls : List Call) (before since : List Receipt) → (before ++ since) ++ added_of calls ≡ until_claim before since calls ++ since_claim since calls
added-parts [] before since = append-nil (before ++ since)
added-parts (Added receipts ∷ calls) before since =
    sym (append_assoc (before ++ since) receipts (added_of calls)) ∙ ap (λ xs. xs ++ added_of calls) (append_assoc before since receipts) ∙ added-parts calls before (since ++ receipts)
added-parts (Claimed page ∷ calls) before since =
    ap (λ xs. xs ++ added_of calls) (sym (append-nil (before ++ since))) ∙ added-parts calls (before ++ since) []

pub all_added : (calls : List Call) → added_of calls ≡ until_claim [] [] calls ++ since_claim [] calls
all_added calls = added-parts calls [] []

-- the receipts of joined events are those of the pages
pub joined : (before : Option PageState) (pages : List PageState) → AreInOrder before pages → own_receipts (first_in pages) (events_in pages) ≡ told pages
joined before [] f = refl
joined before (p ∷ []) f = ap (own_receipts p.first) (append-nil p.events) ∙ sym (append-nil (own_receipts p.first p.events))
joined before (p ∷ q ∷ pages) f =
    own-append p.first p.events (events_in (q ∷ pages))
    ∙ ap (λ xs. own_receipts p.first p.events ++ xs)
    (ap (λ m. own_receipts m (events_in (q ∷ pages))) (sym f.1.0.first) ∙ joined (Some p) (q ∷ pages) f.1)

-- the union of pages in order, by numbers
pub own_told : (pages : List PageState) (receipts : List Receipt) → AreInOrder None pages → IsUnion pages receipts → (n : ℕ) → with_number n receipts ≡ with_number n (told pages)
own_told pages receipts follow union n = (are_own pages receipts union).each n ∙ ap (with_number n) (joined None pages follow)

pub union_told : (pages : List PageState) (receipts : List Receipt) → AreInOrder None pages → ((n : ℕ) → with_number n receipts ≡ with_number n (told pages)) → IsUnion pages receipts
union_told pages receipts follow each = is_union pages receipts (record { each = λ n. each n ∙ ap (with_number n) (sym (joined None pages follow)) })

-- pages that follow one have no receipt below its end
told-below : (before : PageState) (pages : List PageState) (n : ℕ) → AreInOrder (Some before) pages → n < next_of before → with_number n (told pages) ≡ []
told-below before [] n f less = refl
told-below before (p ∷ pages) n f less =
    told-cons n p pages
    ∙ ap (λ xs. xs ++ with_number n (told pages)) (own-below p.first n p.events (omega (arith, f.0.first)))
    ∙ told-below p pages n f.1 (omega (arith, f.0.first))

follows-at : (before : Option PageState) (pages rest : List PageState) (page : PageState) → AreInOrder before (pages ++ page ∷ rest) → Follows (last_page before pages) page × AreInOrder (Some page) rest
follows-at before [] rest page f = (f.0, f.1)
follows-at before (p ∷ pages) rest page f = follows-at (Some p) pages rest page f.1

-- no receipt waits that came too late, where those below an end are the whole's
no_late : (l n : ℕ) (added before since t : List Receipt) → n < l → added ≡ before ++ since → with_number n (due l before) ≡ t → with_number n added ≡ t → with_number n since ≡ []
no_late l n added before since t less split a whole =
    append_cancel_left t (with_number n since) []
    (ap (λ xs. xs ++ with_number n since) (sym (sym (due-below l n before less) ∙ a))
    ∙ sym (number-append n before since) ∙ ap (with_number n) (sym split) ∙ whole ∙ sym (append-nil t))

pub accepts : (pages rest : List PageState) (page : PageState) (receipts : List Receipt) → IsClaim (pages ++ page ∷ rest) receipts
    → (ledger : LedgerState) (added before since : List Receipt) → IsAudited ledger pages before since → added ≡ before ++ since → AreSameBelow (next_of page) added receipts → Accepts ledger page
accepts pages rest page receipts claim ledger added before since h split same =
    let at = follows-at None pages rest page claim.follow in
    let follows : FollowsLast ledger.last page = subst (λ o. FollowsLast o page) (sym h.last) (to_last (last_page None pages) page at.0) in
    let le : next_after ledger.last ≤ page.first = next_le ledger.last page follows in
    let each : (n : ℕ) → with_number n (due (next_of page) ledger.waiting) ≡ with_number n (own_receipts page.first page.events) =
    λ n.
    ⊎_elim
    (λ (less : n < next_of page).
    let all : with_number n added ≡ with_number n (told pages) ++ with_number n (own_receipts page.first page.events) =
    same n less ∙ own_told (pages ++ page ∷ rest) receipts claim.follow claim.union n ∙ told-append n pages (page ∷ rest)
    ∙ ap (λ xs. with_number n (told pages) ++ xs)
    (told-cons n page rest ∙ ap (λ xs. with_number n (own_receipts page.first page.events) ++ xs) (told-below page rest n at.1 less) ∙ append-nil (with_number n (own_receipts page.first page.events))) in
    let here : with_number n (due (next_of page) ledger.waiting) ≡ with_number n (later (next_after ledger.last) before ++ since) =
    due-below (next_of page) n ledger.waiting less ∙ ap (with_number n) h.waiting in
    ⊎_elim
    (λ (old : n < next_after ledger.last).
    let empty : with_number n (own_receipts page.first page.events) ≡ [] = own-below page.first n page.events (omega arith) in
    here ∙ wait-below (next_after ledger.last) n before since old
    ∙ no_late (next_after ledger.last) n added before since (with_number n (told pages)) old split (h.each n)
    (all ∙ ap (λ xs. with_number n (told pages) ++ xs) empty ∙ append-nil (with_number n (told pages)))
    ∙ sym empty)
    (λ (new : next_after ledger.last ≤ n).
    let none : with_number n (told pages) ≡ [] = sym (h.each n) ∙ due-past (next_after ledger.last) n before new in
    here ∙ wait-past (next_after ledger.last) n before since new ∙ ap (with_number n) (sym split) ∙ all
    ∙ ap (λ xs. xs ++ with_number n (own_receipts page.first page.events)) none)
    (cases_lt n (next_after ledger.last)))
    (λ (more : next_of page ≤ n). due-past (next_of page) n ledger.waiting more ∙ sym (own-past page.first n page.events more))
    (cases_lt n (next_of page)) in
    record {
      follows = follows;
      union = is_union (page ∷ []) (due (next_of page) ledger.waiting) (record { each = λ n. each n ∙ ap (λ es. with_number n (own_receipts page.first es)) (sym (append-nil page.events)) });
    }

pub none_waits : (pages : List PageState) (receipts : List Receipt) → IsClaim pages receipts → (ledger : LedgerState) (added before since : List Receipt) → IsAudited ledger pages before since
    → added ≡ before ++ since → ((n : ℕ) → with_number n added ≡ with_number n receipts) → ledger.waiting ≡ []
none_waits pages receipts claim ledger added before since h split same =
    none_at_all ledger.waiting (λ n.
    let all : with_number n added ≡ with_number n (told pages) = same n ∙ own_told pages receipts claim.follow claim.union n in
    ap (with_number n) h.waiting ∙
    ⊎_elim
    (λ (old : n < next_after ledger.last).
    wait-below (next_after ledger.last) n before since old ∙ no_late (next_after ledger.last) n added before since (with_number n (told pages)) old split (h.each n) all)
    (λ (new : next_after ledger.last ≤ n).
    wait-past (next_after ledger.last) n before since new ∙ ap (with_number n) (sym split) ∙ all ∙ sym (h.each n) ∙ due-past (next_after ledger.last) n before new)
    (cases_lt n (next_after ledger.last)))

nothing_left : {X : Type 0} (xs ys : List X) → xs ++ ys ≡ [] → (xs ≡ []) × (ys ≡ [])
nothing_left [] ys is = (refl, is)
nothing_left (x ∷ xs) ys is = cc

pub is_claim : (pages : List PageState) (ledger : LedgerState) (added before since : List Receipt) → IsAudited ledger pages before since → added ≡ before ++ since → ledger.waiting ≡ [] → IsClaim pages added
is_claim pages ledger added before since h split empty =
    let left = nothing_left (later (next_after ledger.last) before) since (sym h.waiting ∙ empty) in
    let all : added ≡ before = split ∙ ap (λ xs. before ++ xs) left.1 ∙ append-nil before in
    record {
      follow = h.follow;
      union = union_told pages added h.follow (λ n.
          ap (with_number n) all ∙
          ⊎_elim
          (λ (old : n < next_after ledger.last). sym (due-below (next_after ledger.last) n before old))
          (λ (new : next_after ledger.last ≤ n).
          sym (later-past (next_after ledger.last) n before new) ∙ ap (with_number n) left.0 ∙ sym (due-past (next_after ledger.last) n before new))
          (cases_lt n (next_after ledger.last))
          ∙ h.each n);
    }

-- where nothing that waits came too late
pub in_time : (pages : List PageState) (ledger : LedgerState) (added before since : List Receipt) → IsAudited ledger pages before since → added ≡ before ++ since
    → All (λ receipt. next_after ledger.last ≤ receipt.number) ledger.waiting → IsUnion pages (due (next_after ledger.last) added)
in_time pages ledger added before since h split new =
    union_told pages (due (next_after ledger.last) added) h.follow (λ n.
    ⊎_elim
    (λ (old : n < next_after ledger.last).
    let none : with_number n ledger.waiting ≡ [] = none_number ledger.waiting n (λ k d less same. let more = new k d less in absurd (omega arith)) in
    let none_since : with_number n since ≡ [] = sym (wait-below (next_after ledger.last) n before since old) ∙ ap (with_number n) (sym h.waiting) ∙ none in
    due-below (next_after ledger.last) n added old ∙ ap (with_number n) split ∙ number-append n before since ∙ ap (λ xs. with_number n before ++ xs) none_since ∙ append-nil (with_number n before)
    ∙ sym (due-below (next_after ledger.last) n before old))
    (λ (past : next_after ledger.last ≤ n). due-past (next_after ledger.last) n added past ∙ sym (due-past (next_after ledger.last) n before past))
    (cases_lt n (next_after ledger.last))
    ∙ h.each n)

-- what was claimed
pub are_claimed : (pages : List PageState) (ledger : LedgerState) (before since : List Receipt) → IsAudited ledger pages before since → AreClaimed ledger pages before since
are_claimed pages ledger before since h = record { union = union_told pages (due (next_after ledger.last) before) h.follow h.each; waiting = h.waiting }
