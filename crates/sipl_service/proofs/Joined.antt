-- The events of pages that follow one another.
use Rattle.std.proofs.Common.{◌≡◌, ◌<◌, ◌≤◌, ◌+◌, ℕ, zero, suc, List, [], ◌∷◌, ◌++◌, length, take, get_or, None, Some, refl, sym, ap, subst, ◌∙◌, arith, append-nil, take_all}
use Rattle.std.specs.List.{All}
use Rattle.std.proofs.lemmas.List.{take_more}
use Rattle.std.proofs.lemmas.List.Elements.{All-head, All-push, All-tail}
use Rattle.std.proofs.lemmas.Grind.{flat_map-append}
use Rattle.sipl_choice.specs.Abilities.{Client}
use Rattle.sipl_outages.specs.declared.held.Held.{Held}
use Rattle.sipl_book.specs.Machine.{State, IsLegal, after, empty_state, replay}
use Rattle.sipl_book.specs.Pages.{AreInOrder, PageState, events_in}
use Rattle.sipl_book.specs.declared.event.Event.{Event}
use Rattle.sipl_service.specs.Claims.{IsReplayed}

-- what is legal after the first events is legal after them
legal-append : (client : Client) (held : Held) (events later : List Event) (state : State) → IsLegal client held events state
    → IsLegal client held later (replay events state) → IsLegal client held (events ++ later) state
legal-append client held [] later state legal more = more
legal-append client held (event ∷ events) later state legal more =
    (legal.0, legal-append client held events later (after event state) legal.1 more)

-- a page's events are legal for the same client and policy, from the same state
own-legal : (client : Client) (held : Held) (state : State) (page : PageState) → page.client ≡ client → page.held ≡ held → page.base ≡ state → IsReplayed page
    → IsLegal client held page.events state
own-legal client held state page same_client same_held same_base out =
    subst (λ (c : Client). IsLegal c held page.events state) same_client
    (subst (λ (h : Held). IsLegal page.client h page.events state) same_held
    (subst (IsLegal page.client page.held page.events) same_base out.legal))

own-replayed : (state : State) (page : PageState) → page.base ≡ state → IsReplayed page → replay page.events state ≡ page.result
own-replayed state page same_base out = ap (replay page.events) (sym same_base) ∙ out.replayed

-- the events of pages that follow one are legal from its result
later-legal : (client : Client) (held : Held) (before : PageState) → before.client ≡ client → before.held ≡ held → (pages : List PageState) → All IsReplayed pages → AreInOrder (Some before) pages
    → IsLegal client held (events_in pages) before.result
later-legal client held before same_client same_held [] all order = tt
later-legal client held before same_client same_held (page ∷ pages) all order =
    let out : IsReplayed page = All-head IsReplayed page pages all in
    let own_client : page.client ≡ client = order.0.client ∙ same_client in
    let own_held : page.held ≡ held = order.0.held ∙ same_held in
    legal-append client held page.events (events_in pages) before.result
    (own-legal client held before.result page own_client own_held order.0.base out)
    (subst (IsLegal client held (events_in pages)) (sym (own-replayed before.result page order.0.base out))
    (later-legal client held page own_client own_held pages (All-tail IsReplayed page pages all) order.1))

-- pages that follow one are for its client and policy
alike : (before : PageState) (pages : List PageState) → AreInOrder (Some before) pages → (k : ℕ) (d : PageState) → k < length pages
    → ((get_or pages k d).client ≡ before.client) × ((get_or pages k d).held ≡ before.held)
alike before [] order k d within = absurd (omega arith)
alike before (page ∷ pages) order zero d within = (order.0.client, order.0.held)
alike before (page ∷ pages) order (suc k) d within =
    let later = alike page pages order.1 k d (omega arith) in
    (later.0 ∙ order.0.client, later.1 ∙ order.0.held)

first-legal : (first : PageState) (pages : List PageState) → All IsReplayed (first ∷ pages) → AreInOrder None (first ∷ pages)
    → IsLegal first.client first.held (events_in (first ∷ pages)) empty_state
first-legal first pages all order =
    let out : IsReplayed first = All-head IsReplayed first pages all in
    legal-append first.client first.held first.events (events_in pages) empty_state
    (own-legal first.client first.held empty_state first refl refl order.0 out)
    (subst (IsLegal first.client first.held (events_in pages)) (sym (own-replayed empty_state first order.0 out))
    (later-legal first.client first.held first refl refl pages (All-tail IsReplayed first pages all) order.1))

-- the events of pages in order are legal from the empty state, for the client and policy of each
pub joined-legal : (pages : List PageState) → All IsReplayed pages → AreInOrder None pages
    → All (λ page. IsLegal page.client page.held (events_in pages) empty_state) pages
joined-legal [] all order = λ k d within. absurd (omega arith)
joined-legal (first ∷ pages) all order = each
  where
    legal : IsLegal first.client first.held (events_in (first ∷ pages)) empty_state
    legal = first-legal first pages all order

    each : (k : ℕ) (d : PageState) → k < length (first ∷ pages)
        → IsLegal (get_or (first ∷ pages) k d).client (get_or (first ∷ pages) k d).held (events_in (first ∷ pages)) empty_state
    each zero d within = legal
    each (suc k) d within =
        let same = alike first pages order.1 k d (omega arith) in
        subst (λ (c : Client). IsLegal c (get_or pages k d).held (events_in (first ∷ pages)) empty_state) (sym same.0)
        (subst (λ (h : Held). IsLegal first.client h (events_in (first ∷ pages)) empty_state) (sym same.1) legal)

module _ (pages : List PageState) (place : ℕ) (page : PageState) (within : place < length pages) (is : page ≡ get_or pages place page) where
  more : take place pages ++ page ∷ [] ≡ take (place + 1) pages
  more = ap (λ p. take place pages ++ p ∷ []) is ∙ sym (take_more pages place page within)

  -- one page more is joined
  pub joined-next : (events : List Event) (n : ℕ) (joined : List Event) → events ≡ page.events → length events ≤ n → joined ≡ events_in (take place pages) ++ take n events
      → joined ≡ events_in (take (place + 1) pages)
  joined-next events n joined same past have =
      have ∙ ap (λ l. events_in (take place pages) ++ l) (take_all n events past ∙ same ∙ sym (append-nil page.events))
      ∙ sym (flat_map-append (λ (p : PageState). p.events) (take place pages) (page ∷ []))
      ∙ ap events_in more

  pub replayed-next : All IsReplayed (take place pages) → IsReplayed page → All IsReplayed (take (place + 1) pages)
  replayed-next all out = subst (All IsReplayed) more (All-push IsReplayed (take place pages) page all out)
