-- Whether the event of a number is a given one.
use Rattle.std.proofs.Common.{◌≡◌, ◌≢◌, ◌<◌, ◌≤◌, ◌-◌, ℕ, Bool, List, length, get_or, map, Option, None, Some, refl, sym, ap, ◌∙◌}
use Rattle.std.specs.Bool.{MatchBool}
use Rattle.std.specs.Borrow.{Bor}
use Rattle.std.proofs.lemmas.Bool.{cases_from_iff}
use Rattle.std.proofs.lemmas.Option.{same_Some, slice_get-map, slice_get_read}
use Rattle.sipl_book.specs.declared.event.Event.{Event}
use Rattle.sipl_book.specs.contracts.event.EventPartialEq.TheImpl.{eq-value as event_eq}
use Rattle.sipl_book.proofs.Public.{same_event_decides}
use Rattle.sipl_service.specs.Claims.{event_in}
use Rattle.sipl_service.proofs.Numbered.{from_first}

module _ (first : ℕ) (events : List (Bor Event)) (n : ℕ) where
  abbrev found : Option Event
  found = event_in first (map (λ event. event.now) events) n

  -- `==` of the event at the number tells it
  pub is_at : (here : Bor Event) (event : Event) (same : Bool) → first ≤ n → n - first < length events → here ≡ get_or events (n - first) here → same ≡ event_eq.it (get_or events (n - first) here).now event
      → MatchBool same (found ≡ Some event) (found ≢ Some event)
  is_at here event same above within is told_there =
      let told : same ≡ event_eq.it here.now event = told_there ∙ ap (λ (e : Bor Event). event_eq.it e.now event) (sym is) in
      let decides = same_event_decides here.now event in
      let got : found ≡ Some here.now =
      from_first first (map (λ event. event.now) events) n above ∙ slice_get-map (λ (e : Bor Event). e.now) events (n - first)
      ∙ ap (λ (o : Option (Bor Event)). elim o [ Some e ↦ Some e.now | None ↦ None ]) (slice_get_read events (length events) (n - first) here refl within is) in
      cases_from_iff ((λ yes. got ∙ ap (λ e. Some e) (decides.0 (sym told ∙ yes))), (λ some. told ∙ decides.1 (same_Some here.now event (sym got ∙ some))))
