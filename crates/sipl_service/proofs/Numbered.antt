-- Events that are numbered one by one.
use Rattle.std.proofs.Common.{◌≡◌, ◌≢◌, ◌<◌, ◌≤◌, ◌+◌, ◌-◌, ℕ, Bool, true, false, List, length, nat_lt, slice_get, None, refl, sym, ap, ◌∙◌, inl, inr, arith}
use Rattle.std.proofs.lemmas.Bool.{cond-false, cond-true, le-ltb, ltb-false}
use Rattle.std.proofs.lemmas.Option.{none-some, slice_get_cases}
use Rattle.sipl_book.specs.declared.event.Event.{Event}
use Rattle.sipl_service.specs.Claims.{event_in}

module _ (first : ℕ) (events : List Event) (n : ℕ) where
  -- from the first number on
  pub from_first : first ≤ n → event_in first events n ≡ slice_get events (n - first)
  from_first above = cond-false (nat_lt n first) None (slice_get events (n - first)) (le-ltb n first above)

  -- a number that has an event is one of those of the events
  pub numbered : event_in first events n ≢ None → (first ≤ n) × (n - first < length events)
  numbered has = by (nat_lt n first) refl
    where
      by : (b : Bool) → nat_lt n first ≡ b → (first ≤ n) × (n - first < length events)
      by true is = absurd (has (cond-true (nat_lt n first) None (slice_get events (n - first)) is))
      by false is =
          let above : first ≤ n = ltb-false n first is in
          elim (slice_get_cases events (n - first)).1 [
            | inl some ↦ (above, some.1)
            | inr none ↦ absurd (has (from_first above ∙ none.1))
          ]

-- each number of the events has one
pub has_event : (first : ℕ) (events : List Event) (place : ℕ) → place < length events → event_in first events (first + place) ≢ None
has_event first events place within none =
    let here : first + place - first ≡ place = omega arith in
    let got : slice_get events place ≡ None = ap (slice_get events) (sym here) ∙ sym (from_first first events (first + place) (omega arith)) ∙ none in
    elim (slice_get_cases events place).1 [
      | inl some ↦ none-some some.0 (sym got ∙ some.2)
      | inr past ↦ absurd (omega (arith, within, past.0))
    ]
