-- Lists of events: the state after them, and the holds that last.
use Rattle.std.specs.Prelude.{◌≡◌, ℕ, ◌+◌, ◌<◌, Bool, false, List, [], ◌∷◌, ◌++◌, None}
use Rattle.std.specs.List.{list_any}
use Rattle.sipl_choice.specs.declared.endpoint.Endpoint.{Endpoint}
use Rattle.sipl_choice.specs.Endpoints.{same_endpoint}
use Rattle.sipl_outages.specs.Holds.{Holds, no_holds, BoardEvent, refusal_of, after}
use Rattle.sipl_outages.specs.Holds.BoardEvent.{Hold, Release, Advance}

-- the holds and the clock after a list of events
abbrev pub after_all : List BoardEvent → Holds → Holds
after_all [] holds = holds
after_all (event ∷ events) holds = after_all events (after event holds)

-- each of the events is accepted in the state that the earlier ones leave
abbrev pub AreAccepted : ℕ → List BoardEvent → Holds → Type 0
AreAccepted max_holds [] holds = Unit {0}
AreAccepted max_holds (event ∷ events) holds =
    (refusal_of max_holds event holds ≡ None) × AreAccepted max_holds events (after event holds)

-- whether an event releases the endpoint
abbrev pub releases : Endpoint → BoardEvent → Bool
releases endpoint (Hold other ms) = false
releases endpoint (Release other) = same_endpoint endpoint other
releases endpoint (Advance to) = false

-- among the events is a hold of the endpoint that was not released since, and that ends after the
-- time at which the events leave the clock
pub record HasLastingHold (events : List BoardEvent) (endpoint : Endpoint) : Type 0 where
  pub earlier : List BoardEvent
  pub ms : ℕ
  pub later : List BoardEvent
  pub event : events ≡ earlier ++ Hold endpoint ms ∷ later
  pub not_released : list_any (releases endpoint) later ≡ false
  pub lasts : (after_all events no_holds).now < (after_all earlier no_holds).now + ms
