-- Holds and the clock: endpoints that are left out, or tried last, for a time after they failed
-- (RFC 3263, 4.3). Times are milliseconds.
use Rattle.std.specs.Prelude.{ℕ, ◌+◌, ◌^◌, max, Bool, not, ◌&&◌, ◌==◌, nat_lt, nat_le, if◌then◌else◌, List, [], ◌∷◌, ◌++◌, length, map, filter, Option, None, Some, unwrap_or}
use Rattle.std.specs.Map.{lookup}
use Rattle.sipl_choice.specs.declared.endpoint.Endpoint.{Endpoint}
use Rattle.sipl_choice.specs.Endpoints.{same_endpoint}
use Rattle.sipl_outages.specs.declared.fault.BoardFault.{BoardFault}
use Rattle.sipl_outages.specs.declared.fault.BoardFault.TheVariants.{ClockBack, TooFar, NotHeld, BoardFull}

-- the present time, and the held endpoints with the ends of their holds, in the order in which the
-- holds began
pub record Holds : Type 0 where
  pub now : ℕ
  pub ends : List (Endpoint × ℕ)

-- nothing is held, at time 0
abbrev pub no_holds : Holds
no_holds = record { now = 0; ends = [] }

-- the end of an endpoint's hold, or 0 where it has none
abbrev pub end_of : Holds → Endpoint → ℕ
end_of holds endpoint = unwrap_or (lookup (same_endpoint endpoint) holds.ends) 0

-- an endpoint is held while the present time is before the end
abbrev pub is_held : Holds → Endpoint → Bool
is_held holds endpoint = nat_lt holds.now (end_of holds endpoint)

-- a change of the holds or of the clock: an endpoint is held for some milliseconds from now,
-- released, or the time is set
pub data BoardEvent : Type 0 where
  Hold : Endpoint → ℕ → BoardEvent
  Release : Endpoint → BoardEvent
  Advance : ℕ → BoardEvent

-- whether a hold is a new one: of an endpoint that is not held, and for more than 0 ms
abbrev pub is_new_hold : Endpoint → ℕ → Holds → Bool
is_new_hold endpoint ms holds = not (is_held holds endpoint) && not (ms == 0)

-- a hold of this endpoint ends at the later of its end and this one, and any other stays
abbrev pub extended : Endpoint → ℕ → Endpoint × ℕ → Endpoint × ℕ
extended endpoint end hold =
    if same_endpoint endpoint hold.0 then (hold.0, max hold.1 end) else hold

-- a held endpoint is held to the later end, another one is last, and 0 ms hold nothing new
abbrev pub after_hold : Endpoint → ℕ → Holds → Holds
after_hold endpoint ms holds =
    if is_held holds endpoint
    then record { now = holds.now; ends = map (extended endpoint (holds.now + ms)) holds.ends }
    else (if ms == 0 then holds
    else record { now = holds.now; ends = holds.ends ++ (endpoint, holds.now + ms) ∷ [] })

-- the endpoint's hold is taken out
abbrev pub after_release : Endpoint → Holds → Holds
after_release endpoint holds =
    record {
      now = holds.now;
      ends = filter (λ hold. not (same_endpoint endpoint hold.0)) holds.ends;
    }

-- the time is set, and each hold that ends at or before it is taken out
abbrev pub after_advance : ℕ → Holds → Holds
after_advance to holds =
    record { now = to; ends = filter (λ hold. nat_lt to hold.1) holds.ends }

-- the holds and the clock after an event that is accepted
abbrev pub after : BoardEvent → Holds → Holds
after (Hold endpoint ms) holds = after_hold endpoint ms holds
after (Release endpoint) holds = after_release endpoint holds
after (Advance to) holds = after_advance to holds

-- the fault of holding an endpoint, where at most this many may be held
abbrev pub hold_refusal : ℕ → Endpoint → ℕ → Holds → Option BoardFault
hold_refusal max_holds endpoint ms holds =
    if nat_lt (2 ^ 52) (holds.now + ms) then Some TooFar
    else (if is_new_hold endpoint ms holds && nat_le max_holds (length holds.ends)
    then Some BoardFull else None)

-- the fault of releasing an endpoint
abbrev pub release_refusal : Endpoint → Holds → Option BoardFault
release_refusal endpoint holds = if is_held holds endpoint then None else Some NotHeld

-- the fault of setting the time
abbrev pub advance_refusal : ℕ → Holds → Option BoardFault
advance_refusal to holds =
    if nat_lt to holds.now then Some ClockBack
    else (if nat_lt (2 ^ 52) to then Some TooFar else None)

-- the first fault of an event, where at most this many endpoints may be held
abbrev pub refusal_of : ℕ → BoardEvent → Holds → Option BoardFault
refusal_of max_holds (Hold endpoint ms) holds = hold_refusal max_holds endpoint ms holds
refusal_of max_holds (Release endpoint) holds = release_refusal endpoint holds
refusal_of max_holds (Advance to) holds = advance_refusal to holds
