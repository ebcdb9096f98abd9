-- A client transaction as plain data, and the events that it receives.
use Rattle.std.specs.Prelude.{ℕ, Bool}
use Rattle.sipl_tx.specs.declared.parts.Kind.{Kind}
use Rattle.sipl_tx.specs.declared.parts.Kind.TheVariants.{Invite, Other}
use Rattle.sipl_tx.specs.declared.parts.State.{State}
use Rattle.sipl_tx.specs.declared.parts.State.TheVariants.{Calling, Trying}
use Rattle.sipl_tx.specs.Timers.{first_interval}

-- a client transaction (RFC 3261, 17.1). All times are in milliseconds
pub record Transaction : Type 0 where
  pub kind : Kind
  -- whether its transport is reliable
  pub reliable : Bool
  pub state : State
  -- the time of the last start or tick
  pub moment : ℕ
  -- the time from which timer B, F, D or K counts: the start, in Completed the final response
  pub since : ℕ
  -- the time at which the request was last sent, from which timer A or E counts
  pub sent : ℕ
  -- how long timer A or E runs from then on
  pub interval : ℕ

-- an event: a response with a status code, an error of the transport, a tick of the clock
pub data Event : Type 0 where
  Response : (code : ℕ) → Event
  TransportError : Event
  Tick : (moment : ℕ) → Event

-- the state that a request of this kind starts in
abbrev pub first_state : Kind → State
first_state Invite = Calling
first_state Other = Trying

-- a transaction whose request is first sent at this time
abbrev pub new_transaction : Kind → Bool → ℕ → Transaction
new_transaction kind reliable moment =
    record {
      kind = kind;
      reliable = reliable;
      state = first_state kind;
      moment = moment;
      since = moment;
      sent = moment;
      interval = first_interval;
    }
