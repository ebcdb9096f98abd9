-- The failover of one request as plain data, and the events that it receives (RFC 3263, 4.3).
use Rattle.std.specs.Prelude.{ℕ, ◌≤◌, Bool, true, false, not, List, length, Option, Some, None, slice_get}
use Rattle.sipl_choice.specs.declared.transport.Transport.{Transport}
use Rattle.sipl_choice.specs.declared.transport.Transport.TheVariants.{Udp, Tcp, Tls, Sctp}
use Rattle.sipl_choice.specs.declared.endpoint.Endpoint.{Endpoint}
use Rattle.sipl_tx.specs.declared.parts.Kind.{Kind}
use Rattle.sipl_tx.specs.Transaction.{Transaction, new_transaction}
use Rattle.sipl_tx.specs.Machine.{awaits_final}

-- the failover of one request
pub record FailoverRun : Type 0 where
  -- where the request can be sent, in the order of preference
  pub targets : List Endpoint
  -- the number that all branches of the request share
  pub base : ℕ
  -- how many targets the request was sent to: the last one is the running attempt's
  pub attempt : ℕ
  -- the client transaction of the last attempt
  pub transaction : Transaction

-- an event: a response to an attempt, with its status code and the seconds of its Retry-After
-- field; an error of the running attempt's transport; a tick of the clock
pub data Event : Type 0 where
  Received : (attempt code : ℕ) (retry_after : Option ℕ) → Event
  TransportFailed : Event
  Ticked : (moment : ℕ) → Event

-- UDP is unreliable, the other transports are reliable (RFC 3261, 17)
abbrev pub is_reliable : Transport → Bool
is_reliable Udp = false
is_reliable Tcp = true
is_reliable Tls = true
is_reliable Sctp = true

-- whether the target has a reliable transport
abbrev pub has_reliable_transport : Option Endpoint → Bool
has_reliable_transport None = false
has_reliable_transport (Some target) = is_reliable target.transport

-- a request that is sent to the first of these targets at this time
abbrev pub new_run : List Endpoint → Kind → ℕ → ℕ → FailoverRun
new_run targets kind base moment =
    record {
      targets = targets;
      base = base;
      attempt = 1;
      transaction =
          new_transaction kind (has_reliable_transport (slice_get targets 0)) moment;
    }

-- the run has ended: its last attempt awaits no final response any more
abbrev pub has_ended : FailoverRun → Bool
has_ended run = not (awaits_final run.transaction.kind run.transaction.state)

-- the attempts: at least one was sent, at most one to each target, and there are at most 2,048
pub record AreSent (targets : List Endpoint) (attempt : ℕ) : Type 0 where
  pub at_least_one : 1 ≤ attempt
  pub one_each : attempt ≤ length targets
  pub limit : length targets ≤ 2048
