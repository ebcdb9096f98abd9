-- Timer E while a request waits for its final response.
use Rattle.std.proofs.Common.{◌≡◌, ℕ, ◌+◌, ◌*◌, ◌<◌, ◌≤◌, true, false, min, arith}
use Rattle.std.proofs.lemmas.Bool.Decides.{nat_tests}
use Rattle.sipl_tx.specs.declared.parts.Kind.TheVariants.{Other}
use Rattle.sipl_tx.specs.declared.parts.State.TheVariants.{Trying, Proceeding}
use Rattle.sipl_tx.specs.Table.{no_acts, send_acts}
use Rattle.sipl_tx.specs.Transaction.{Transaction}
use Rattle.sipl_tx.specs.Transaction.Event.{Response, Tick}
use Rattle.sipl_tx.specs.Machine.{awaits_final}
use Rattle.sipl_tx.specs.Runs.{step}

-- a provisional response changes the state
pub provisional_keeps : (t : Transaction) (code : ℕ) → t.kind ≡ Other → awaits_final t.kind t.state ≡ true → 100 ≤ code → code < 200 → (step t (Response code)).transaction ≡ record t { state = Proceeding }
unfolding step
provisional_keeps t code is_other waits low high = grind (arith, nat_tests)

-- a tick before the timer fires changes the time
pub tick_keeps : (t : Transaction) (moment : ℕ) → t.kind ≡ Other → awaits_final t.kind t.state ≡ true → t.moment ≤ moment → moment < t.since + 32000 → moment < t.sent + t.interval → step t (Tick moment) ≡ record { transaction = record t { moment = moment }; acts = no_acts }
unfolding step
tick_keeps t moment is_other waits later before_end before_next = grind (arith, nat_tests)

-- a tick at which the timer has fired
pub resent_in_trying : (t : Transaction) (moment : ℕ) → t.kind ≡ Other → t.state ≡ Trying → t.reliable ≡ false → t.moment ≤ moment → moment < t.since + 32000 → t.sent + t.interval ≤ moment → step t (Tick moment) ≡ record { transaction = record t { moment = moment; sent = moment; interval = min (2 * t.interval) 4000 }; acts = send_acts }
unfolding step
resent_in_trying t moment is_other tries unreliable later before_end at_next = grind (arith, nat_tests)

pub resent_in_proceeding : (t : Transaction) (moment : ℕ) → t.kind ≡ Other → t.state ≡ Proceeding → t.reliable ≡ false → t.moment ≤ moment → moment < t.since + 32000 → t.sent + t.interval ≤ moment → step t (Tick moment) ≡ record { transaction = record t { moment = moment; sent = moment; interval = 4000 }; acts = send_acts }
unfolding step
resent_in_proceeding t moment is_other proceeds unreliable later before_end at_next = grind (arith, nat_tests)
