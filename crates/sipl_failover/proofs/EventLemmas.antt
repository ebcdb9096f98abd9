-- The outcome of one event, by cases of the rules.
use Rattle.std.proofs.Common.{◌≡◌, ◌≢◌, ℕ, ◌+◌, ◌-◌, ◌*◌, ◌≤◌, ◌<◌, true, false, Option, Some, None, is_some, option_to_list, List, [], ◌∷◌, filter, length, slice_get, arith}
use Rattle.std.specs.List.{AllByRecursion}
use Rattle.std.proofs.lemmas.Bool.Decides.{nat_tests}
use Rattle.sipl_choice.specs.declared.endpoint.Endpoint.{Endpoint}
use Rattle.sipl_tx.specs.Transaction.{first_state}
use Rattle.sipl_failover.specs.declared.step.Step.TheVariants.{Send, Hold, Deliver, Exhausted}
use Rattle.sipl_failover.specs.FailoverRun.{FailoverRun, Event, has_ended}
use Rattle.sipl_failover.specs.FailoverRun.Event.{Received, TransportFailed, Ticked}
use Rattle.sipl_failover.specs.Rules.{is_running}
use Rattle.sipl_failover.specs.Runs.{step, IsAck, is_send, is_hold, is_exhausted, is_final, is_final_or_exhausted, contacted}

-- ---- the run

pub same_targets : (run : FailoverRun) (event : Event) → (step run event).run.targets ≡ run.targets
unfolding step
same_targets run event = grind (arith, nat_tests)

pub same_base : (run : FailoverRun) (event : Event) → (step run event).run.base ≡ run.base
unfolding step
same_base run event = grind (arith, nat_tests)

pub ended_stays : (run : FailoverRun) (event : Event) → has_ended run ≡ true → (step run event).run ≡ run
unfolding step
ended_stays run event ended = grind (arith, nat_tests)

pub ended_acks : (run : FailoverRun) (event : Event) → has_ended run ≡ true → AllByRecursion IsAck (step run event).steps
unfolding step
ended_acks run event ended = grind (arith, nat_tests)

-- ---- another target

pub none_sent_stays : (run : FailoverRun) (event : Event) → filter is_send (step run event).steps ≡ [] → (step run event).run.attempt ≡ run.attempt
unfolding step
none_sent_stays run event none = grind (arith, nat_tests)

pub none_sent_contacts : (run : FailoverRun) (event : Event) (targets : List Endpoint) → filter is_send (step run event).steps ≡ [] → contacted targets (step run event).steps ≡ []
unfolding step
none_sent_contacts run event targets none = grind (arith, nat_tests)

pub send_has_target : (run : FailoverRun) (event : Event) → filter is_send (step run event).steps ≢ [] → is_some (slice_get run.targets run.attempt) ≡ true
unfolding step
send_has_target run event some = grind (arith, nat_tests)

pub send_is_next : (run : FailoverRun) (event : Event) → filter is_send (step run event).steps ≢ [] → filter is_send (step run event).steps ≡ Send (run.attempt + 1) ∷ []
unfolding step
send_is_next run event some = grind (arith, nat_tests)

pub send_moves : (run : FailoverRun) (event : Event) → filter is_send (step run event).steps ≢ [] → (step run event).run.attempt ≡ run.attempt + 1
unfolding step
send_moves run (Received attempt code retry_after) some = grind (arith, nat_tests)
send_moves run TransportFailed some = grind (arith, nat_tests)
send_moves run (Ticked moment) some = grind (arith, nat_tests)

-- the target that is contacted
pub send_contacts : (run : FailoverRun) (event : Event) (targets : List Endpoint) → filter is_send (step run event).steps ≢ [] → contacted targets (step run event).steps ≡ option_to_list (slice_get targets (run.attempt + 1 - 1))
unfolding step
send_contacts run (Received attempt code retry_after) targets some = grind (arith, nat_tests)
send_contacts run TransportFailed targets some = grind (arith, nat_tests)
send_contacts run (Ticked moment) targets some = grind (arith, nat_tests)

pub attempt_grows : (run : FailoverRun) (event : Event) → run.attempt ≤ (step run event).run.attempt
unfolding step
attempt_grows run event = grind (arith, nat_tests)

-- a provisional response is none of the first state's, and stays so for the attempt
pub provisional_is_known : (run : FailoverRun) (code : ℕ) (retry_after : Option ℕ) → 1 ≤ run.attempt → has_ended run ≡ false → 100 ≤ code → code < 200 → (step run (Received run.attempt code retry_after)).run.transaction.state ≢ first_state (step run (Received run.attempt code retry_after)).run.transaction.kind
unfolding step
provisional_is_known run code retry_after sent running low high h = grind (arith, nat_tests)

pub provisional_keeps_attempt : (run : FailoverRun) (code : ℕ) (retry_after : Option ℕ) → code < 200 → (step run (Received run.attempt code retry_after)).run.attempt ≡ run.attempt
unfolding step
provisional_keeps_attempt run code retry_after high = grind (arith, nat_tests)

pub provisional_stays_known : (run : FailoverRun) (event : Event) → run.transaction.state ≢ first_state run.transaction.kind → (step run event).run.attempt ≡ run.attempt → (step run event).run.transaction.state ≢ first_state (step run event).run.transaction.kind
unfolding step
provisional_stays_known run (Received attempt code retry_after) known same h = grind (arith, nat_tests)
provisional_stays_known run TransportFailed known same h = grind (arith, nat_tests)
provisional_stays_known run (Ticked moment) known same h = grind (arith, nat_tests)

pub send_code : (run : FailoverRun) (attempt code : ℕ) (retry_after : Option ℕ) → filter is_send (step run (Received attempt code retry_after)).steps ≢ [] → code ≡ 503
unfolding step
send_code run attempt code retry_after some = grind (arith, nat_tests)

pub send_running : (run : FailoverRun) (attempt code : ℕ) (retry_after : Option ℕ) → filter is_send (step run (Received attempt code retry_after)).steps ≢ [] → is_running run attempt ≡ true
unfolding step
send_running run attempt code retry_after some = grind (arith, nat_tests)

pub send_broken : (run : FailoverRun) → filter is_send (step run TransportFailed).steps ≢ [] → has_ended run ≡ false
unfolding step
send_broken run some = grind (arith, nat_tests)

pub send_unanswered : (run : FailoverRun) (moment : ℕ) → filter is_send (step run (Ticked moment)).steps ≢ [] → run.transaction.state ≡ first_state run.transaction.kind
unfolding step
send_unanswered run moment some = grind (arith, nat_tests)

pub send_in_order : (run : FailoverRun) (moment : ℕ) → filter is_send (step run (Ticked moment)).steps ≢ [] → run.transaction.moment ≤ moment
unfolding step
send_in_order run moment some = grind (arith, nat_tests)

pub send_late : (run : FailoverRun) (moment : ℕ) → filter is_send (step run (Ticked moment)).steps ≢ [] → run.transaction.since + 32000 ≤ moment
unfolding step
send_late run moment some = grind (arith, nat_tests)

-- a failure with a target left: the request is sent there
pub code_sends : (run : FailoverRun) (attempt code : ℕ) (retry_after : Option ℕ) (target : Endpoint) → 1 ≤ run.attempt → is_running run attempt ≡ true → code ≡ 503 → slice_get run.targets run.attempt ≡ Some target → filter is_send (step run (Received attempt code retry_after)).steps ≡ Send (run.attempt + 1) ∷ []
unfolding step
code_sends run attempt code retry_after target sent running is_503 left = grind (arith, nat_tests)

pub broken_sends : (run : FailoverRun) (target : Endpoint) → has_ended run ≡ false → slice_get run.targets run.attempt ≡ Some target → filter is_send (step run TransportFailed).steps ≡ Send (run.attempt + 1) ∷ []
unfolding step
broken_sends run target running left = grind (arith, nat_tests)

pub unanswered_sends : (run : FailoverRun) (moment : ℕ) (target : Endpoint) → run.transaction.state ≡ first_state run.transaction.kind → run.transaction.moment ≤ moment → run.transaction.since + 32000 ≤ moment → slice_get run.targets run.attempt ≡ Some target → filter is_send (step run (Ticked moment)).steps ≡ Send (run.attempt + 1) ∷ []
unfolding step
unanswered_sends run moment target no_response in_order late left = grind (arith, nat_tests)

-- ---- all targets have failed

pub exhausted_ends : (run : FailoverRun) (event : Event) → filter is_exhausted (step run event).steps ≢ [] → has_ended (step run event).run ≡ true
unfolding step
exhausted_ends run event some = grind (arith, nat_tests)

pub exhausted_once : (run : FailoverRun) (event : Event) → length (filter is_exhausted (step run event).steps) ≤ 1
unfolding step
exhausted_once run event = grind (arith, nat_tests)

pub exhausted_not_after_end : (run : FailoverRun) (event : Event) → has_ended run ≡ true → filter is_exhausted (step run event).steps ≡ []
unfolding step
exhausted_not_after_end run event ended = grind (arith, nat_tests)

pub exhausted_has_none_left : (run : FailoverRun) (event : Event) → filter is_exhausted (step run event).steps ≢ [] → slice_get run.targets run.attempt ≡ None
unfolding step
exhausted_has_none_left run event some = grind (arith, nat_tests)

pub exhausted_code : (run : FailoverRun) (attempt code : ℕ) (retry_after : Option ℕ) → filter is_exhausted (step run (Received attempt code retry_after)).steps ≢ [] → code ≡ 503
unfolding step
exhausted_code run attempt code retry_after some = grind (arith, nat_tests)

pub exhausted_running : (run : FailoverRun) (attempt code : ℕ) (retry_after : Option ℕ) → filter is_exhausted (step run (Received attempt code retry_after)).steps ≢ [] → is_running run attempt ≡ true
unfolding step
exhausted_running run attempt code retry_after some = grind (arith, nat_tests)

pub exhausted_broken : (run : FailoverRun) → filter is_exhausted (step run TransportFailed).steps ≢ [] → has_ended run ≡ false
unfolding step
exhausted_broken run some = grind (arith, nat_tests)

pub exhausted_unanswered : (run : FailoverRun) (moment : ℕ) → filter is_exhausted (step run (Ticked moment)).steps ≢ [] → run.transaction.state ≡ first_state run.transaction.kind
unfolding step
exhausted_unanswered run moment some = grind (arith, nat_tests)

pub exhausted_in_order : (run : FailoverRun) (moment : ℕ) → filter is_exhausted (step run (Ticked moment)).steps ≢ [] → run.transaction.moment ≤ moment
unfolding step
exhausted_in_order run moment some = grind (arith, nat_tests)

pub exhausted_late : (run : FailoverRun) (moment : ℕ) → filter is_exhausted (step run (Ticked moment)).steps ≢ [] → run.transaction.since + 32000 ≤ moment
unfolding step
exhausted_late run moment some = grind (arith, nat_tests)

-- ---- a failure without a target left

pub code_exhausts : (run : FailoverRun) (attempt code : ℕ) (retry_after : Option ℕ) → 1 ≤ run.attempt → is_running run attempt ≡ true → code ≡ 503 → slice_get run.targets run.attempt ≡ None → filter is_final_or_exhausted (step run (Received attempt code retry_after)).steps ≡ Deliver 500 ∷ Exhausted ∷ []
unfolding step
code_exhausts run attempt code retry_after sent running is_503 none = grind (arith, nat_tests)

pub broken_exhausts : (run : FailoverRun) → has_ended run ≡ false → slice_get run.targets run.attempt ≡ None → filter is_final_or_exhausted (step run TransportFailed).steps ≡ Deliver 500 ∷ Exhausted ∷ []
unfolding step
broken_exhausts run running none = grind (arith, nat_tests)

pub unanswered_exhausts : (run : FailoverRun) (moment : ℕ) → run.transaction.state ≡ first_state run.transaction.kind → run.transaction.moment ≤ moment → run.transaction.since + 32000 ≤ moment → slice_get run.targets run.attempt ≡ None → filter is_final_or_exhausted (step run (Ticked moment)).steps ≡ Deliver 408 ∷ Exhausted ∷ []
unfolding step
unanswered_exhausts run moment no_response in_order late none = grind (arith, nat_tests)

-- ---- holds

pub no_retry_holds_none : (run : FailoverRun) (attempt code : ℕ) → filter is_hold (step run (Received attempt code None)).steps ≡ []
unfolding step
no_retry_holds_none run attempt code = grind (arith, nat_tests)

pub zero_retry_holds_none : (run : FailoverRun) (attempt code : ℕ) → filter is_hold (step run (Received attempt code (Some 0))).steps ≡ []
unfolding step
zero_retry_holds_none run attempt code = grind (arith, nat_tests)

pub hold_code : (run : FailoverRun) (attempt code : ℕ) (retry_after : Option ℕ) → filter is_hold (step run (Received attempt code retry_after)).steps ≢ [] → code ≡ 503
unfolding step
hold_code run attempt code retry_after some = grind (arith, nat_tests)

pub hold_running : (run : FailoverRun) (attempt code : ℕ) (retry_after : Option ℕ) → filter is_hold (step run (Received attempt code retry_after)).steps ≢ [] → is_running run attempt ≡ true
unfolding step
hold_running run attempt code retry_after some = grind (arith, nat_tests)

pub hold_broken : (run : FailoverRun) → filter is_hold (step run TransportFailed).steps ≢ [] → has_ended run ≡ false
unfolding step
hold_broken run some = grind (arith, nat_tests)

pub hold_unanswered : (run : FailoverRun) (moment : ℕ) → filter is_hold (step run (Ticked moment)).steps ≢ [] → run.transaction.state ≡ first_state run.transaction.kind
unfolding step
hold_unanswered run moment some = grind (arith, nat_tests)

pub hold_in_order : (run : FailoverRun) (moment : ℕ) → filter is_hold (step run (Ticked moment)).steps ≢ [] → run.transaction.moment ≤ moment
unfolding step
hold_in_order run moment some = grind (arith, nat_tests)

pub hold_late : (run : FailoverRun) (moment : ℕ) → filter is_hold (step run (Ticked moment)).steps ≢ [] → run.transaction.since + 32000 ≤ moment
unfolding step
hold_late run moment some = grind (arith, nat_tests)

pub code_holds : (run : FailoverRun) (attempt code seconds : ℕ) (endpoint : Endpoint) → 1 ≤ run.attempt → is_running run attempt ≡ true → code ≡ 503 → 0 < seconds → slice_get run.targets (run.attempt - 1) ≡ Some endpoint → filter is_hold (step run (Received attempt code (Some seconds))).steps ≡ Hold endpoint (seconds * 1000) ∷ []
unfolding step
code_holds run attempt code seconds endpoint sent running is_503 positive there = grind (arith, nat_tests)

pub broken_holds : (run : FailoverRun) (endpoint : Endpoint) → has_ended run ≡ false → slice_get run.targets (run.attempt - 1) ≡ Some endpoint → filter is_hold (step run TransportFailed).steps ≡ Hold endpoint 30000 ∷ []
unfolding step
broken_holds run endpoint running there = grind (arith, nat_tests)

pub unanswered_holds : (run : FailoverRun) (moment : ℕ) (endpoint : Endpoint) → run.transaction.state ≡ first_state run.transaction.kind → run.transaction.moment ≤ moment → run.transaction.since + 32000 ≤ moment → slice_get run.targets (run.attempt - 1) ≡ Some endpoint → filter is_hold (step run (Ticked moment)).steps ≡ Hold endpoint 30000 ∷ []
unfolding step
unanswered_holds run moment endpoint no_response in_order late there = grind (arith, nat_tests)

-- ---- final responses

pub final_ends : (run : FailoverRun) (event : Event) → filter is_final (step run event).steps ≢ [] → has_ended (step run event).run ≡ true
unfolding step
final_ends run event some = grind (arith, nat_tests)

pub final_once : (run : FailoverRun) (event : Event) → length (filter is_final (step run event).steps) ≤ 1
unfolding step
final_once run event = grind (arith, nat_tests)

pub final_not_after_end : (run : FailoverRun) (event : Event) → has_ended run ≡ true → filter is_final (step run event).steps ≡ []
unfolding step
final_not_after_end run event ended = grind (arith, nat_tests)

pub end_is_final : (run : FailoverRun) (event : Event) → has_ended run ≡ false → has_ended (step run event).run ≡ true → length (filter is_final (step run event).steps) ≡ 1
unfolding step
end_is_final run event running ended = grind (arith, nat_tests)
