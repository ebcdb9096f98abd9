-- A board of holds, what always holds of it, and how its calls end.
use Rattle.std.specs.Prelude.{◌≡◌, ◌≢◌, ℕ, ◌^◌, ◌≤◌, ◌&&◌, nat_lt, nat_le, Bool, true, length, None, Some, Result, MatchResult, OnOk, OnErr, IfErr}
use Rattle.std.specs.List.{list_all, IsDistinct}
use Rattle.std.specs.Map.{keys_of}
use Rattle.sipl_choice.specs.declared.endpoint.Endpoint.{Endpoint}
use Rattle.sipl_choice.specs.Endpoints.{same_endpoint}
use Rattle.sipl_outages.specs.Holds.{Holds, BoardEvent, refusal_of, after}
use Rattle.sipl_outages.specs.declared.fault.BoardFault.{BoardFault}
use Rattle.sipl_outages.specs.declared.fault.BoardFault.TheVariants.{Memory}

-- what callers see of a board: the holds and the clock, and the maximum of held endpoints
pub record BoardState : Type 0 where
  pub holds : Holds
  pub max_holds : ℕ

-- whether a hold ends after this time, and by 2^52
abbrev pub is_lasting : ℕ → Endpoint × ℕ → Bool
is_lasting now hold = nat_lt now hold.1 && nat_le hold.1 (2 ^ 52)

-- no endpoint has two holds, each hold lasts and ends by 2^52, and there are at most `max_holds`,
-- which is at most 4,096; the time is at most 2^52
pub record IsConsistent (board : BoardState) : Type 0 where
  pub distinct : IsDistinct same_endpoint (keys_of board.holds.ends)
  pub lasting : list_all (is_lasting board.holds.now) board.holds.ends ≡ true
  pub within : length board.holds.ends ≤ board.max_holds
  pub limit : board.max_holds ≤ 4096
  pub time : board.holds.now ≤ 2 ^ 52

-- a look for the fault of an event gives it, if there is one
abbrev pub Finds : BoardEvent → BoardState → Result (Unit {0}) BoardFault → Type 0
Finds event board result =
    MatchResult result (λ _. refusal_of board.max_holds event board.holds ≡ None)
    (λ fault. refusal_of board.max_holds event board.holds ≡ Some fault)

-- how a call ends that makes an event of a board: it is accepted exactly where no fault applies,
-- and else the board stays; an allocation failure may come in place of either; what always holds of
-- a board holds after each
pub record Makes {A : Type 0} (event : BoardEvent) (old new : BoardState)
    (result : Result A BoardFault) : Type 0 where
  pub accepted : OnOk result (refusal_of old.max_holds event old.holds ≡ None)
  pub after : OnOk result (new.holds ≡ after event old.holds)
  pub refused : IfErr result
      (λ fault. fault ≢ Memory → refusal_of old.max_holds event old.holds ≡ Some fault)
  pub unchanged : OnErr result (new.holds ≡ old.holds)
  pub limit : new.max_holds ≡ old.max_holds
  pub consistent : IsConsistent new
