-- The names of the reasons for no targets.
use Rattle.std.specs.Prelude.{ℕ, List, codes}
use Rattle.sipl_plans.specs.declared.answer.Reason.{Reason}
use Rattle.sipl_plans.specs.declared.answer.Reason.TheVariants.{NoAddress, NotAvailable, NoTransport, AllHeld}

-- a reason's name in replies
abbrev pub reason_text : Reason → List ℕ
reason_text NoAddress = codes "NoAddress"
reason_text NotAvailable = codes "NotAvailable"
reason_text NoTransport = codes "NoTransport"
reason_text AllHeld = codes "AllHeld"
