-- Facts of the value of a result.
use Rattle.std.proofs.Common.{IfOk, Result, Ok, Err}

-- a fact of a value that follows from another one
pub if_ok : {T E : Type 0} {P Q : T → Type 0} (r : Result T E) → ((value : T) → P value → Q value) → IfOk r P → IfOk r Q
if_ok (Ok value) follows h = follows value h
if_ok (Err _) follows h = tt
