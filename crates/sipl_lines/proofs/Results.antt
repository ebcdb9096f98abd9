-- What holds where a call fails, or does not.
use Rattle.std.proofs.Common.{◌≡◌, true, false, is_err, Result, Ok, Err, OnOk, OnErr}

-- what is said of an error holds where there is one
pub at_error : {T E : Type 0} (r : Result T E) (P : Type 0) → is_err r ≡ true → OnErr r P → P
at_error (Ok x) P failed fact = cc
at_error (Err e) P failed fact = fact

-- what is said of a success holds where there is one
pub at_success : {T E : Type 0} (r : Result T E) (P : Type 0) → is_err r ≡ false → OnOk r P → P
at_success (Ok x) P fine fact = fact
at_success (Err e) P fine fact = cc

-- two facts of an error give a third
pub on_err_both : {T E P Q R : Type 0} (r : Result T E) → (P → Q → R) → OnErr r P → OnErr r Q → OnErr r R
on_err_both (Ok x) both first second = tt
on_err_both (Err e) both first second = both first second

-- a fact of a success gives another
pub on_ok : {T X P Q : Type 0} (r : Result T X) → (P → Q) → OnOk r P → OnOk r Q
on_ok (Ok value) weaker fact = weaker fact
on_ok (Err e) weaker fact = tt

-- a fact of an error gives another
pub on_err : {T X P Q : Type 0} (r : Result T X) → (P → Q) → OnErr r P → OnErr r Q
on_err (Ok value) weaker fact = tt
on_err (Err e) weaker fact = weaker fact
