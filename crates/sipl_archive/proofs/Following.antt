-- The run of a page: one that begins, or the last one.
use Rattle.std.proofs.Common.{◌≡◌, ℕ, Bool, true, false, Option, Some, refl}
use Rattle.std.specs.Bool.{OnTrue, OnFalse}
use Rattle.std.proofs.lemmas.Bool.{false≢true}
use Rattle.sipl_names.specs.Labels.{Octets}
use Rattle.sipl_archive.specs.Runs.{BeginsRun, IsBegun, begins_run}
use Rattle.sipl_archive.specs.declared.runs.Run.{Run}

on_true : (b : Bool) (P Q : Type 0) → b ≡ true → P → OnTrue b P × OnFalse b Q
on_true true P Q is p = (p, tt)
on_true false P Q is p = absurd (false≢true is)

on_false : (b : Bool) (P Q : Type 0) → b ≡ false → Q → OnTrue b P × OnFalse b Q
on_false true P Q is q = absurd (false≢true (cc))
on_false false P Q is q = (tt, q)

pub begins_anew : (number first : ℕ) (client : Octets) (old new : Option Run) (run : Run)
    → begins_run number first old ≡ true → new ≡ Some run → IsBegun number client run → BeginsRun number first client old new
begins_anew number first client old new run is is_new begun =
    let both = on_true (begins_run number first old) ((run : Run) × (new ≡ Some run) × IsBegun number client run) (new ≡ old) is (run, is_new, begun) in
    record { begun = both.0; same = both.1 }

pub begins_none : (number first : ℕ) (client : Octets) (old new : Option Run)
    → begins_run number first old ≡ false → new ≡ old → BeginsRun number first client old new
begins_none number first client old new is same =
    let both = on_false (begins_run number first old) ((run : Run) × (new ≡ Some run) × IsBegun number client run) (new ≡ old) is same in
    record { begun = both.0; same = both.1 }
