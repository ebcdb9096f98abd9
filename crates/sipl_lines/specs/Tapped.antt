-- What a clause reads of a `Tapped` reader or writer.
use Rattle.std.specs.Prelude.{ℕ, ◌&&◌, ◌==◌, Bool, true, List, length, not, Result}
use Rattle.std.specs.Prelude.{Ok, Err}
use Rattle.sipl_lines.specs.declared.tapped.Tapped.{Tapped}

-- what is wrapped
abbrev pub tapped_inner : {T : Type 0} → Tapped T → T
tapped_inner t = t.inner

-- a call returned an error, or a write of a text that is not empty wrote nothing
abbrev pub has_failed : {T : Type 0} → Tapped T → Bool
has_failed t = t.failed

-- how many reads there were
abbrev pub read_count : {T : Type 0} → Tapped T → ℕ
read_count t = t.reads

-- the write of a text failed: it returned an error, or wrote nothing of a text that is not empty
abbrev pub write_fails : {E : Type 0} → Result ℕ E → List ℕ → Bool
write_fails (Ok n) text = n == 0 && not (length text == 0)
write_fails (Err e) text = true
