-- Which lines of the log are written.
use Rattle.std.specs.Prelude.{ℕ, List, Option, Some, None, codes, nat_eq, if◌then◌else◌}
use lib.Pointwise.{pointwise}
use Rattle.sipl_log.specs.declared.level.Verbosity.{Verbosity}
use Rattle.sipl_log.specs.declared.level.Verbosity.TheVariants.{Off, Error, Warn, Info, Debug}

-- the last level whose lines are written
abbrev pub verbosity_rank : Verbosity → ℕ
verbosity_rank Off = 0
verbosity_rank Error = 1
verbosity_rank Warn = 2
verbosity_rank Info = 3
verbosity_rank Debug = 4

-- how much is written, by its word
abbrev pub verbosity_of : List ℕ → Option Verbosity
verbosity_of word =
    if pointwise nat_eq word (codes "off") then Some Off
    else (if pointwise nat_eq word (codes "error") then Some Error
    else (if pointwise nat_eq word (codes "warn") then Some Warn
    else (if pointwise nat_eq word (codes "info") then Some Info
    else (if pointwise nat_eq word (codes "debug") then Some Debug else None))))
