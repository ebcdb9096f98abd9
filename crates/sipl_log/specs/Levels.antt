-- How much a line of the log matters.
use Rattle.std.specs.Prelude.{ℕ, List, codes}
use Rattle.sipl_log.specs.declared.level.Level.{Level}
use Rattle.sipl_log.specs.declared.level.Level.TheVariants.{Error, Warn, Info, Debug}

-- the word with which a line begins
abbrev pub level_name : Level → List ℕ
level_name Error = codes "error"
level_name Warn = codes "warn"
level_name Info = codes "info"
level_name Debug = codes "debug"

-- the priority of syslog before a line (sd-daemon(3)): err, warning, info, debug
abbrev pub priority_of : Level → List ℕ
priority_of Error = codes "<3>"
priority_of Warn = codes "<4>"
priority_of Info = codes "<6>"
priority_of Debug = codes "<7>"

-- what matters most comes first
abbrev pub level_rank : Level → ℕ
level_rank Error = 1
level_rank Warn = 2
level_rank Info = 3
level_rank Debug = 4
