-- What a line of a script that was read asks for.
use Rattle.std.specs.Prelude.{Option, Ok, Err, unwrap_or}
use Rattle.sipl_lines.specs.Requests.{meaning_of}
use Rattle.sipl_lines.specs.declared.command.Command.TheVariants.{Unknown}
use Rattle.sipl_lines.specs.declared.script_line.ScriptLine.{ScriptLine}
use Rattle.sipl_lines.specs.declared.script_line.ScriptLine.TheVariants as line
use Rattle.sipl_lines.specs.ScriptLines.{ScriptRequest, session, hand, start, read, commit, lease, settle, abandon, forget}

-- the request of a line
abbrev pub meaning_of_line : ScriptLine → ScriptRequest
meaning_of_line (line.Session command) = session (meaning_of command)
meaning_of_line (line.Hand uri draws) = hand uri.now (Ok draws)
meaning_of_line (line.HandFault uri fault) = hand uri.now (Err fault)
meaning_of_line (line.Start w uri) = start w uri.now
meaning_of_line (line.Read w) = read w
meaning_of_line (line.Commit w draws) = commit w (Ok draws)
meaning_of_line (line.CommitFault w fault) = commit w (Err fault)
meaning_of_line (line.Lease w) = lease w
meaning_of_line (line.Settle w) = settle w
meaning_of_line (line.Abandon w) = abandon w
meaning_of_line (line.Forget uri) = forget uri.now

-- the request of a line, if there is one
abbrev pub meaning_if_read : Option ScriptLine → ScriptRequest
meaning_if_read line_read = meaning_of_line (unwrap_or line_read (line.Session Unknown))
