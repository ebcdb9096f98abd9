use Rattle.std.proofs.Common.{◌≡◌, ◌≤◌, ◌++◌, take, vec_capacity, flat_map}
use Rattle.sipl_lines.specs.ReplyText.{evidence_line}
use Rattle.sipl_lines.proofs.reply.append_evidence.Given as goal

-- the lines so far stand behind what was there
abbrev pub invariant-loop-item : goal.invariant-loop-item
invariant-loop-item l =
    (l.out.items ≡ l.fn.out.items ++ flat_map evidence_line (take l.item-index l.items))
    × (vec_capacity l.fn.out ≤ vec_capacity l.out)
