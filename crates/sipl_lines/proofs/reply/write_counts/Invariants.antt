use Rattle.std.proofs.Common.{◌≡◌, ◌+◌, ◌-◌, ◌*◌, ◌≤◌, ◌++◌, length, take, vec_len, vec_capacity, flat_map}
use Rattle.sipl_lines.specs.ReplyText.{number_field}
use Rattle.sipl_lines.proofs.reply.write_counts.Given as goal

-- the numbers so far stand behind the words, and there is room for the others
abbrev pub invariant-loop-number : goal.invariant-loop-number
invariant-loop-number l =
    (l.out.items ≡ l.fn.out.items ++ l.words ++ flat_map number_field (take l.number-index l.numbers))
    × (vec_len l.out + 21 * (length l.numbers - l.number-index) + 1 ≤ vec_capacity l.out)
    × (vec_capacity l.fn.out ≤ vec_capacity l.out)
