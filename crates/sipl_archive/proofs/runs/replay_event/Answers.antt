use Rattle.std.proofs.Common.{◌≡◌, ◌++◌, List, ℕ, drop, true, ap, sym, ◌∙◌, append_assoc}
use Rattle.sipl_lines.specs.CommandLines.{first_line}
use Rattle.sipl_archive.specs.Replay.{is_expected}
use Rattle.sipl_archive.proofs.Cutting.{IsCut, command_cut}
use Rattle.sipl_archive.proofs.runs.replay_event.Goals as goal

pub returns-then-is_expected : goal.returns-then-is_expected
returns-then-is_expected c =
    let text = c.args.text.now in
    let command = c.split_at.result.0.now in
    let reply = c.split_at-2.result.0.now in
    let rest = c.split_at-2.result.1.now in
    let event = c.in-Some.ensures in
    let split : text ≡ command ++ drop c.in-Some.len text = c.split_at.ensures.by_index.0 ∙ ap (λ (after : List ℕ). command ++ after) c.split_at.ensures.back in
    let cut : IsCut text command = command_cut text command (drop c.in-Some.len text) event.command split in
    let expected : is_expected (first_line command) reply c.in-Some-replies_to.told.items ≡ true =
    ap (λ (line : List ℕ). is_expected line reply c.in-Some-replies_to.told.items) (sym c.split_line.ensures.line)
    ∙ ap (λ (told : List ℕ). is_expected c.split_line.result.0.now reply told) (sym c.deref.ensures.value)
    ∙ sym c.is_expected.ensures ∙ c.if-is_expected.true in
    record {
      exchange = record { command = command; reply = reply; told = c.in-Some-replies_to.told.items };
      text_is = c.split_at.ensures.by_index.0 ∙ ap (λ (after : List ℕ). command ++ after) c.split_at-2.ensures.by_index.0 ∙ sym (append_assoc command reply rest);
      repeats = record { one = cut.one; replies = c.in-Some-replies_to.ensures; expected = expected };
    }
