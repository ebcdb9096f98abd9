use Rattle.std.proofs.Common.{◌∙◌}
use Rattle.sipl_lines.specs.PlainDesk.{plain_of}
use Rattle.siploc_c.proofs.run.run_lines.Goals as goal

pub returns : goal.returns
returns c =
    record {
      after = plain_of c.replies_to-ending.new.book;
      ending = c.replies_to-ending.result.0;
      text = c.replies_to-ending.result.1.items;
      result = c.write_text.result;
      replies = rw (c.new-book.ensures, c.limits-limits.ensures) at c.replies_to-ending.ensures;
      counted = c.len.ensures ∙ c.replies_to-ending.result.1.ok.0;
      writes = rw (c.of.ensures, c.deref.ensures.value) at c.write_text.ensures;
      number_is = c.number.ensures;
    }
