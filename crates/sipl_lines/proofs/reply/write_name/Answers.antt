use Rattle.std.proofs.Common.{rules, ◌≡◌, ◌++◌, length, OnOk, ap, subst, length-append}
use Rattle.sipl_names.specs.NamePrint.{text_of}
use Rattle.sipl_lines.proofs.Lengths.{name_text_is_short}
use Rattle.sipl_lines.proofs.reply.write_name.Goals as goal

pub returns-clause-len : goal.returns-clause-len
returns-clause-len c =
    let name = c.args.name.now in
    let before = c.reserve.new.self.items in
    let written = subst (λ r. OnOk r (c.write.new.out.items ≡ before ++ text_of name)) c.unwrap-2.ensures c.write.ensures.ok in
    search (rules, ap length written, length-append before (text_of name), name_text_is_short name, c.wire_len.ensures.limits.short)
