use Rattle.std.proofs.Common.{sym, ◌+◌}
use Rattle.sipl_records.proofs.Public.{rest_whole}
use Rattle.sipl_masterfile.proofs.Scanning.{begins-quoted, begins-open}
use Rattle.sipl_masterfile.proofs.tokens.quoted_field.Goals as goal

pub returns-in-Some : goal.returns-in-Some
returns-in-Some c =
    let begins = begins-quoted c.args.text.now _ c.in-Some.len (sym c.in-Some.ensures.value) c.in-Some.ensures.within (rest_whole c.args.text.now (c.in-Some.len + 1)) in
    record { spells = begins.spells; shorter = begins.shorter }

pub returns-in-None : goal.returns-in-None
returns-in-None c =
    let begins = begins-open c.args.text.now (sym c.in-None.ensures.value) in
    record { spells = begins.spells; shorter = begins.shorter }
