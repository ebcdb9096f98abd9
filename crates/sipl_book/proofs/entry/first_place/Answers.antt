use Rattle.std.proofs.Common.{◌≡◌, sym, ap, ◌∙◌, rules, arith, length}
use Rattle.sipl_book.proofs.Free.{first-one, first-none}
use Rattle.sipl_book.proofs.entry.first_place.Goals as goal

pub returns-in-1-clause-first : goal.returns-in-1-clause-first
returns-in-1-clause-first c =
    first-one c.args.layout.now c.in-Servers.field-0 c.in-Servers.servers c.args.draws.now c.in-Servers.is (search rules)

pub returns-in_default-len-clause-first : goal.returns-in_default-len-clause-first
returns-in_default-len-clause-first c =
    first-none c.args.layout.now c.in-Servers.field-0 c.in-Servers.servers c.args.draws.now c.in-Servers.is
    (λ one. omega (arith, c.in_default-len, c.len.ensures, one)) (λ two. omega (arith, c.in_default-len, c.len.ensures, two))
