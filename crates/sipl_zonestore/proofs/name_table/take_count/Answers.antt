use Rattle.std.proofs.Common.{◌≡◌, ◌-◌, IsSome, Some, None, subst, refl, sym, ap, ◌∙◌, arith}
use Rattle.sipl_zonestore.specs.NameTable.{NameTable, count_at}
use Rattle.sipl_zonestore.proofs.Counts.{counted-less, counted-none, written-gone}
use Rattle.sipl_zonestore.proofs.name_table.take_count.Goals as goal

pub returns-in_default : goal.returns-in_default
returns-in_default c = λ other.
    let stored : c.get_mut.follows.lender-at-none.entries ≡ c.args.names.now.entries = ap (λ m. m.entries) c.get_mut.follows.holds-at-none in
    ap (λ (es : NameTable). count_at es other) stored ∙ counted-none c.args.names.now.entries c.args.name.now c.args.count c.in_default.ensures.value other

pub returns-then-own-count : goal.returns-then-own-count
returns-then-own-count c =
    let written = c.in-Some.own.now - c.args.count in
    counted-less c.args.names.now.entries (c.get_mut.follows.lender written).entries c.args.name.now (Some c.in-Some.own.now) (Some written) c.args.count ((c.get_mut.follows.holds written).3 (subst IsSome c.in-Some.ensures.value refl)).0 c.in-Some.ensures.value refl

pub returns : goal.returns
returns c =
    let kept = c.in-Some.own.now in
    let few : kept - c.args.count ≡ 0 = omega (arith, c.if-own-count.false) in
    counted-less c.args.names.now.entries c.swap_remove.new.self.entries c.args.name.now (Some kept) None c.args.count (written-gone c.args.names.now.entries (c.get_mut.follows.lender kept).entries c.swap_remove.new.self.entries c.args.name.now (Some kept) ((c.get_mut.follows.holds kept).3 (subst IsSome c.in-Some.ensures.value refl)).0 c.swap_remove.ensures.updates.0) c.in-Some.ensures.value (sym few)
