use Rattle.std.proofs.Common.{cond, None, IsSome, refl, ap, sym, subst, ◌∙◌}
use Rattle.indexmap.specs.IndexMap.{get}
use Rattle.sipl_names.specs.Labels.{same_name}
use Rattle.sipl_records.specs.Sets.{same_kind}
use Rattle.sipl_evidence.specs.Places.{place_among, place_in}
use Rattle.sipl_evidence.proofs.Placing.{place_in-set, place_in-absent}
use Rattle.sipl_evidence.proofs.places.remove_from.Goals as goal

pub returns-in-Some : goal.returns-in-Some
returns-in-Some c =
    let key = c.args.key.now in
    let places = c.in-Some.ensures.value in
    let written = c.get_mut.follows.holds c.set.new.self in
    place_in-set (get same_name c.args.table.now) (get same_name (c.get_mut.follows.lender c.set.new.self)) key None c.set.new.self
    (λ kind. c.set.ensures kind ∙ ap (λ o. cond (same_kind key.kind kind) None (place_among o kind)) places)
    (written.3 (subst IsSome places refl)).0

pub returns-in_default : goal.returns-in_default
returns-in_default c = λ other.
    let key = c.args.key.now in
    ap (λ table. place_in (get same_name table) other) c.get_mut.follows.holds-at-none
    ∙ place_in-absent (get same_name c.args.table.now) key (sym c.in_default.ensures.value) other
