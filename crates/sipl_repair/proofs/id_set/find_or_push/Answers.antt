use Rattle.std.proofs.Common.{sym, ap, ◌∙◌, slice_get, arith}
use Rattle.std.proofs.lemmas.Bool.{le-ltb}
use Rattle.sipl_repair.proofs.Places.{list_any-take_at, list_any-take_absent, slice_get-position, slice_get-push}
use Rattle.sipl_repair.proofs.id_set.find_or_push.Goals as goal

pub returns-in-Some-clause-index : goal.returns-in-Some-clause-index
returns-in-Some-clause-index c = slice_get-position _ _ _ (sym c.in-Some.ensures.index)

pub returns-in-Some-clause-among_kept : goal.returns-in-Some-clause-among_kept
returns-in-Some-clause-among_kept c =
    list_any-take_at _ c.args.ids.now.keys _ _ (sym c.in-Some.ensures.index) c.requires.within

pub truncate_if_full-requires-clause-places : goal.truncate_if_full-requires-clause-places
truncate_if_full-requires-clause-places c =
    c.requires.places (list_any-take_absent _ c.args.ids.now.keys c.args.keep (sym c.in_default.ensures.found))

pub push-requires-clause-new : goal.push-requires-clause-new
push-requires-clause-new c = c.truncate_if_full.ensures.none_new c.args.id (sym c.in_default.ensures.found)

pub returns-clause-index : goal.returns-clause-index
returns-clause-index c =
    ap (λ ks. slice_get ks c.push.result) c.push.ensures.keys ∙ slice_get-push _ _ _ c.push.ensures.index

pub returns-clause-among_kept : goal.returns-clause-among_kept
returns-clause-among_kept c =
    le-ltb _ _ (omega arith)
    ∙ sym (list_any-take_absent _ c.args.ids.now.keys c.args.keep (sym c.in_default.ensures.found))
