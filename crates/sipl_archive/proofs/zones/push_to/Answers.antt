use Rattle.std.proofs.Common.{◌∷◌, [], map, sym, ap, ◌∙◌, arith}
use Rattle.std.proofs.lemmas.List.{map-append}
use Rattle.sipl_archive.proofs.Sorting.{put_nowhere, put_to}
use Rattle.sipl_archive.proofs.zones.push_to.Goals as goal

pub returns-in_ok-push-clause-sorted : goal.returns-in_ok-push-clause-sorted
returns-in_ok-push-clause-sorted c =
    put_to (λ list. map (λ r. r.now) list.items) c.args.apexes.now.keys c.args.name.now c.args.added.now c.args.lists.now.items c.in-Some.place
    c.index_mut.result.now c.push.new.self c.requires.unique c.requires.len (sym c.in-Some.is ∙ c.get_index_of.ensures.index) (omega (arith, c.in-Some.ensures.within))
    c.index_mut.ensures.value
    (ap (map (λ r. r.now)) c.in_ok-push.ensures.items ∙ map-append (λ r. r.now) c.index_mut.result.now.items (c.args.added ∷ []))

pub returns-in_default-clause-sorted : goal.returns-in_default-clause-sorted
returns-in_default-clause-sorted c = put_nowhere c.args.apexes.now.keys c.args.name.now c.args.added.now _ (sym c.in_default.is ∙ c.get_index_of.ensures.index)
