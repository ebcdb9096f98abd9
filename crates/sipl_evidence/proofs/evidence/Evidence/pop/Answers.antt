use Rattle.std.proofs.Common.{cond, None, ap, subst, ◌∙◌}
use Rattle.sipl_records.specs.Sets.{same_key}
use Rattle.sipl_evidence.specs.Places.{place_in, table_of, IsEvidence}
use Rattle.sipl_evidence.proofs.Placing.{evidence-pop}
use Rattle.sipl_evidence.proofs.evidence.Evidence.pop.Goals as goal

pub invariant_of-self-2 : goal.invariant_of-self-2
invariant_of-self-2 c =
    let old = table_of c.self.inside.places in
    let indexed = subst (λ items. IsEvidence items old) c.in_ok-item.ensures.items c.self.invariant in
    evidence-pop c.pop.new.self.items c.in_ok-item.item old (table_of c.remove_place.new.table) indexed
    (λ k. c.remove_place.ensures k ∙ ap (λ own. cond (same_key own k) None (place_in old k)) c.key.ensures.key)
