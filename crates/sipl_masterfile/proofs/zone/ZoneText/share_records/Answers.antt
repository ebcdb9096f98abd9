use Rattle.std.proofs.Common.{◌≡◌, not, vec_items, ap, subst, sym, ◌∙◌}
use Rattle.std.specs.Arc.{arc_value}
use lib.Pointwise.{pointwise}
use Rattle.sipl_records.specs.Sets.{same_record}
use Rattle.sipl_records.proofs.Public.{same_record_is}
use Rattle.sipl_masterfile.specs.Zones.{IsZone}
use Rattle.sipl_masterfile.specs.ZoneText.{zone_with}
use Rattle.sipl_masterfile.proofs.SharedRecords.{equal_records}
use Rattle.sipl_masterfile.proofs.zone.ZoneText.share_records.Goals as goal

pub invariant_of-self : goal.invariant_of-self
invariant_of-self c =
    let differ : c.ne.result ≡ not (pointwise same_record c.deref.result.now.items c.deref-2.result.now.items) = c.ne.ensures ∙ (λ i. not (pointwise (λ x y. same_record_is x y i) c.deref.result.now.items c.deref-2.result.now.items)) in
    let same : (arc_value c.in-Ok.records).items ≡ (arc_value c.self.inside.records).items = ap vec_items (c.in-Ok.ensures ∙ sym c.deref-2.ensures) ∙ sym (equal_records c.deref.result.now.items c.deref-2.result.now.items c.ne.result differ c.if-ne.false) ∙ ap vec_items c.deref.ensures in
    subst (λ rs. IsZone (zone_with c.self.inside.apex rs c.self.inside.outside c.self.inside.repeated)) (sym same) c.self.invariant

pub returns-in-Ok : goal.returns-in-Ok
returns-in-Ok c =
    let differ : c.ne.result ≡ not (pointwise same_record c.deref.result.now.items c.deref-2.result.now.items) = c.ne.ensures ∙ (λ i. not (pointwise (λ x y. same_record_is x y i) c.deref.result.now.items c.deref-2.result.now.items)) in
    let same : (arc_value c.in-Ok.records).items ≡ (arc_value c.self.inside.records).items = ap vec_items (c.in-Ok.ensures ∙ sym c.deref-2.ensures) ∙ sym (equal_records c.deref.result.now.items c.deref-2.result.now.items c.ne.result differ c.if-ne.false) ∙ ap vec_items c.deref.ensures in
    (λ i. zone_with c.self.inside.apex (same i) c.self.inside.outside c.self.inside.repeated) ∙ c.self.view_is
