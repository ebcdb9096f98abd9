use Rattle.std.proofs.Common.{◌≡◌, Some, sym, ap, ◌∙◌}
use Rattle.sipl_evidence.specs.declared.spot.Spot.{Spot}
use Rattle.sipl_evidence.proofs.Linking.{IsNew-last, depends-there}
use Rattle.sipl_evidence.proofs.linked.link_if_new.Goals.{in_default-via-in-Some+else-last-id, in_default-via-in_default}
use Rattle.sipl_evidence.proofs.linked.link_if_new.Goals as goal

pub link-requires-clause-new : goal.link-requires-clause-new
link-requires-clause-new c =
    IsNew-last c.args.by_code.now c.args.code c.args.id c.requires.paired.codes c.requires.last
    (λ p there own. elim c.in_default.branch [
      | in_default-via-in-Some+else-last-id w ↦
          let both : Some w.in-Some.last ≡ Some p = sym w.in-Some.is ∙ c.last.ensures ∙ there in
          let same : w.in-Some.last ≡ p = cc in
          w.if-last-id.false (ap (λ (t : Spot). t.list) same ∙ own)
      | in_default-via-in_default w ↦ w.in_default.not-Some p (c.last.ensures ∙ there)
    ])

pub returns-in-Some-clause-pairs : goal.returns-in-Some-clause-pairs
returns-in-Some-clause-pairs c =
    depends-there c.args.by_code.now c.args.code c.args.id c.in-Some.last c.requires.paired.codes (sym c.last.ensures ∙ c.in-Some.is) c.if-last-id.true
