use Rattle.std.proofs.Common.{length, Some, ap, sym, ◌∙◌, arith}
use Rattle.std.specs.Option.{option_copied}
use Rattle.sipl_evidence.specs.Looks.{key}
use Rattle.sipl_evidence.specs.Items.{Item}
use Rattle.sipl_evidence.specs.Known.{known}
use Rattle.sipl_evidence.specs.Places.{place_of}
use Rattle.sipl_evidence.proofs.Placing.{place_of-within, known-place, known-no_place}
use Rattle.sipl_evidence.proofs.evidence.Evidence.content_at.Goals as goal

pub returns-in_err-place-clause-content : goal.returns-in_err-place-clause-content
returns-in_err-place-clause-content c =
    ap option_copied c.from_residual.ensures ∙ sym (known-no_place c.args.self.now (key c.args.name.now c.args.kind) (sym c.in_err-place.ensures.place))

pub index-requires : goal.index-requires
index-requires c =
    let within = place_of-within c.args.self.now (key c.args.name.now c.args.kind) c.in_ok-place.place (sym c.in_ok-place.ensures.place) in
    let len = ap length c.self.view_is in
    omega (arith, within, len, c.self.inside.items.ok)

pub returns-clause-content : goal.returns-clause-content
returns-clause-content c =
    let item = c.index.result.now in
    ap Some (c.content.ensures.content ∙ ap (λ (i : Item). i.content) c.index.ensures)
    ∙ sym (ap (λ items. known items (key c.args.name.now c.args.kind)) (sym c.self.view_is) ∙ known-place c.self.inside.items.items (key c.args.name.now c.args.kind) c.in_ok-place.place item (ap (λ items. place_of items (key c.args.name.now c.args.kind)) c.self.view_is ∙ sym c.in_ok-place.ensures.place))
