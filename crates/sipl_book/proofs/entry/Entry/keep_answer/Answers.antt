use Rattle.std.proofs.Common.{◌≡◌, Some, sym, ap, ◌∙◌}
use Rattle.sipl_plans.specs.declared.layout.Layout.{Layout}
use Rattle.sipl_book.specs.Entries.{EntryState}
use Rattle.sipl_book.specs.Kept.{AreKeptFor, first_place}
use Rattle.sipl_book.proofs.Free.{copy-drawn, kept-copy}
use Rattle.sipl_book.proofs.entry.Entry.keep_answer.Goals as goal

pub invariant_of-self : goal.invariant_of-self
invariant_of-self c =
    let layout = c.self.inside.finding.layout in
    let seen = c.args.self.now.found.layout in
    let same : layout ≡ seen = ap (λ (e : EntryState). e.found.layout) c.self.view_is in
    let first : first_place layout c.args.draws.now ≡ Some c.in-Some.place =
    ap (λ (l : Layout). first_place l c.args.draws.now) (same ∙ sym c.layout.ensures.layout) ∙ sym c.first_place.ensures.first ∙ c.in-Some.is in
    kept-copy layout c.self.inside.free c.in-Some.place c.args.draws.now c.in-Ok.copy c.self.invariant first
    (copy-drawn layout seen c.args.board.now.holds c.args.draws.now c.args.held c.args.answer.now c.in-Ok.copy same
    (c.is_empty.ensures.empty.0 c.if-not-is_empty.false) c.requires c.in-Ok.ensures.value)

pub invariant_of-self-in-Ok-2 : goal.invariant_of-self-in-Ok-2
invariant_of-self-in-Ok-2 c =
    let layout = c.self.inside.finding.layout in
    let seen = c.args.self.now.found.layout in
    let same : layout ≡ seen = ap (λ (e : EntryState). e.found.layout) c.self.view_is in
    let first : first_place layout c.args.draws.now ≡ Some c.in-Some.place =
    ap (λ (l : Layout). first_place l c.args.draws.now) (same ∙ sym c.layout.ensures.layout) ∙ sym c.first_place.ensures.first ∙ c.in-Some.is in
    kept-copy layout c.self.inside.free c.in-Some.place c.args.draws.now c.in-Ok.copy c.self.invariant first
    (copy-drawn layout seen c.args.board.now.holds c.args.draws.now c.args.held c.args.answer.now c.in-Ok.copy same
    (c.is_empty.ensures.empty.0 c.if-not-is_empty.false) c.requires c.in-Ok.ensures.value)

pub invariant_of-self-in-Ok-3 : goal.invariant_of-self-in-Ok-3
invariant_of-self-in-Ok-3 c =
    let layout = c.self.inside.finding.layout in
    let seen = c.args.self.now.found.layout in
    let same : layout ≡ seen = ap (λ (e : EntryState). e.found.layout) c.self.view_is in
    let first : first_place layout c.args.draws.now ≡ Some c.in-Some.place =
    ap (λ (l : Layout). first_place l c.args.draws.now) (same ∙ sym c.layout.ensures.layout) ∙ sym c.first_place.ensures.first ∙ c.in-Some.is in
    kept-copy layout c.self.inside.free c.in-Some.place c.args.draws.now c.in-Ok.copy c.self.invariant first
    (copy-drawn layout seen c.args.board.now.holds c.args.draws.now c.args.held c.args.answer.now c.in-Ok.copy same
    (c.is_empty.ensures.empty.0 c.if-not-is_empty.false) c.requires c.in-Ok.ensures.value)
