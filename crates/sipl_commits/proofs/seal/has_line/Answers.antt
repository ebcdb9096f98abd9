use Rattle.std.proofs.Common.{◌≡◌, ℕ, true, false, Bool, length, refl, take, ap, ◌∙◌}
use Rattle.sipl_commits.specs.Seals.{Octets, Begins, HasLine}
use Rattle.sipl_commits.proofs.Lines.{line_begins, line_is, with_ok}
use Rattle.sipl_commits.proofs.Texts.{starts_decides, true_false}
use Rattle.sipl_commits.proofs.seal.has_line.Goals as goal

begins_not : (start : Octets) (len : ℕ) (t line : Octets) (r : Bool) → line ≡ take len t → (Begins line start → r ≡ true) → r ≡ false
    → HasLine start len t → false ≡ true
begins_not start len t line r front starts not h =
    absurd (true_false r (starts (ap (take (length start)) front ∙ line_begins start len t h)) not)

pub returns-then-not-starts_with : goal.returns-then-not-starts_with
returns-then-not-starts_with c =
    let line = c.in-Some.line.now in
    let start = c.args.start.now in (
      λ same. absurd (true_false false same refl),
      begins_not start c.args.len c.args.text.now line c.starts_with.result c.in-Some.ensures.cases.1
          (starts_decides line start c.starts_with.result c.starts_with.ensures.value).1 c.if-not-starts_with.true,
    )

pub returns : goal.returns
returns c =
    let line = c.in-Some.line.now in
    let start = c.args.start.now in
    let starts = starts_decides line start c.starts_with.result c.starts_with.ensures.value in
    let cut = c.in-Some.ensures.cases in
    with_ok _ _ _ (λ has decides. line_is start c.args.len c.args.text.now line c.in-Some.rest.now has cut.1 cut.2 cut.3
    (starts.0 c.if-not-starts_with.false) decides) c.begins_with_seal.ensures
