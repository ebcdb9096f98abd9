use Rattle.std.proofs.Common.{◌≡◌, length, ap, ◌∙◌}
use Rattle.sipl_commits.specs.Commits.{line_text}
use Rattle.sipl_commits.specs.Seals.{sealed}
use Rattle.sipl_commits.specs.declared.point.Point.{Point}
use Rattle.sipl_commits.proofs.Texts.{starts_decides, true_false}
use Rattle.sipl_commits.proofs.Written.{begins_line, line_of, whole_is}
use Rattle.sipl_commits.proofs.commit.next_commit.Goals as goal

pub returns-then-starts_with : goal.returns-then-starts_with
returns-then-starts_with c =
    let p = c.args.point.now in
    let body = c.in-Some.body.now in
    let line = c.deref.result.now in
    let is : line ≡ line_of p body =
    c.deref.ensures.value ∙ c.in_ok-line.ensures ∙ ap (λ (q : Point). sealed (line_text q (length body))) c.next-next.ensures in
    record {
      is = whole_is p c.args.text.now body c.in-Some.rest.now line c.in-Some.ensures.cut is
          ((starts_decides c.args.text.now line c.starts_with.result c.starts_with.ensures.value).0 c.if-starts_with.true);
      point_is = c.next-next.ensures;
    }

pub returns : goal.returns
returns c = λ body rest e.
    let p = c.args.point.now in
    let line = c.deref.result.now in
    let found = c.in-Some.ensures.only p body rest e in
    let is : line ≡ line_of p c.in-Some.body.now =
    c.deref.ensures.value ∙ c.in_ok-line.ensures ∙ ap (λ (q : Point). sealed (line_text q (length c.in-Some.body.now))) c.next-next.ensures in
    true_false _
    ((starts_decides c.args.text.now line c.starts_with.result c.starts_with.ensures.value).1
    (begins_line p c.args.text.now body rest line (is ∙ ap (line_of p) found.0) e))
    c.if-starts_with.false
