use Rattle.std.proofs.Common.{◌≡◌, List, ℕ, [], ◌++◌, Option, Some, None, IfSome, sym, ap, subst, ◌∙◌}
use Rattle.sipl_lines.specs.Items.{items_of}
use Rattle.sipl_lines.specs.Replies.{Serves}
use Rattle.sipl_lines.specs.Session.{new_session, session_protocol}
use Rattle.sipl_archive.specs.Replies.{AreReplies}
use Rattle.sipl_archive.proofs.items.replies_to.Goals as goal

-- what holds of a value holds of one that is it, if there is one
holds-of-same : {A : Type 0} → (found : Option A) (value : A) (P : A → Type 0) → IfSome found (λ it. it ≡ value) → P value → IfSome found P
holds-of-same None value P same holds = tt
holds-of-same (Some it) value P same holds = subst P (sym same) holds

pub returns-in-Ok : goal.returns-in-Ok
returns-in-Ok g c =
    let all = rw (c.new-reader.ensures.inner, c.new-writer.ensures.inner) at c.in-Ok.ensures.serves.served in
    let nothing : c.new.result.items ≡ [] = c.new.ensures.items in
    let sent : c.into_inner.result.items ≡ all.0 =
    ap (λ (replies : _). replies.items) c.into_inner.ensures ∙ all.2 ∙ ap (λ (before : List ℕ). before ++ all.0) nothing in
    let answered : AreReplies g.D.Desk.rules c.args.text.now c.args.desk.now c.serve.new.desk c.into_inner.result.items =
    record {
      session = c.in-Ok.ensures.session;
      desk = c.in-Ok.ensures.desk;
      serves = subst (λ (replies : List ℕ). Serves (session_protocol g.D.Desk.rules) (new_session c.args.desk.now) (items_of c.args.text.now) replies c.in-Ok.ensures.session) (sym sent) all.1;
    } in
    holds-of-same c.unless_short.result c.into_inner.result
    (λ (told : _). AreReplies g.D.Desk.rules c.args.text.now c.args.desk.now c.serve.new.desk told.items)
    c.unless_short.ensures.same answered
