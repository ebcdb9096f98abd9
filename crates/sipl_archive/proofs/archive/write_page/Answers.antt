use Rattle.std.proofs.Common.{◌≡◌, ◌++◌, List, ℕ, length, ap, subst, ◌∙◌}
use Rattle.std.specs.Io.KnownBytes.{Appends}
use Rattle.std.proofs.lemmas.Result.{on_ok_weaker}
use Rattle.sipl_book.specs.declared.event.Event.{Event}
use Rattle.sipl_book.specs.declared.outcome.Extent.{Extent}
use Rattle.sipl_archive.specs.Archive.{file_text, page_head, page_text}
use Rattle.sipl_archive.proofs.archive.write_page.Goals as goal

pub returns : goal.returns
returns g c =
    let contents = g.W.Write.contents in
    let client = c.args.client.now in
    let page = c.args.page.now in
    let head = c.write_head.new.out.items in
    let head_is : head ≡ page_head page.first (length page.events) client =
    c.in_ok-write_head.ensures
    ∙ ap (λ (t : List ℕ). t ++ page_head c.extent.result.first c.extent.result.count client) c.new-text.ensures.items
    ∙ ap (λ (extent : Extent). page_head extent.first extent.count client) c.extent.ensures in
    let text : page_text head c.events.result.now ≡ file_text client page =
    ap (λ (h : List ℕ). page_text h c.events.result.now) head_is
    ∙ ap (λ (events : List Event). page_text (page_head page.first (length page.events) client) events) c.events.ensures.events in
    on_ok_weaker c.write_events.result
    (λ appends. subst (λ (t : List ℕ). Appends (contents c.args.out.now) (contents c.write_events.new.out) t) text appends)
    c.write_events.ensures
