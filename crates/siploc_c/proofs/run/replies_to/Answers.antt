use Rattle.std.specs.Prelude.{Some}
use Rattle.std.proofs.Common.{List, ℕ, ap, sym, ◌∙◌}
use Rattle.siploc_c.proofs.Whole.{has_replies}
use Rattle.siploc_c.proofs.run.replies_to.Goals as goal

pub returns : goal.returns
returns c =
    has_replies c.serve_book-ending.ensures.plain (ap (λ (text : _). Some text.now) c.new-reader.ensures.inner)
    (ap (λ (replies : _). Some replies.items) c.new-writer.ensures.inner ∙ ap (λ (items : List ℕ). Some items) c.new.ensures.items)
    (ap (λ (replies : _). Some replies.items) (sym c.into_inner.ensures))
