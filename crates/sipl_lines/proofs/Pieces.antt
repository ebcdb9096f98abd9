-- Lemmas on octets that come piece by piece, for any protocol.
use Rattle.std.proofs.Common.{◌≡◌, List, [], ◌++◌, sym, ap, ◌∙◌, subst, arith}
use Rattle.std.proofs.lemmas.List.{take_all}
use Rattle.sipl_names.specs.Labels.{Octets}
use Rattle.sipl_lines.specs.Items.{Item, complete_items}
use Rattle.sipl_lines.specs.Machine.{items_from, pending_after, kept_prefix}
use Rattle.sipl_lines.specs.Protocol.{IsLineProtocol, Protocol}
use Rattle.sipl_lines.specs.Replies.{AppendsReplies}
use Rattle.sipl_lines.specs.Takes.{HasTaken, Takes}
use Rattle.sipl_lines.proofs.Cutting.{items_from-append, pending_after-append, complete_items-from, kept-kept, kept-pending_after}
use Rattle.sipl_lines.proofs.Replies.{items_from-alike, replies_alike, replies_more, replies_none}

pub taken_none : (p : Protocol) (s : p.State) (old : Octets) → HasTaken p s [] old s [] old
taken_none p s old = record { replies = replies_none p s old; pending_is = sym (take_all 65538 [] (omega arith)) }

-- the items of what came so far, and of a piece after what is pending, are those of both
joined : (octets piece : Octets) → complete_items octets ++ items_from (pending_after [] octets) piece ≡ complete_items (octets ++ piece)
joined octets piece =
    ap (λ items. items ++ items_from (pending_after [] octets) piece) (complete_items-from octets)
    ∙ sym (items_from-append octets piece []) ∙ sym (complete_items-from (octets ++ piece))

pub taken_more : (p : Protocol) → IsLineProtocol p → (first now later : p.State) (octets old kept new piece kept' newer : Octets)
    → HasTaken p first octets old now kept new → Takes p now kept piece new later kept' newer
    → HasTaken p first (octets ++ piece) old later kept' newer
taken_more p rules first now later octets old kept new piece kept' newer so_far takes =
    let pending = pending_after [] octets in
    let alike : kept_prefix kept ≡ kept_prefix pending = ap kept_prefix so_far.pending_is ∙ kept-kept pending in
    record {
      replies = subst (λ (items : List Item). AppendsReplies p first items old later newer) (joined octets piece)
          (replies_more p (complete_items octets) (items_from pending piece) first now later old new newer so_far.replies
          (replies_alike p (items_from kept piece) (items_from pending piece) now new later newer (items_from-alike p rules piece kept pending alike) takes.replies));
      pending_is = takes.pending_is ∙ kept-pending_after piece kept pending alike ∙ ap kept_prefix (sym (pending_after-append octets piece []));
    }
