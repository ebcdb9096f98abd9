-- Lemmas on what is read and written, turn by turn, for any protocol.
use Rattle.std.proofs.Common.{◌≡◌, ◌≢◌, ℕ, List, [], ◌∷◌, ◌++◌, Bool, true, false, None, Some, IfSome, refl, sym, ap, ◌∙◌, subst, append_assoc, append-nil, ◌||◌, ◌&&◌, ◌==◌, ◌<◌, ◌≤◌, zero, suc, length, ne_eqb, take, drop, Result, Ok, Err, arith}
use Rattle.std.proofs.lemmas.List.{take-append-drop, take_all, drop_all}
use Rattle.std.proofs.lemmas.Bool.{lt-ltb}
use Rattle.std.proofs.Math.Bool.{or-false}
use Rattle.std.specs.Prelude.{Option, nat_lt, OnOk, OnErr}
use Rattle.std.specs.Io.KnownBytes.{Keeps, Appends, Consumes, IsAtEnd}
use Rattle.std.proofs.KnownBytes.{Consumes-nil, Appends-nil, Appends-trans, Appends-kept, Consumes-trans, Consumes-kept, Consumes-whole}
use Rattle.sipl_names.specs.Labels.{Octets}
use Rattle.sipl_lines.specs.Items.{Item, items_of}
use Rattle.sipl_lines.specs.Protocol.{IsLineProtocol, Protocol}
use Rattle.sipl_lines.specs.Replies.{Serves, AppendsReplies, AppendsFirstReplies}
use Rattle.sipl_lines.specs.Machine.{items_from, pending_after, kept_prefix, last_items, read_items}
use Rattle.sipl_lines.specs.Streams.{ServesAll, ServesFirst, ServesPrefix, ServesRead}
use Rattle.sipl_lines.specs.Turns.{AppendsPrefix, EndsWithNone, CompletesTurn, AbortsTurn, KeepsAll, FailsTurn, HasServed}
use Rattle.sipl_lines.specs.declared.server.ServeFault.{ServeFault}
use Rattle.sipl_lines.specs.declared.server.ServeFault.TheVariants.{Read, Write, TooManyTurns, Memory}
use Rattle.sipl_lines.proofs.Cutting.{items_from-append, pending_after-append, complete_items-from, items_of-from, kept-kept, kept-pending_after}
use Rattle.sipl_lines.proofs.Replies.{waits_none, serves_paused, AreAllAlike, Serves-append, Serves-ended, Serves-alike, AreAllAlike-split, read_items-alike}

-- ---- a text that is sent

-- so much of a text is sent that this rest is left
pub record SentTo (old : Option Octets) (text : Octets) (new : Option Octets) (rest : Octets) : Type 0 where
  pub sent : Octets
  pub split : text ≡ sent ++ rest
  pub appended : Appends old new sent

pub sent_none : (old : Option Octets) (text : Octets) → SentTo old text old text
sent_none old text = record { sent = []; split = refl; appended = Appends-nil old }

pub sent_more : {old : Option Octets} {text : Octets} {now : Option Octets} {rest : Octets} (new : Option Octets) (n : ℕ)
    → SentTo old text now rest → Appends now new (take n rest) → SentTo old text new (drop n rest)
sent_more {old} {text} {now} {rest} new n so_far more =
    record {
      sent = so_far.sent ++ take n rest;
      split = so_far.split ∙ ap (λ r. so_far.sent ++ r) (sym (take-append-drop n rest)) ∙ sym (append_assoc so_far.sent (take n rest) (drop n rest));
      appended = Appends-trans old now new so_far.sent (take n rest) so_far.appended more;
    }

pub sent_kept : {old : Option Octets} {text : Octets} {now : Option Octets} {rest : Octets} (new : Option Octets)
    → SentTo old text now rest → Keeps now new → SentTo old text new rest
sent_kept {old} {text} {now} {rest} new so_far same =
    record { sent = so_far.sent; split = so_far.split; appended = Appends-kept old now new so_far.sent so_far.appended same }

pub sent_prefix : {old : Option Octets} {text : Octets} {new : Option Octets} {rest : Octets} → SentTo old text new rest → AppendsPrefix old new text
sent_prefix {old} {text} {new} {rest} so_far = (so_far.sent, rest, so_far.split, so_far.appended)

pub sent_all : {old : Option Octets} {text : Octets} {new : Option Octets} {rest : Octets} → rest ≡ [] → SentTo old text new rest → Appends old new text
sent_all {old} {text} {new} {rest} none so_far =
    subst (λ t. Appends old new t) (sym (so_far.split ∙ ap (λ r. so_far.sent ++ r) none ∙ append-nil so_far.sent)) so_far.appended

pub or_same : (b x : Bool) (n : ℕ) → (n ≡ 0 → ⊥) → (b || (n == 0 && x)) ≡ b
or_same b x n some = ap (λ v. b || (v && x)) (ne_eqb n 0 some) ∙ or-false b

-- ---- a turn

-- a slice that was lent whole holds what was written to it
pub lent_whole : (items buf : Octets) (len : ℕ) → len ≡ length items → length buf ≡ length items → take len (buf ++ drop (length buf) items) ≡ buf
lent_whole items buf len counts same =
    ap (λ rest. take len (buf ++ rest)) (drop_all (length buf) items (omega arith)) ∙ ap (take len) (append-nil buf) ∙ take_all len buf (omega arith)

-- a read into this buffer gave so many octets, which are these
pub record ReadGave (unread left : Option Octets) (n : ℕ) (buf octets : Octets) : Type 0 where
  pub octets_are : octets ≡ take n buf
  pub within : n ≤ length buf
  pub some : 0 < length buf
  pub bytes : Consumes unread left (take n buf) × (n ≡ 0 → 0 < length buf → IsAtEnd left)

pub read_gave : (unread left : Option Octets) (n len : ℕ) (items buf lent octets : Octets) → len ≡ length items → length buf ≡ length items → 0 < length buf
    → lent ≡ take len (buf ++ drop (length buf) items) → octets ≡ take n lent → n ≤ length buf → Consumes unread left (take n buf) × (n ≡ 0 → 0 < length buf → IsAtEnd left)
    → ReadGave unread left n buf octets
read_gave unread left n len items buf lent octets counts same some lent_is octets_are within bytes =
    record { octets_are = octets_are ∙ ap (take n) (lent_is ∙ lent_whole items buf len counts same); within = within; some = some; bytes = bytes }

ends_with_none : (n : ℕ) (buf : Octets) (left : Option Octets) → n ≤ length buf → 0 < length buf → (n ≡ 0 → 0 < length buf → IsAtEnd left) → EndsWithNone (nat_lt 0 n) (take n buf) left
ends_with_none zero buf left within some end = (refl, end refl some)
ends_with_none (suc n) [] left within some end = absurd (omega arith)
ends_with_none (suc n) (c ∷ buf) left within some end =
    subst (λ more. EndsWithNone more (take (suc n) (c ∷ buf)) left) (sym (lt-ltb 0 (suc n) (omega arith))) (λ none. cc)

gives_end : (n : ℕ) (buf : Octets) (left : Option Octets) → n ≤ length buf → 0 < length buf → (n ≡ 0 → 0 < length buf → IsAtEnd left) → take n buf ≡ [] → IsAtEnd left
gives_end zero buf left within some end none = end refl some
gives_end (suc n) [] left within some end none = absurd (omega arith)
gives_end (suc n) (c ∷ buf) left within some end none = cc

pub turn_completed : (p : Protocol) (before : p.State) (pending : Octets) (unread left old : Option Octets) (after : p.State) (kept : Octets) (new : Option Octets)
    (n : ℕ) (buf octets out replies : Octets) → ReadGave unread left n buf octets → out ≡ []
    → AppendsReplies p before (read_items pending octets) out after replies → (octets ≢ [] → kept ≡ kept_prefix (pending_after pending octets)) → Appends old new replies
    → CompletesTurn p (nat_lt 0 n) before pending unread left old after kept new
turn_completed p before pending unread left old after kept new n buf octets out replies gave none replied rest sent =
    let text : replied.0 ≡ replies = sym (replied.2 ∙ ap (λ o. o ++ replied.0) none) in
    record {
      got = take n buf;
      text = replied.0;
      consumed = gave.bytes.0;
      ends = ends_with_none n buf left gave.within gave.some gave.bytes.1;
      serves = subst (λ o. Serves p before (read_items pending o) replied.0 after) gave.octets_are replied.1;
      appended = subst (Appends old new) (sym text) sent;
      kept_is = subst (λ o. o ≢ [] → kept ≡ kept_prefix (pending_after pending o)) gave.octets_are rest;
    }

pub turn_aborted : (p : Protocol) (before : p.State) (pending : Octets) (unread left old : Option Octets) (after : p.State) (new : Option Octets)
    (n : ℕ) (buf octets out replies : Octets) → ReadGave unread left n buf octets → out ≡ []
    → AppendsFirstReplies p before (read_items pending octets) out after replies → AppendsPrefix old new replies
    → AbortsTurn p before pending unread left old after new
turn_aborted p before pending unread left old after new n buf octets out replies gave none replied sent =
    let text : replies ≡ replied.replies.0 = replied.replies.2 ∙ ap (λ o. o ++ replied.replies.0) none in
    record {
      got = take n buf;
      consumed = gave.bytes.0;
      at_end = gives_end n buf left gave.within gave.some gave.bytes.1;
      first = record {
        done = replied.done;
        rest = replied.rest;
        sent = sent.0;
        unsent = sent.1;
        split = ap (read_items pending) (sym gave.octets_are) ∙ replied.split;
        serves = subst (λ t. Serves p before replied.done t after) (sym text ∙ sent.2) replied.replies.1;
        appended = sent.3;
      };
    }

-- all replies are the first ones
pub all_replies : (p : Protocol) (before : p.State) (items : List Item) (old : Octets) (after : p.State) (new : Octets)
    → AppendsReplies p before items old after new → AppendsFirstReplies p before items old after new
all_replies p before items old after new replies = record { done = items; rest = []; split = sym (append-nil items); replies = replies }

pub whatever_result : {T E : Type 0} (r : Result T E) (P Q : Type 0) → (P → Q) → OnOk r P → OnErr r Q → Q
whatever_result (Ok value) P Q weaker ok err = weaker ok
whatever_result (Err e) P Q weaker ok err = err

pub all_prefix : (old new : Option Octets) (text : Octets) → Appends old new text → AppendsPrefix old new text
all_prefix old new text sent = (text, [], sym (append-nil text), sent)

-- ---- many turns

pub served_none : (p : Protocol) (s : p.State) (unread old : Option Octets) → HasServed p s unread unread old s [] old
served_none p s unread old =
    record { got = []; text = []; consumed = Consumes-nil unread; serves = (refl, waits_none p s); appended = Appends-nil old; kept_is = sym (take_all 65538 [] (omega arith)) }

read_some : (pending octets : Octets) → octets ≢ [] → read_items pending octets ≡ items_from pending octets
read_some pending [] some = absurd (some refl)
read_some pending (c ∷ octets) some = refl

-- the kept prefix of a pending line keeps as much as the line
keeps_as : (kept pending : Octets) → kept ≡ kept_prefix pending → kept_prefix kept ≡ kept_prefix pending
keeps_as kept pending is = ap kept_prefix is ∙ kept-kept pending

pub served_more : {p : Protocol} → IsLineProtocol p → {s : p.State} {unread left old : Option Octets} {now : p.State} {kept : Octets} {new left' : Option Octets} {later : p.State} {kept' : Octets} {newer : Option Octets}
    → HasServed p s unread left old now kept new → CompletesTurn p true now kept left left' new later kept' newer → HasServed p s unread left' old later kept' newer
served_more {p} rules {s} {unread} {left} {old} {now} {kept} {new} {left'} {later} {kept'} {newer} so_far turn =
    let got = so_far.got in
    let more = turn.got in
    let pending = pending_after [] got in
    let alike = keeps_as kept pending so_far.kept_is in
    record {
      got = got ++ more;
      text = so_far.text ++ turn.text;
      consumed = Consumes-trans unread left left' got more so_far.consumed turn.consumed;
      serves = subst (λ items. Serves p s items (so_far.text ++ turn.text) later)
          (ap (λ items. items_from [] got ++ items) (read_some pending more turn.ends) ∙ sym (items_from-append got more []))
          (Serves-append p (items_from [] got) (read_items pending more) s now later so_far.text turn.text so_far.serves
          (Serves-alike p (read_items kept more) (read_items pending more) now turn.text later (read_items-alike p rules more kept pending alike) turn.serves));
      appended = Appends-trans old new newer so_far.text turn.text so_far.appended turn.appended;
      kept_is = turn.kept_is turn.ends ∙ kept-pending_after more kept pending alike ∙ ap kept_prefix (sym (pending_after-append got more []));
    }

served_input : (p : Protocol) → p.State → Option Octets → p.State → Option Octets → Octets → Type 0
served_input p s old now new input = (text : Octets) × Serves p s (items_of input) text now × Appends old new text

pub served_end : {p : Protocol} → IsLineProtocol p → {s : p.State} {unread left old : Option Octets} {now : p.State} {kept : Octets} {new left' : Option Octets} {later : p.State} {kept' : Octets} {newer : Option Octets}
    → HasServed p s unread left old now kept new → CompletesTurn p false now kept left left' new later kept' newer → ServesAll p s unread old later newer
unfolding served_input
served_end {p} rules {s} {unread} {left} {old} {now} {kept} {new} {left'} {later} {kept'} {newer} so_far turn =
    let got = so_far.got in
    let pending = pending_after [] got in
    let alike = keeps_as kept pending so_far.kept_is in
    let last : Serves p now (last_items kept) turn.text later = subst (λ more. Serves p now (read_items kept more) turn.text later) turn.ends.0 turn.serves in
    let all : Serves p s (items_of got) (so_far.text ++ turn.text) later =
    subst (λ items. Serves p s items (so_far.text ++ turn.text) later) (sym (items_of-from got))
    (Serves-append p (items_from [] got) (last_items pending) s now later so_far.text turn.text so_far.serves
    (Serves-alike p (last_items kept) (last_items pending) now turn.text later (read_items-alike p rules [] kept pending alike) last)) in
    Consumes-whole unread left' (got ++ turn.got) (served_input p s old later newer)
    (Consumes-trans unread left left' got turn.got so_far.consumed turn.consumed) turn.ends.1
    (subst (served_input p s old later newer) (sym (ap (λ more. got ++ more) turn.ends.0 ∙ append-nil got))
    (so_far.text ++ turn.text, all, Appends-trans old new newer so_far.text turn.text so_far.appended turn.appended))

-- what was read comes first in the input
with_input : (unread left : Option Octets) (got : Octets) (P : Octets → Type 0) → Consumes unread left got → ((rest : Octets) → P (got ++ rest)) → IfSome unread P
with_input None left got P consumed holds = tt
with_input (Some input) None got P consumed holds = absurd consumed
with_input (Some input) (Some rest) got P consumed holds = subst P (sym consumed) (holds rest)

-- the items after those that are complete in what was read
later_items : Octets → Octets → List Item
later_items got rest = items_from (pending_after [] got) rest ++ last_items (pending_after [] (got ++ rest))

items_of-read : (got rest : Octets) → items_of (got ++ rest) ≡ items_from [] got ++ later_items got rest
unfolding later_items
items_of-read got rest =
    items_of-from (got ++ rest) ∙ ap (λ items. items ++ last_items (pending_after [] (got ++ rest))) (items_from-append got rest [])
    ∙ append_assoc (items_from [] got) (items_from (pending_after [] got) rest) (last_items (pending_after [] (got ++ rest)))

pub served_ended : {p : Protocol} → IsLineProtocol p → {s : p.State} {unread left old : Option Octets} {now : p.State} {kept : Octets} {new : Option Octets}
    → HasServed p s unread left old now kept new → p.has_ended now ≡ true → ServesAll p s unread old now new
served_ended {p} rules {s} {unread} {left} {old} {now} {kept} {new} so_far ended =
    let got = so_far.got in
    let text = so_far.text in
    with_input unread left got (λ input. (t : Octets) × Serves p s (items_of input) t now × Appends old new t) so_far.consumed
    (λ rest. (
      text,
      subst (λ items. Serves p s items text now) (sym (items_of-read got rest))
          (subst (λ t. Serves p s (items_from [] got ++ later_items got rest) t now) (append-nil text)
          (Serves-append p (items_from [] got) (later_items got rest) s now now text [] so_far.serves (Serves-ended p rules (later_items got rest) now ended))),
      so_far.appended,
    ))

pub served_prefix : {p : Protocol} {s : p.State} {unread left old : Option Octets} {now : p.State} {kept : Octets} {new : Option Octets}
    → HasServed p s unread left old now kept new → ServesPrefix p s unread old now new
served_prefix {p} {s} {unread} {left} {old} {now} {kept} {new} so_far =
    let got = so_far.got in
    with_input unread left got (λ input. ServesFirst p s (items_of input) old now new) so_far.consumed
    (λ rest. record {
      done = items_from [] got;
      rest = later_items got rest;
      sent = so_far.text;
      unsent = [];
      split = items_of-read got rest;
      serves = subst (λ text. Serves p s (items_from [] got) text now) (sym (append-nil so_far.text)) so_far.serves;
      appended = so_far.appended;
    })

pub served_read : {p : Protocol} {s : p.State} {unread left old : Option Octets} {now : p.State} {kept : Octets} {new : Option Octets}
    → HasServed p s unread left old now kept new → ServesRead p s unread left old now new
served_read {p} {s} {unread} {left} {old} {now} {kept} {new} so_far =
    record {
      got = so_far.got;
      text = so_far.text;
      consumed = so_far.consumed;
      serves = subst (λ items. Serves p s items so_far.text now) (sym (complete_items-from so_far.got)) so_far.serves;
      appended = so_far.appended;
    }

pub served_kept : {p : Protocol} {s : p.State} {unread left old : Option Octets} {now : p.State} {kept : Octets} {new left' : Option Octets} {later : p.State} {newer : Option Octets}
    → HasServed p s unread left old now kept new → KeepsAll p now left left' new later newer → HasServed p s unread left' old later kept newer
served_kept {p} {s} {unread} {left} {old} {now} {kept} {new} {left'} {later} {newer} so_far all =
    record {
      got = so_far.got;
      text = so_far.text;
      consumed = Consumes-kept unread left left' so_far.got so_far.consumed all.reader;
      serves = subst (λ state. Serves p s (items_from [] so_far.got) so_far.text state) (sym all.state) so_far.serves;
      appended = Appends-kept old new newer so_far.text so_far.appended all.writer;
      kept_is = so_far.kept_is;
    }

-- a pause comes after what was served
pub served_paused : {p : Protocol} {s : p.State} {unread left old : Option Octets} {now : p.State} {kept : Octets} {new : Option Octets} (later : p.State)
    → HasServed p s unread left old now kept new → p.MayPause now later → HasServed p s unread left old later kept new
served_paused {p} {s} {unread} {left} {old} {now} {kept} {new} later so_far pause =
    record {
      got = so_far.got;
      text = so_far.text;
      consumed = so_far.consumed;
      serves = serves_paused p (items_from [] so_far.got) s so_far.text now later so_far.serves pause;
      appended = so_far.appended;
      kept_is = so_far.kept_is;
    }

-- the items of an input in which so much was read, and then this
read_first : (got more rest : Octets) → (more ≡ [] → rest ≡ [])
    → (later : List Item) × (items_of ((got ++ more) ++ rest) ≡ (items_from [] got ++ read_items (pending_after [] got) more) ++ later)
read_first got [] rest end = (
  [],
  ap items_of (ap (λ r. (got ++ []) ++ r) (end refl) ∙ append-nil (got ++ []) ∙ append-nil got)
      ∙ items_of-from got ∙ sym (append-nil (items_from [] got ++ last_items (pending_after [] got))),
)
read_first got (c ∷ more) rest end = (
  later_items (got ++ c ∷ more) rest,
  items_of-read (got ++ c ∷ more) rest ∙ ap (λ items. items ++ later_items (got ++ c ∷ more) rest) (items_from-append got (c ∷ more) []),
)

served_aborted : (p : Protocol) → IsLineProtocol p → (s : p.State) (unread left old : Option Octets) (now : p.State) (kept : Octets) (new left' : Option Octets) (later : p.State) (newer : Option Octets)
    → HasServed p s unread left old now kept new → AbortsTurn p now kept left left' new later newer → ServesPrefix p s unread old later newer
served_aborted p rules s None left old now kept new left' later newer so_far turn = tt
served_aborted p rules s (Some input) left old now kept new None later newer so_far turn =
    absurd (Consumes-trans (Some input) left None so_far.got turn.got so_far.consumed turn.consumed)
served_aborted p rules s (Some input) left old now kept new (Some rest) later newer so_far turn =
    let got = so_far.got in
    let more = turn.got in
    let first = turn.first in
    let pending = pending_after [] got in
    let is : input ≡ (got ++ more) ++ rest = Consumes-trans (Some input) left (Some rest) got more so_far.consumed turn.consumed in
    let alike : AreAllAlike p (first.done ++ first.rest) (read_items pending more) =
    subst (λ items. AreAllAlike p items (read_items pending more)) first.split (read_items-alike p rules more kept pending (keeps_as kept pending so_far.kept_is)) in
    let parts = AreAllAlike-split p first.done first.rest (read_items pending more) alike in
    let all = read_first got more rest turn.at_end in
    record {
      done = items_from [] got ++ parts.0;
      rest = parts.1 ++ all.0;
      sent = so_far.text ++ first.sent;
      unsent = first.unsent;
      split = ap items_of is ∙ all.1 ∙ ap (λ items. (items_from [] got ++ items) ++ all.0) parts.2
          ∙ ap (λ items. items ++ all.0) (sym (append_assoc (items_from [] got) parts.0 parts.1))
          ∙ append_assoc (items_from [] got ++ parts.0) parts.1 all.0;
      serves = subst (λ text. Serves p s (items_from [] got ++ parts.0) text later)
          (sym (append_assoc so_far.text first.sent first.unsent))
          (Serves-append p (items_from [] got) parts.0 s now later so_far.text (first.sent ++ first.unsent) so_far.serves
          (Serves-alike p first.done parts.0 now (first.sent ++ first.unsent) later parts.3 first.serves));
      appended = Appends-trans old new newer so_far.text first.sent so_far.appended first.appended;
    }

pub served_failed : (fault : ServeFault) {p : Protocol} → IsLineProtocol p → {s : p.State} {unread left old : Option Octets} {now : p.State} {kept : Octets} {new : Option Octets} (left' : Option Octets) (later : p.State) (newer : Option Octets)
    → HasServed p s unread left old now kept new → FailsTurn fault p now kept left left' new later newer → ServesPrefix p s unread old later newer
served_failed Read rules left' later newer so_far fails = served_prefix (served_kept so_far fails)
served_failed Write {p} rules {s} {unread} {left} {old} {now} {kept} {new} left' later newer so_far fails = served_aborted p rules s unread left old now kept new left' later newer so_far fails
served_failed TooManyTurns rules left' later newer so_far fails = absurd fails
served_failed Memory {p} rules {s} {unread} {left} {old} {now} {kept} {new} left' later newer so_far fails = served_aborted p rules s unread left old now kept new left' later newer so_far fails
