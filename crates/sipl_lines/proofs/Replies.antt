-- Lemmas on the replies to items, for any protocol.
use Rattle.std.proofs.Common.{◌≡◌, ◌⊎◌, ℕ, ◌+◌, ◌-◌, ◌<◌, ◌≤◌, List, [], ◌∷◌, ◌++◌, true, false, if◌then◌else◌, ◌==◌, length, take, drop, refl, sym, ap, ◌∙◌, subst, inl, inr, append_assoc, append-nil, zero, suc, lit<, arith}
use Rattle.std.proofs.Math.Seq.{take-append_seam, drop-append_seam}
use Rattle.std.proofs.lemmas.List.{take_all, length-take, length-append, take-append-drop}
use Rattle.std.proofs.lemmas.Bool.{cases_lt}
use Rattle.sipl_names.specs.Labels.{Octets}
use Rattle.sipl_lines.specs.Lines.{without_cr}
use Rattle.sipl_lines.specs.Items.{Item, line, end_of_input}
use Rattle.sipl_lines.specs.Protocol.{IsLineProtocol, Protocol}
use Rattle.sipl_lines.specs.Replies.{Pauses, Waits, Serves, AppendsReply, AppendsReplies, AppendsFirstReplies}
use Rattle.sipl_lines.specs.Takes.{Takes, TakesFirst, EndAtLine}
use Rattle.sipl_lines.specs.Machine.{items_from, pending_after, kept_prefix, last_items, read_items, EndsNoLine, EndsLine}
use Rattle.sipl_lines.proofs.Cutting.{items_from-append, items_first, pending_after-append, kept-append, kept-kept, without_cr-length}

-- ---- pauses between items

-- with no pause all is as it was
pub waits_none : (p : Protocol) (s : p.State) → Waits p s s
waits_none p s = ([], refl)

pauses-append : (p : Protocol) (states others : List p.State) (s u v : p.State) → Pauses p s states u → Pauses p u others v → Pauses p s (states ++ others) v
pauses-append p [] others s u v first second = subst (λ w. Pauses p w others v) first second
pauses-append p (next ∷ states) others s u v first second = (first.0, pauses-append p states others next u v first.1 second)

waits_more : (p : Protocol) (s u v : p.State) → Waits p s u → Waits p u v → Waits p s v
waits_more p s u v first second = (first.0 ++ second.0, pauses-append p first.0 second.0 s u v first.1 second.1)

pub waits_once : (p : Protocol) (s u : p.State) → p.MayPause s u → Waits p s u
waits_once p s u pause = (u ∷ [], (pause, refl))

-- the items are served after a wait
serves_later : (p : Protocol) (items : List Item) (s u : p.State) (text : Octets) (v : p.State) → Waits p s u → Serves p u items text v → Serves p s items text v
serves_later p [] s u text v waits served = (served.0, waits_more p s u v waits served.1)
serves_later p (item ∷ items) s u text v waits served =
    record {
      reply = served.reply;
      replies = served.replies;
      between = served.between;
      first = (served.first.0, waits_more p s u served.first.0 waits served.first.1, served.first.2);
      others = served.others;
      joined = served.joined;
    }

-- the items are served, and then there is a wait
pub serves_waiting : (p : Protocol) (items : List Item) (s : p.State) (text : Octets) (u v : p.State) → Serves p s items text u → Waits p u v → Serves p s items text v
serves_waiting p [] s text u v served waits = (served.0, waits_more p s u v served.1 waits)
serves_waiting p (item ∷ items) s text u v served waits =
    record {
      reply = served.reply;
      replies = served.replies;
      between = served.between;
      first = served.first;
      others = serves_waiting p items served.between served.replies u v served.others waits;
      joined = served.joined;
    }

-- a pause after the items
pub serves_paused : (p : Protocol) (items : List Item) (s : p.State) (text : Octets) (u v : p.State) → Serves p s items text u → p.MayPause u v → Serves p s items text v
serves_paused p items s text u v served pause = serves_waiting p items s text u v served (waits_once p u v pause)

-- ---- replies to several items

pub Serves-one : (p : Protocol) (s : p.State) (item : Item) (text : Octets) (u : p.State) → p.MayReply s item text u → Serves p s (item ∷ []) text u
Serves-one p s item text u reply =
    record { reply = text; replies = []; between = u; first = (s, waits_none p s, reply); others = (refl, waits_none p u); joined = sym (append-nil text) }

pub Serves-append : (p : Protocol) (items more : List Item) (s u v : p.State) (text others : Octets)
    → Serves p s items text u → Serves p u more others v → Serves p s (items ++ more) (text ++ others) v
Serves-append p [] more s u v text others first second =
    subst (λ t. Serves p s more (t ++ others) v) (sym first.0) (serves_later p more s u others v first.1 second)
Serves-append p (item ∷ items) more s u v text others first second =
    record {
      reply = first.reply;
      replies = first.replies ++ others;
      between = first.between;
      first = first.first;
      others = Serves-append p items more first.between u v first.replies others first.others second;
      joined = ap (λ t. t ++ others) first.joined ∙ append_assoc first.reply first.replies others;
    }

-- a state that has ended says nothing
pub Serves-ended : (p : Protocol) → IsLineProtocol p → (items : List Item) (s : p.State) → p.has_ended s ≡ true → Serves p s items [] s
Serves-ended p rules [] s ended = (refl, waits_none p s)
Serves-ended p rules (item ∷ items) s ended =
    record { reply = []; replies = []; between = s; first = (s, waits_none p s, rules.silent s item ended); others = Serves-ended p rules items s ended; joined = refl }

-- ---- items that have the same replies

abbrev pub AreAlike : Protocol → Item → Item → Type 0
AreAlike p item other = (s : p.State) (text : Octets) (u : p.State) → p.MayReply s item text u → p.MayReply s other text u

abbrev pub AreAllAlike : Protocol → List Item → List Item → Type 0
AreAllAlike p [] [] = Unit {0}
AreAllAlike p [] (other ∷ others) = ⊥
AreAllAlike p (item ∷ items) [] = ⊥
AreAllAlike p (item ∷ items) (other ∷ others) = AreAlike p item other × AreAllAlike p items others

AreAlike-same : (p : Protocol) (item other : Item) → item ≡ other → AreAlike p item other
AreAlike-same p item other same s text u reply = let P : Item → Type 0 = λ i. p.MayReply s i text u in subst P same reply

AreAllAlike-refl : (p : Protocol) (items : List Item) → AreAllAlike p items items
AreAllAlike-refl p [] = tt
AreAllAlike-refl p (item ∷ items) = (AreAlike-same p item item refl, AreAllAlike-refl p items)

pub AreAllAlike-split : (p : Protocol) (done others items : List Item) → AreAllAlike p (done ++ others) items
    → (first : List Item) × (rest : List Item) × (items ≡ first ++ rest) × AreAllAlike p done first
AreAllAlike-split p [] others items alike = ([], items, refl, tt)
AreAllAlike-split p (d ∷ done) others [] alike = absurd alike
AreAllAlike-split p (d ∷ done) others (item ∷ items) alike =
    let rest = AreAllAlike-split p done others items alike.1 in
    (item ∷ rest.0, rest.1, ap (λ l. item ∷ l) rest.2, (alike.0, rest.3))

pub Serves-alike : (p : Protocol) (items others : List Item) (s : p.State) (text : Octets) (u : p.State) → AreAllAlike p items others → Serves p s items text u → Serves p s others text u
Serves-alike p [] [] s text u alike serves = serves
Serves-alike p [] (other ∷ others) s text u alike serves = absurd alike
Serves-alike p (item ∷ items) [] s text u alike serves = absurd alike
Serves-alike p (item ∷ items) (other ∷ others) s text u alike serves =
    record {
      reply = serves.reply;
      replies = serves.replies;
      between = serves.between;
      first = (serves.first.0, serves.first.1, alike.0 serves.first.0 serves.reply serves.between serves.first.2);
      others = Serves-alike p items others serves.between serves.replies u alike.1 serves.others;
      joined = serves.joined;
    }

AreAlike-long : (p : Protocol) → IsLineProtocol p → (a b : Octets) → 65536 < length a → 65536 < length b → AreAlike p (line a) (line b)
AreAlike-long p rules a b long long' s text u reply = rules.long s u a b text long long' reply

-- two pending lines of which the same is kept are one, or both are too long whatever follows
kept_cases : (a b : Octets) → kept_prefix a ≡ kept_prefix b → (a ≡ b) ⊎ ((65538 ≤ length a) × (65538 ≤ length b))
kept_cases a b alike =
    let count : length (take 65538 a) ≡ length (take 65538 b) = ap length alike in
    let a_count = length-take 65538 a in
    let b_count = length-take 65538 b in
    elim (cases_lt (length a) 65538) as (λ _. (a ≡ b) ⊎ ((65538 ≤ length a) × (65538 ≤ length b))) [
      | inl short ↦ inl (sym (take_all 65538 a (omega arith)) ∙ alike ∙ take_all 65538 b (omega arith))
      | inr long ↦ inr (long, omega arith)
    ]

AreAlike-kept : (p : Protocol) → IsLineProtocol p → (a b : Octets) → kept_prefix a ≡ kept_prefix b → AreAlike p (line a) (line b)
AreAlike-kept p rules a b alike =
    elim (kept_cases a b alike) as (λ _. AreAlike p (line a) (line b)) [
      | inl same ↦ AreAlike-same p (line a) (line b) (ap line same)
      | inr long ↦ AreAlike-long p rules a b (omega arith) (omega arith)
    ]

AreAlike-kept_cr : (p : Protocol) → IsLineProtocol p → (a b : Octets) → kept_prefix a ≡ kept_prefix b → AreAlike p (line (without_cr a)) (line (without_cr b))
AreAlike-kept_cr p rules a b alike =
    elim (kept_cases a b alike) as (λ _. AreAlike p (line (without_cr a)) (line (without_cr b))) [
      | inl same ↦ AreAlike-same p (line (without_cr a)) (line (without_cr b)) (ap (λ text. line (without_cr text)) same)
      | inr long ↦ AreAlike-long p rules (without_cr a) (without_cr b) (omega (arith, without_cr-length a)) (omega (arith, without_cr-length b))
    ]

pub items_from-alike : (p : Protocol) → IsLineProtocol p → (octets a b : Octets) → kept_prefix a ≡ kept_prefix b → AreAllAlike p (items_from a octets) (items_from b octets)
items_from-alike p rules [] a b alike = tt
items_from-alike p rules (c ∷ octets) a b alike =
    elim (c == 10) as (λ v. AreAllAlike p (if v then line (without_cr a) ∷ items_from [] octets else items_from (a ++ c ∷ []) octets)
    (if v then line (without_cr b) ∷ items_from [] octets else items_from (b ++ c ∷ []) octets)) [
      | true ↦ (AreAlike-kept_cr p rules a b alike, AreAllAlike-refl p (items_from [] octets))
      | false ↦ items_from-alike p rules octets (a ++ c ∷ []) (b ++ c ∷ []) (kept-append a b (c ∷ []) alike)
    ]

some_kept : (n c : ℕ) (b : Octets) → 0 < n → [] ≡ take n (c ∷ b) → ⊥
some_kept zero c b some none = omega arith
some_kept (suc n) c b some none = cc

last_items-alike : (p : Protocol) → IsLineProtocol p → (a b : Octets) → kept_prefix a ≡ kept_prefix b → AreAllAlike p (last_items a) (last_items b)
last_items-alike p rules [] [] alike = AreAllAlike-refl p (end_of_input ∷ [])
last_items-alike p rules [] (c ∷ b) alike = absurd (some_kept 65538 c b (lit< tt) alike)
last_items-alike p rules (c ∷ a) [] alike = absurd (some_kept 65538 c a (lit< tt) (sym alike))
last_items-alike p rules (c ∷ a) (d ∷ b) alike = (AreAlike-kept p rules (c ∷ a) (d ∷ b) alike, AreAllAlike-refl p (end_of_input ∷ []))

-- the replies depend only on what is kept of a pending line
pub read_items-alike : (p : Protocol) → IsLineProtocol p → (octets a b : Octets) → kept_prefix a ≡ kept_prefix b → AreAllAlike p (read_items a octets) (read_items b octets)
read_items-alike p rules [] a b alike = last_items-alike p rules a b alike
read_items-alike p rules (c ∷ octets) a b alike = items_from-alike p rules (c ∷ octets) a b alike

-- ---- replies after one another in a buffer

pub replies_none : (p : Protocol) (s : p.State) (old : Octets) → AppendsReplies p s [] old s old
replies_none p s old = ([], (refl, waits_none p s), sym (append-nil old))

pub replies_one : (p : Protocol) (s : p.State) (item : Item) (old : Octets) (u : p.State) (new : Octets) → AppendsReply p s item old u new → AppendsReplies p s (item ∷ []) old u new
replies_one p s item old u new reply = (reply.0, Serves-one p s item reply.0 u reply.1, reply.2)

pub replies_more : (p : Protocol) (items more : List Item) (s u v : p.State) (old mid new : Octets)
    → AppendsReplies p s items old u mid → AppendsReplies p u more mid v new → AppendsReplies p s (items ++ more) old v new
replies_more p items more s u v old mid new first second = (
  first.0 ++ second.0,
  Serves-append p items more s u v first.0 second.0 first.1 second.1,
  second.2 ∙ ap (λ t. t ++ second.0) first.2 ∙ append_assoc old first.0 second.0,
)

-- the reply to a line of which nothing was pending
pub replies_whole : (p : Protocol) (s : p.State) (text piece pending old : Octets) (u : p.State) (new : Octets) → text ≡ without_cr piece → pending ≡ []
    → AppendsReply p s (line text) old u new → AppendsReplies p s (line (without_cr (pending ++ piece)) ∷ []) old u new
replies_whole p s text piece pending old u new is empty reply =
    let whole : text ≡ without_cr (pending ++ piece) = is ∙ ap (λ (q : Octets). without_cr (q ++ piece)) (sym empty) in
    let P : Octets → Type 0 = λ l. AppendsReplies p s (line l ∷ []) old u new in
    subst P whole (replies_one p s (line text) old u new reply)

pub replies_alike : (p : Protocol) (items others : List Item) (s : p.State) (old : Octets) (u : p.State) (new : Octets) → AreAllAlike p items others
    → AppendsReplies p s items old u new → AppendsReplies p s others old u new
replies_alike p items others s old u new alike replies = (replies.0, Serves-alike p items others s replies.0 u alike replies.1, replies.2)

-- the reply to a line of which a prefix was kept
pub replies_kept : (p : Protocol) → IsLineProtocol p → (s : p.State) (text kept pending old : Octets) (u : p.State) (new : Octets) → text ≡ without_cr kept → kept ≡ kept_prefix pending
    → AppendsReply p s (line text) old u new → AppendsReplies p s (line (without_cr pending) ∷ []) old u new
replies_kept p rules s text kept pending old u new stripped is_kept reply =
    let alike : kept_prefix kept ≡ kept_prefix pending = ap kept_prefix is_kept ∙ kept-kept pending in
    let P : Octets → Type 0 = λ l. AppendsReply p s (line l) old u new in
    replies_alike p (line (without_cr kept) ∷ []) (line (without_cr pending) ∷ []) s old u new (AreAlike-kept_cr p rules kept pending alike, tt)
    (replies_one p s (line (without_cr kept)) old u new (subst P stripped reply))

-- the replies to what is left at the end of the input, and to the end
pub replies_last : (p : Protocol) (s : p.State) (kept old : Octets) (u : p.State) (mid : Octets) (v : p.State) (new : Octets) → (length kept ≡ 0 → ⊥)
    → AppendsReply p s (line kept) old u mid → AppendsReply p u end_of_input mid v new → AppendsReplies p s (last_items kept) old v new
replies_last p s [] old u mid v new some reply last = absurd (some refl)
replies_last p s (c ∷ kept) old u mid v new some reply last =
    replies_more p (line (c ∷ kept) ∷ []) (end_of_input ∷ []) s u v old mid new
    (replies_one p s (line (c ∷ kept)) old u mid reply) (replies_one p u end_of_input mid v new last)

-- where nothing is left, the reply to the end
pub replies_end : (p : Protocol) (s : p.State) (kept old : Octets) (u : p.State) (new : Octets) → kept ≡ []
    → AppendsReply p s end_of_input old u new → AppendsReplies p s (last_items kept) old u new
replies_end p s kept old u new none reply =
    let P : Octets → Type 0 = λ k. AppendsReplies p s (last_items k) old u new in
    subst P (sym none) (replies_one p s end_of_input old u new reply)

-- no item was served
pub first_none : (p : Protocol) (s : p.State) (items : List Item) (old : Octets) (u : p.State) (new : Octets) → u ≡ s → new ≡ old → AppendsFirstReplies p s items old u new
first_none p s items old u new same same_out =
    record { done = []; rest = items; split = refl; replies = ([], (refl, ([], same)), same_out ∙ sym (append-nil old)) }

-- what was left is served, and the end is not
pub first_line : (p : Protocol) (s : p.State) (kept old : Octets) (u : p.State) (mid : Octets) (v : p.State) (new : Octets) → (length kept ≡ 0 → ⊥)
    → AppendsReply p s (line kept) old u mid → v ≡ u → new ≡ mid → AppendsFirstReplies p s (last_items kept) old v new
first_line p s [] old u mid v new some reply same same_out = absurd (some refl)
first_line p s (c ∷ kept) old u mid v new some reply same same_out =
    record {
      done = line (c ∷ kept) ∷ [];
      rest = end_of_input ∷ [];
      split = refl;
      replies = subst (λ w. AppendsReplies p s (line (c ∷ kept) ∷ []) old w new) (sym same)
          (subst (λ o. AppendsReplies p s (line (c ∷ kept) ∷ []) old u o) (sym same_out) (replies_one p s (line (c ∷ kept)) old u mid reply));
    }

-- ---- a chunk that is fed

-- so much of a chunk is taken, up to the end of a line, and the rest is left
pub record FedTo (p : Protocol) (before : p.State) (first chunk old : Octets) (now : p.State) (pending rest new : Octets) : Type 0 where
  pub taken : Octets
  pub joined : chunk ≡ taken ++ rest
  pub left : pending_after first taken ≡ pending
  pub ends : EndAtLine taken
  pub replies : AppendsReplies p before (items_from first taken) old now new
  pub same_state : items_from first taken ≡ [] → now ≡ before

pub fed_none : (p : Protocol) (before : p.State) (first chunk old : Octets) → FedTo p before first chunk old before first chunk old
fed_none p before first chunk old =
    record { taken = []; joined = refl; left = refl; ends = inl refl; replies = replies_none p before old; same_state = λ _. refl }

no_item : (item : Item) (items : List Item) → item ∷ items ≡ [] → ⊥
no_item item items none = cc

some_item : (items : List Item) (item : Item) → items ++ item ∷ [] ≡ [] → ⊥
some_item [] item none = cc
some_item (other ∷ items) item none = cc

pub fed_more : {p : Protocol} {before : p.State} {first chunk old : Octets} {now : p.State} {pending rest new : Octets} (piece tail : Octets) (next later : p.State) (newer : Octets)
    → FedTo p before first chunk old now pending rest new → EndsLine rest piece tail
    → AppendsReplies p now (line (without_cr (pending ++ piece)) ∷ []) new next newer → Waits p next later → FedTo p before first chunk old later [] tail newer
fed_more {p} {before} {first} {chunk} {old} {now} {pending} {rest} {new} piece tail next later newer fed ends replies waits =
    let item = line (without_cr (pending ++ piece)) in
    let more : Octets = piece ++ 10 ∷ [] in
    let done : items_from first (fed.taken ++ more) ≡ items_from first fed.taken ++ item ∷ [] =
    items_from-append fed.taken more first ∙ ap (λ q. items_from first fed.taken ++ items_from q more) fed.left
    ∙ ap (λ items. items_from first fed.taken ++ items) (items_first pending more piece [] (refl, ends.1)) in
    record {
      taken = fed.taken ++ more;
      joined = fed.joined ∙ ap (λ r. fed.taken ++ r) (ends.0 ∙ sym (append_assoc piece (10 ∷ []) tail)) ∙ sym (append_assoc fed.taken more tail);
      left = pending_after-append fed.taken more first ∙ pending_after-append piece (10 ∷ []) (pending_after first fed.taken);
      ends = inr (fed.taken ++ piece, sym (append_assoc fed.taken piece (10 ∷ [])));
      replies = subst (λ items. AppendsReplies p before items old later newer) (sym done)
          (replies_more p (items_from first fed.taken) (item ∷ []) before now later old new newer fed.replies
          (replies.0, serves_waiting p (item ∷ []) now replies.0 next later replies.1 waits, replies.2));
      same_state = λ none. absurd (some_item (items_from first fed.taken) item (sym done ∙ none));
    }

-- no line ends in the rest: all is taken
pub fed_all : {p : Protocol} {before : p.State} {first chunk old : Octets} {now : p.State} {pending rest new : Octets} (kept : Octets)
    → FedTo p before first chunk old now pending rest new → EndsNoLine rest → kept ≡ kept_prefix (pending ++ rest) → length pending ≤ 65538
    → Takes p before first chunk old now kept new
fed_all {p} {before} {first} {chunk} {old} {now} {pending} {rest} {new} kept fed none is_kept short =
    let items : items_from first chunk ≡ items_from first fed.taken =
    ap (items_from first) fed.joined ∙ items_from-append fed.taken rest first
    ∙ ap (λ more. items_from first fed.taken ++ more) (none (pending_after first fed.taken)).0 ∙ append-nil (items_from first fed.taken) in
    let after : pending_after first chunk ≡ pending ++ rest =
    ap (pending_after first) fed.joined ∙ pending_after-append fed.taken rest first ∙ (none (pending_after first fed.taken)).1 ∙ ap (λ q. q ++ rest) fed.left in
    record {
      replies = subst (λ all. AppendsReplies p before all old now new) (sym items) fed.replies;
      pending_is = is_kept ∙ ap kept_prefix (sym after);
      same_state = λ empty. fed.same_state (sym items ∙ empty);
      same_pending = λ empty.
          let same : pending ++ rest ≡ first = sym after ∙ ap (pending_after first) empty in
          let no_more : length rest ≡ 0 = omega (arith, length-append fed.taken rest, ap length (sym fed.joined ∙ empty)) in
          is_kept ∙ ap kept_prefix same ∙ take_all 65538 first (omega (arith, length-append pending rest, ap length same, short, no_more));
    }

-- the line that ends next is not served: what was taken before is all
pub fed_before : {p : Protocol} {before : p.State} {first chunk old : Octets} {now : p.State} {pending rest new : Octets} (piece tail : Octets) (later : p.State) (kept newer : Octets)
    → FedTo p before first chunk old now pending rest new → EndsLine rest piece tail → later ≡ now → kept ≡ pending → newer ≡ new → length pending ≤ 65538
    → TakesFirst p (length chunk - length rest) before first chunk old later kept newer
fed_before {p} {before} {first} {chunk} {old} {now} {pending} {rest} {new} piece tail later kept newer fed ends same same_kept same_out short =
    let count : ℕ = length chunk - length rest in
    let whole : length chunk ≡ length fed.taken + length rest = ap length fed.joined ∙ length-append fed.taken rest in
    let counts : count ≡ length fed.taken = omega (arith, whole) in
    let front : take count chunk ≡ fed.taken =
    ap (λ n. take n chunk) counts ∙ ap (take (length fed.taken)) fed.joined ∙ take-append_seam fed.taken rest in
    let behind : drop count chunk ≡ rest =
    ap (λ n. drop n chunk) counts ∙ ap (drop (length fed.taken)) fed.joined ∙ drop-append_seam fed.taken rest in
    let replies : AppendsReplies p before (items_from first fed.taken) old later newer =
    subst (λ s. AppendsReplies p before (items_from first fed.taken) old s newer) (sym same)
    (subst (λ o. AppendsReplies p before (items_from first fed.taken) old now o) (sym same_out) fed.replies) in
    let takes : Takes p before first fed.taken old later kept newer =
    record {
      replies = replies;
      pending_is = same_kept ∙ sym (take_all 65538 pending short) ∙ ap kept_prefix (sym fed.left);
      same_state = λ none. same ∙ fed.same_state none;
      same_pending = λ empty. same_kept ∙ sym fed.left ∙ ap (pending_after first) empty;
    } in
    let some : items_from [] rest ≡ line (without_cr piece) ∷ items_from [] tail = items_first [] rest piece tail ends in
    record {
      takes = subst (λ octets. Takes p before first octets old later kept newer) (sym front) takes;
      ends = subst EndAtLine (sym front) fed.ends;
      line = λ none. no_item (line (without_cr piece)) (items_from [] tail) (sym some ∙ ap (items_from []) (sym behind) ∙ none);
      within = omega (arith, whole, ap length ends.0, length-append piece (10 ∷ tail));
    }

-- the items that are taken before a fault are the first ones of the chunk
pub first_taken : (p : Protocol) (count : ℕ) (before : p.State) (pending chunk old : Octets) (after : p.State) (kept new : Octets)
    → TakesFirst p count before pending chunk old after kept new → AppendsFirstReplies p before (items_from pending chunk) old after new
first_taken p count before pending chunk old after kept new first =
    record {
      done = items_from pending (take count chunk);
      rest = items_from (pending_after pending (take count chunk)) (drop count chunk);
      split = ap (items_from pending) (sym (take-append-drop count chunk)) ∙ items_from-append (take count chunk) (drop count chunk) pending;
      replies = first.takes.replies;
    }
