-- A session over one input at the plain machine: where no allocation fails it has one text.
use Rattle.std.proofs.Common.{◌≡◌, ◌⊎◌, ℕ, ◌-◌, List, [], ◌∷◌, ◌++◌, Bool, true, false, Option, None, Some, ◌==◌, length, refl, sym, ap, ◌∙◌, subst, inl, inr, append_assoc, codes}
use Rattle.std.specs.Prelude.{nat_lt, if◌then◌else◌}
use Rattle.std.specs.Bool.{OnTrue, OnFalse}
use Rattle.sipl_names.specs.Labels.{Octets}
use Rattle.sipl_lines.specs.declared.gather.Gathered.TheVariants.{Lost}
use Rattle.sipl_lines.specs.declared.gather.Gathering.{Gathering}
use Rattle.sipl_lines.specs.Commands.{Keeps}
use Rattle.sipl_lines.specs.Gathering.{Gathers, GathersOrLoses, after_line, after_long_line, after_short_line, lost}
use Rattle.sipl_lines.specs.Items.{Item, line, end_of_input, line_items}
use Rattle.sipl_lines.specs.OneReply.{EndsInMemory, TellsMemory}
use Rattle.sipl_lines.specs.PlainDesk.{plain_rules}
use Rattle.sipl_lines.specs.Replies.{Pauses, Serves, Waits, WaitsAndReplies}
use Rattle.sipl_lines.specs.ReplyText.{refusal_line}
use Rattle.sipl_lines.specs.Session.{with_desk, with_gathering, MayReply, TakesEnd, TakesItem, TakesLine, session_loader, session_protocol}
use Rattle.sipl_lines.proofs.OneReply.{IsLost, OneOrLosing, State, end_once, reply_once}

-- what a session at the plain machine serves
abbrev AtPlain : State → List Item → Octets → State → Type 0
AtPlain before items text after = Serves (session_protocol plain_rules) before items text after

-- ---- pauses change nothing

paused_same : (states : List State) (s u : State) → Pauses (session_protocol plain_rules) s states u → u ≡ s
paused_same [] s u same = same
paused_same (next ∷ others) s u paused = paused_same others next u paused.1 ∙ paused.0.1 ∙ ap (λ desk. with_desk desk s) paused.0.0

waited_same : (s u : State) → Waits (session_protocol plain_rules) s u → u ≡ s
waited_same s u waits = paused_same waits.0 s u waits.1

-- the reply to an item, from the state before the pauses
reply_of : (s : State) (item : Item) (text : Octets) (u : State) → WaitsAndReplies (session_protocol plain_rules) s item text u → MayReply plain_rules s item text u
reply_of s item text u first =
    let P : State → Type 0 = λ w. MayReply plain_rules w item text u in
    subst P (waited_same s first.0 first.1) first.2

-- ---- parts of a text

ends_inside : (text reply replies : Octets) → text ≡ reply ++ replies → (TellsMemory text → ⊥) → EndsInMemory reply → ⊥
ends_inside text reply replies is well ends = well (ends.0, replies, is ∙ ap (λ r. r ++ replies) ends.1)

tells_inside : (text reply replies : Octets) → text ≡ reply ++ replies → (TellsMemory text → ⊥) → TellsMemory replies → ⊥
tells_inside text reply replies is well tells =
    let memory : Octets = refusal_line (codes "Memory") in
    let whole : text ≡ ((reply ++ tells.0) ++ memory) ++ tells.1 =
    is ∙ ap (λ r. reply ++ r) tells.2 ∙ sym (append_assoc reply (tells.0 ++ memory) tells.1) ∙ ap (λ r. r ++ tells.1) (sym (append_assoc reply tells.0 memory)) in
    well (reply ++ tells.0, tells.1, whole)

-- ---- the lines of a zone that are lost: the reply to the last of them is `err Memory`

stays_lost : (long : Bool) (octets : Octets) → (if long then after_long_line Lost else after_short_line octets Lost) ≡ Lost
stays_lost true octets = refl
stays_lost false octets = refl

line_lost : (octets : Octets) (n : ℕ) → after_line octets (lost n) ≡ lost (n - 1)
line_lost octets n = λ i. record { left = n - 1; gathered = stays_lost (nat_lt 65536 (length octets)) octets i }

gathers_lost : (n : ℕ) (s : State) (text : Octets) (u : State) → GathersOrLoses (session_loader plain_rules) (lost n) s text u → Gathers (session_loader plain_rules) (lost n) s text u
gathers_lost n s text u (inl done) = done
gathers_lost n s text u (inr done) = done.1

lost_on : (last : Bool) (n : ℕ) (s : State) (text : Octets) (u : State)
    → OnTrue last (Keeps (refusal_line (codes "Memory")) (with_gathering None s) text u) × OnFalse last (Keeps [] (with_gathering (Some (lost n)) s) text u)
    → (EndsInMemory text → ⊥) → u ≡ with_gathering (Some (lost n)) s
lost_on true n s text u done well = absurd (well ([], done.0.0))
lost_on false n s text u done well = done.1.1

-- what an item does where the session has not ended
takes : (s : State) (item : Item) (text : Octets) (u : State) → s.ended ≡ false → MayReply plain_rules s item text u → TakesItem plain_rules item s text u
takes s item text u ongoing reply =
    let P : Bool → Type 0 = λ ended. OnFalse ended (TakesItem plain_rules item s text u) in
    subst P ongoing reply.1

line_on : (s : State) (octets : Octets) (n : ℕ) (text : Octets) (u : State) → s.gathering ≡ Some (lost n) → TakesLine plain_rules s.gathering octets s text u
    → (EndsInMemory text → ⊥) → u ≡ with_gathering (Some (lost (n - 1))) s
line_on s octets n text u gathering taken well =
    let P : Option Gathering → Type 0 = λ g. TakesLine plain_rules g octets s text u in
    let Q : Gathering → Type 0 = λ g. GathersOrLoses (session_loader plain_rules) g s text u in
    lost_on (n - 1 == 0) (n - 1) s text u (gathers_lost (n - 1) s text u (subst Q (line_lost octets n) (subst P gathering taken))) well

end_fails : (s : State) (n : ℕ) (text : Octets) (u : State) → s.gathering ≡ Some (lost n) → TakesEnd plain_rules s.gathering s text u → EndsInMemory text
end_fails s n text u gathering taken =
    let P : Option Gathering → Type 0 = λ g. TakesEnd plain_rules g s text u in
    ([], (gathers_lost 0 s text u (subst P gathering taken)).0.0)

lost_fails : (lines : List Octets) (n : ℕ) (s : State) (text : Octets) (u : State) → s.gathering ≡ Some (lost n) → s.ended ≡ false
    → AtPlain s (line_items lines ++ end_of_input ∷ []) text u → (TellsMemory text → ⊥) → ⊥
lost_fails [] n s text u gathering ongoing served well =
    let reply = reply_of s end_of_input served.reply served.between served.first in
    ends_inside text served.reply served.replies served.joined well
    (end_fails s n served.reply served.between gathering (takes s end_of_input served.reply served.between ongoing reply))
lost_fails (octets ∷ lines) n s text u gathering ongoing served well =
    let reply = reply_of s (line octets) served.reply served.between served.first in
    let on : served.between ≡ with_gathering (Some (lost (n - 1))) s =
    line_on s octets n served.reply served.between gathering (takes s (line octets) served.reply served.between ongoing reply)
    (ends_inside text served.reply served.replies served.joined well) in
    lost_fails lines (n - 1) served.between served.replies u (ap (λ w. w.gathering) on) (ap (λ w. w.ended) on ∙ ongoing) served.others
    (tells_inside text served.reply served.replies served.joined well)

-- the state with lost lines, of two that a line leaves, leads to `err Memory`
lost_one : (lines : List Octets) (before a b : State) (text : Octets) (u : State) → before.ended ≡ false → IsLost before a b
    → AtPlain a (line_items lines ++ end_of_input ∷ []) text u → (TellsMemory text → ⊥) → ⊥
lost_one lines before a b text u ongoing is served well =
    lost_fails lines is.left a text u (ap (λ w. w.gathering) is.taken) (ap (λ w. w.ended) is.taken ∙ ongoing) served well

either_fails : (lines : List Octets) (before a b : State) (t u : Octets) (c d : State) → before.ended ≡ false → IsLost before a b ⊎ IsLost before b a
    → AtPlain a (line_items lines ++ end_of_input ∷ []) t c → AtPlain b (line_items lines ++ end_of_input ∷ []) u d
    → (TellsMemory t → ⊥) → (TellsMemory u → ⊥) → ⊥
either_fails lines before a b t u c d ongoing (inl first) served served' well well' = lost_one lines before a b t c ongoing first served well
either_fails lines before a b t u c d ongoing (inr second) served served' well well' = lost_one lines before b a u d ongoing second served' well'

-- two states that a line leaves are equal, where both lead on to no `err Memory`
same_state : (lines : List Octets) (before a b : State) (t u : Octets) (c d : State) → OneOrLosing before a b
    → AtPlain a (line_items lines ++ end_of_input ∷ []) t c → AtPlain b (line_items lines ++ end_of_input ∷ []) u d
    → (TellsMemory t → ⊥) → (TellsMemory u → ⊥) → a ≡ b
same_state lines before a b t u c d (inl same) served served' well well' = same
same_state lines before a b t u c d (inr known) served served' well well' = absurd (either_fails lines before a b t u c d known.0 known.1 served served' well well')

pub one_text : (lines : List Octets) (s : State) (t u : Octets) (a b : State)
    → AtPlain s (line_items lines ++ end_of_input ∷ []) t a → AtPlain s (line_items lines ++ end_of_input ∷ []) u b
    → (TellsMemory t → ⊥) → (TellsMemory u → ⊥) → (t ≡ u) × (a ≡ b)
one_text [] s t u a b served served' well well' =
    let one = end_once s served.reply served'.reply served.between served'.between
    (reply_of s end_of_input served.reply served.between served.first) (reply_of s end_of_input served'.reply served'.between served'.first)
    (ends_inside t served.reply served.replies served.joined well) (ends_inside u served'.reply served'.replies served'.joined well') in
    let rest : served.replies ≡ served'.replies = served.others.0 ∙ sym served'.others.0 in (
      served.joined ∙ (λ i. one.0 i ++ rest i) ∙ sym served'.joined,
      waited_same served.between a served.others.1 ∙ one.1 ∙ sym (waited_same served'.between b served'.others.1),
    )
one_text (octets ∷ lines) s t u a b served served' well well' =
    let one = reply_once (line octets) s served.reply served'.reply served.between served'.between
    (reply_of s (line octets) served.reply served.between served.first) (reply_of s (line octets) served'.reply served'.between served'.first)
    (ends_inside t served.reply served.replies served.joined well) (ends_inside u served'.reply served'.replies served'.joined well') in
    let quiet = tells_inside t served.reply served.replies served.joined well in
    let quiet' = tells_inside u served'.reply served'.replies served'.joined well' in
    let same = same_state lines s served.between served'.between served.replies served'.replies a b one.1 served.others served'.others quiet quiet' in
    let P : State → Type 0 = λ w. AtPlain w (line_items lines ++ end_of_input ∷ []) served'.replies b in
    let rest = one_text lines served.between served.replies served'.replies a b served.others (subst P (sym same) served'.others) quiet quiet' in
    (served.joined ∙ (λ i. one.0 i ++ rest.0 i) ∙ sym served'.joined, rest.1)
