-- The protocol of a session is a line protocol.
use Rattle.std.proofs.Common.{◌≡◌, ◌<◌, ◌-◌, [], true, if◌then◌else◌, length, refl, sym, ap, ◌∙◌, subst}
use Rattle.std.specs.Prelude.{Option, None, Some}
use Rattle.std.specs.Bool.{OnTrue, OnFalse}
use Rattle.std.proofs.lemmas.Bool.{lt-ltb}
use Rattle.sipl_records.specs.Fields.{fields_of}
use Rattle.sipl_names.specs.Labels.{Octets}
use Rattle.sipl_lines.specs.Commands.{Keeps}
use Rattle.sipl_lines.specs.Desk.{DeskRules}
use Rattle.sipl_lines.specs.Items.{Item, line}
use Rattle.sipl_lines.specs.Protocol.{IsLineProtocol}
use Rattle.sipl_lines.specs.Requests.{nothing, too_long, is_comment, fields_request, request_of}
use Rattle.sipl_lines.specs.Gathering.{GathersOrLoses, gathered_after, after_long_line, after_short_line}
use Rattle.sipl_lines.specs.declared.gather.Gathered.{Gathered}
use Rattle.sipl_lines.specs.declared.gather.Gathering.{Gathering}
use Rattle.sipl_lines.specs.Session.{SessionState, Obeys, TakesLine, TakesItem, MayPause, MayReply, session_loader, session_protocol}

-- once a session has ended an item has no reply
ended_silent : {D F : Type 0} (rules : DeskRules D F) (s : SessionState D) (item : Item) → s.ended ≡ true → MayReply rules s item [] s
ended_silent rules s item ended =
    subst (λ b. OnTrue b (Keeps [] s [] s) × OnFalse b (TakesItem rules item s [] s)) (sym ended) ((refl, refl), tt {0})

request_of-long : (octets : Octets) → 65536 < length octets → request_of octets ≡ too_long
request_of-long octets long =
    ap (λ b. if b then too_long else (if is_comment octets then nothing else fields_request (fields_of octets) octets))
    (lt-ltb 65536 (length octets) long)

pub gathered_after-long : (octets : Octets) (gathered : Gathered) → 65536 < length octets → gathered_after octets gathered ≡ after_long_line gathered
gathered_after-long octets gathered long =
    ap (λ b. if b then after_long_line gathered else after_short_line octets gathered) (lt-ltb 65536 (length octets) long)

takes_line-long : {D F : Type 0} (rules : DeskRules D F) (gathering : Option Gathering) (a b text : Octets) (s u : SessionState D) → 65536 < length a → 65536 < length b → OnFalse s.ended (TakesLine rules gathering a s text u) → OnFalse s.ended (TakesLine rules gathering b s text u)
takes_line-long rules None a b text s u long long' takes =
    subst (λ r. OnFalse s.ended (Obeys rules r s text u)) (request_of-long a long ∙ sym (request_of-long b long')) takes
takes_line-long rules (Some gathering) a b text s u long long' takes =
    subst (λ gathered. OnFalse s.ended (GathersOrLoses (session_loader rules) (record { left = gathering.left - 1; gathered = gathered }) s text u))
    (gathered_after-long a gathering.gathered long ∙ sym (gathered_after-long b gathering.gathered long')) takes

-- two lines that are too long have the same replies
long_alike : {D F : Type 0} (rules : DeskRules D F) (s u : SessionState D) (a b text : Octets) → 65536 < length a → 65536 < length b → MayReply rules s (line a) text u → MayReply rules s (line b) text u
long_alike rules s u a b text long long' reply =
    (reply.0, takes_line-long rules s.gathering a b text s u long long' reply.1)

-- after a pause a session has ended where it had before
pause_ends_nothing : {D F : Type 0} (rules : DeskRules D F) (s u : SessionState D) → MayPause rules s u → u.ended ≡ s.ended
pause_ends_nothing rules s u pause = ap (λ state. state.ended) pause.1

pub session_rules : {D F : Type 0} (rules : DeskRules D F) → IsLineProtocol (session_protocol rules)
session_rules rules = record { silent = ended_silent rules; long = long_alike rules; paused = pause_ends_nothing rules }
