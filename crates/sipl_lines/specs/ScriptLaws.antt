-- The protocol of a script is a line protocol.
use Rattle.std.proofs.Common.{◌≡◌, ◌<◌, ◌-◌, [], true, if◌then◌else◌, length, refl, sym, ap, ◌∙◌, subst}
use Rattle.std.specs.Prelude.{Option, None, Some}
use Rattle.std.proofs.lemmas.Bool.{false≢true, lt-ltb}
use Rattle.sipl_records.specs.Fields.{fields_of}
use Rattle.sipl_names.specs.Labels.{Octets}
use Rattle.sipl_lines.specs.Gathering.{GathersOrLoses}
use Rattle.sipl_lines.specs.Items.{Item, line}
use Rattle.sipl_lines.specs.Protocol.{IsLineProtocol}
use Rattle.sipl_lines.specs.Requests.{request_of, too_long}
use Rattle.sipl_lines.specs.SessionLaws.{gathered_after-long}
use Rattle.sipl_lines.specs.declared.gather.Gathering.{Gathering}
use Rattle.sipl_lines.specs.declared.play.Play.{Play}
use Rattle.sipl_lines.specs.declared.script.Script.{Script}
use Rattle.sipl_lines.specs.declared.script.Script.TheVariants.{Waiting, Playing, Ended}
use Rattle.sipl_lines.specs.Script.{Begins, Obeys, PlaysLine, MayReply, has_ended, play_loader, script_protocol}
use Rattle.sipl_lines.specs.ScriptLines.{session, fields_step_request, script_request_of, workers_in, workers_of}

-- once a script has ended an item has no reply
ended_silent : (s : Script) (item : Item) → has_ended s ≡ true → MayReply s item [] s
ended_silent (Waiting settings) item ended = absurd (false≢true ended)
ended_silent (Playing play) item ended = absurd (false≢true ended)
ended_silent Ended item ended = (refl, refl)

script_request_of-long : (octets : Octets) → 65536 < length octets → script_request_of octets ≡ session too_long
script_request_of-long octets long =
    ap (λ b. if b then session too_long else fields_step_request (fields_of octets) (request_of octets)) (lt-ltb 65536 (length octets) long)

workers_in-long : (octets : Octets) → 65536 < length octets → workers_in octets ≡ None
workers_in-long octets long = ap (λ b. if b then None else workers_of (fields_of octets)) (lt-ltb 65536 (length octets) long)

plays_line-long : (gathering : Option Gathering) (a b text : Octets) (s u : Play) → 65536 < length a → 65536 < length b → PlaysLine gathering a s text u → PlaysLine gathering b s text u
plays_line-long None a b text s u long long' plays =
    subst (λ r. Obeys r s text u) (script_request_of-long a long ∙ sym (script_request_of-long b long')) plays
plays_line-long (Some gathering) a b text s u long long' plays =
    subst (λ gathered. GathersOrLoses play_loader (record { left = gathering.left - 1; gathered = gathered }) s text u)
    (gathered_after-long a gathering.gathered long ∙ sym (gathered_after-long b gathering.gathered long')) plays

-- two lines that are too long have the same replies
long_alike : (s u : Script) (a b text : Octets) → 65536 < length a → 65536 < length b → MayReply s (line a) text u → MayReply s (line b) text u
long_alike (Waiting settings) u a b text long long' reply =
    subst (λ workers. Begins settings workers text u) (workers_in-long a long ∙ sym (workers_in-long b long')) reply
long_alike (Playing play) u a b text long long' reply =
    (reply.0, plays_line-long play.gathering a b text play reply.0 long long' reply.1, reply.2)
long_alike Ended u a b text long long' reply = reply

pub script_rules : IsLineProtocol script_protocol
script_rules = record { silent = ended_silent; long = long_alike; paused = λ s u same. ap has_ended same }
