-- A script: what each of its lines does, and the replies.
use Rattle.std.specs.Prelude.{◌≡◌, ◌⊎◌, ℕ, Bool, true, false, [], replicate, Option, None, Some, Result, Ok, Err, codes}
use Rattle.sipl_names.specs.Labels.{Octets}
use Rattle.sipl_book.specs.Book.{new_book}
use Rattle.sipl_book.specs.declared.edit.Edit.TheVariants.{Load}
use Rattle.sipl_interleave.specs.Steps.{IsStep}
use Rattle.sipl_interleave.specs.World.{WorldState}
use Rattle.sipl_interleave.specs.declared.reply.Reply.{Reply}
use Rattle.sipl_interleave.specs.declared.step.Step.{Step}
use Rattle.sipl_interleave.specs.declared.step.Step.TheVariants.{Change}
use Rattle.sipl_lines.specs.Commands.{Keeps, Refuses, Fails}
use Rattle.sipl_lines.specs.Gathering.{Gathers, GathersOrLoses, Loader, gathering_of, after_line, at_end, lost}
use Rattle.sipl_lines.specs.Items.{Item, line, end_of_input}
use Rattle.sipl_lines.specs.Protocol.{Protocol}
use Rattle.sipl_lines.specs.ReplyText.{refusal_line}
use Rattle.sipl_lines.specs.Requests.{Request, nothing, zone}
use Rattle.sipl_lines.specs.ScriptLines.{ScriptRequest, session, script_request_of, workers_in}
use Rattle.sipl_lines.specs.ScriptSteps.{ValueOrCode, MayFail, step_of}
use Rattle.sipl_lines.specs.ScriptText.{Shows, shown_of}
use Rattle.sipl_lines.specs.Serving.{ServesWithin}
use Rattle.sipl_lines.specs.Settings.{limits_of}
use Rattle.sipl_lines.specs.declared.server.Ended.{Ended as Ending}
use Rattle.sipl_lines.specs.declared.server.ServeFault.{ServeFault}
use Rattle.sipl_lines.specs.declared.tapped.Tapped.{Tapped}
use Rattle.sipl_lines.specs.declared.settings.Settings.{Settings}
use Rattle.sipl_lines.specs.declared.gather.Gathering.{Gathering}
use Rattle.sipl_lines.specs.declared.play.Play.{Play}
use Rattle.sipl_lines.specs.declared.script.Script.{Script}
use Rattle.sipl_lines.specs.declared.script.Script.TheVariants.{Waiting, Playing, Ended}

-- ---- once there is a world

-- a step is made, and the reply shows what it did
abbrev pub Makes : Step → WorldState → Octets → WorldState → Type 0
Makes step before text after =
    (reply : Reply) × IsStep step before after reply × Shows (shown_of step) reply text

-- a step is made, or its line is refused with a code
abbrev pub MakesOrRefuses : ValueOrCode Step → WorldState → Octets → WorldState → Type 0
MakesOrRefuses (Ok step) before text after = Makes step before text after
MakesOrRefuses (Err code) before text after = Refuses code before text after

-- what happens in the world; all else is as it was
abbrev pub InWorld : (WorldState → Octets → WorldState → Type 0) → Play → Octets → Play → Type 0
InWorld Acts before text after =
    Acts before.world text after.world × (after ≡ record before { world = after.world })

-- the zones whose lines a play takes are loaded by a step
abbrev pub play_loader : Loader Play
play_loader =
    record {
      keep = λ gathering play. record play { gathering = gathering };
      Loads = λ loaded. InWorld (Makes (Change (Load loaded)));
    }

-- the step of a request is made, or its line is refused; where an allocation for its fields fails,
-- nothing happens
abbrev pub MakesStepOf : ScriptRequest → Play → Octets → Play → Type 0
MakesStepOf request before text after =
    InWorld (MakesOrRefuses (step_of request)) before text after
    ⊎ (MayFail request × Fails before text after)

-- what the request of a session's line does
abbrev pub ObeysSession : Request → Play → Octets → Play → Type 0
ObeysSession nothing before text after = Keeps [] before text after
ObeysSession (zone apex lines) before text after =
    Gathers play_loader (gathering_of apex lines None) before text after
    ⊎ Gathers play_loader (lost lines) before text after
ObeysSession request before text after = MakesStepOf (session request) before text after

-- what a request does
abbrev pub Obeys : ScriptRequest → Play → Octets → Play → Type 0
Obeys (session request) before text after = ObeysSession request before text after
Obeys request before text after = MakesStepOf request before text after

-- what a line does: it asks for something, or is one of the lines that a zone takes
abbrev pub PlaysLine : Option Gathering → Octets → Play → Octets → Play → Type 0
PlaysLine None octets before text after = Obeys (script_request_of octets) before text after
PlaysLine (Some gathering) octets before text after =
    GathersOrLoses play_loader (after_line octets gathering) before text after

-- what the end of the input does: a zone whose lines are being taken has its reply
abbrev pub PlaysEnd : Option Gathering → Play → Octets → Play → Type 0
PlaysEnd None before text after = Keeps [] before text after
PlaysEnd (Some gathering) before text after =
    GathersOrLoses play_loader (at_end gathering) before text after

abbrev pub PlaysItem : Item → Play → Octets → Play → Type 0
PlaysItem (line octets) before text after = PlaysLine before.gathering octets before text after
PlaysItem end_of_input before text after = PlaysEnd before.gathering before text after

-- ---- a script

-- a world of an empty book and idle workers, and no zone whose lines are taken
abbrev pub new_play : Settings → ℕ → Play
new_play settings workers =
    record {
      world = record {
        book = new_book settings.abilities settings.held (limits_of settings);
        workers = replicate workers None;
      };
      gathering = None;
    }

-- the first line makes the world, and has no reply; where it is another line, or an allocation fails,
-- it is refused, and the script ends
abbrev pub Begins : Settings → Option ℕ → Octets → Script → Type 0
Begins settings None text after = (text ≡ refusal_line (codes "K1")) × (after ≡ Ended)
Begins settings (Some workers) text after =
    ((text ≡ []) × (after ≡ Playing (new_play settings workers)))
    ⊎ ((text ≡ refusal_line (codes "Memory")) × (after ≡ Ended))

-- what an item does before there is a world
abbrev pub BeginsWith : Settings → Item → Octets → Script → Type 0
BeginsWith settings (line octets) text after = Begins settings (workers_in octets) text after
BeginsWith settings end_of_input text after = Keeps [] (Waiting settings) text after

-- which reply an item may have, and which state it may leave
abbrev pub MayReply : Script → Item → Octets → Script → Type 0
MayReply (Waiting settings) item text after = BeginsWith settings item text after
MayReply (Playing before) item text after =
    (play : Play) × PlaysItem item before text play × (after ≡ Playing play)
MayReply Ended item text after = Keeps [] Ended text after

-- whether a script has ended
abbrev pub has_ended : Script → Bool
has_ended (Waiting settings) = false
has_ended (Playing play) = false
has_ended Ended = true

-- the protocol of a script; a pause does nothing
abbrev pub script_protocol : Protocol
script_protocol =
    record {
      State = Script;
      MayReply = MayReply;
      MayPause = λ before after. after ≡ before;
      has_ended = has_ended;
    }

-- Playing a script went so, from one that has had no line to one that has ended or whose input has.
pub record PlaysScript {A B : Type 0} (settings : Settings) (limit : ℕ)
    (result : Result Ending ServeFault) (remaining : A → Option Octets) (contents : B → Option Octets)
    (reader reader' : Tapped A) (writer writer' : Tapped B) : Type 0 where
  pub script : Script
  pub serves : ServesWithin script_protocol limit result remaining contents
      (Waiting settings) script reader reader' writer writer'
