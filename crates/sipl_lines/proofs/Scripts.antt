-- What a script does: its first line makes a world, and the step of each other line is made, or the
-- line refused.
use Rattle.std.proofs.Common.{◌≡◌, ◌⊎◌, ◌++◌, ◌∷◌, ◌∙◌, ℕ, [], replicate, refl, sym, ap, subst, inl, inr, append_assoc}
use Rattle.std.specs.Prelude.{Result, Ok, Err, None, Some, OnOk, codes}
use Rattle.sipl_names.specs.Labels.{Octets}
use Rattle.sipl_book.specs.Book.{new_book}
use Rattle.sipl_book.specs.declared.limits.Limits.{Limits}
use Rattle.sipl_interleave.specs.Steps.{IsStep}
use Rattle.sipl_interleave.specs.World.{WorldState}
use Rattle.sipl_interleave.specs.declared.reply.Reply.{Reply}
use Rattle.sipl_interleave.specs.declared.step.Step.{Step}
use Rattle.sipl_lines.specs.Items.{Item}
use Rattle.sipl_lines.specs.Replies.{AppendsReply}
use Rattle.sipl_names.specs.NamePrint.{text_of}
use Rattle.sipl_records.specs.Kinds.{text_of_kind}
use Rattle.sipl_records.specs.declared.record.Key.{Key}
use Rattle.sipl_evidence.specs.Items.{Item as ItemState}
use Rattle.sipl_lines.specs.ReplyText.{refusal_line, word_field}
use Rattle.sipl_lines.specs.Script.{Begins, Makes, MakesOrRefuses, MakesStepOf, PlaysItem, script_protocol}
use Rattle.sipl_lines.specs.ScriptLines.{ScriptRequest}
use Rattle.sipl_lines.specs.ScriptSteps.{MayFail, step_of}
use Rattle.sipl_lines.specs.ScriptText.{Shows, shown_of, stale_text}
use Rattle.sipl_lines.specs.Session.{AppendsText}
use Rattle.sipl_lines.specs.Settings.{limits_of}
use Rattle.sipl_lines.specs.declared.play.Play.{Play}
use Rattle.sipl_lines.specs.declared.script.Script.{Script}
use Rattle.sipl_lines.specs.declared.script.Script.TheVariants.{Playing}
use Rattle.sipl_lines.specs.declared.script_reply.Shown.{Shown}
use Rattle.sipl_lines.specs.declared.settings.Settings.{Settings}

module _ (request : ScriptRequest) (before : Play) (old new : Octets) where
  -- the step is made
  pub line_made : (step : Step) (world : WorldState) → step_of request ≡ Ok step
      → AppendsText (Makes step) before.world old world new
      → AppendsText (MakesStepOf request) before old (record before { world = world }) new
  line_made step world is made = (
    made.0,
    inl (subst (λ s. MakesOrRefuses s before.world made.0 world) (sym is) made.1, refl),
    made.2,
  )

  -- the line is refused
  pub line_refused : (code : Octets) → (step_of request ≡ Err code) ⊎ (MayFail request × (code ≡ codes "Memory"))
      → new ≡ old ++ refusal_line code → AppendsText (MakesStepOf request) before old before new
  line_refused code (inl is) reply = (
    refusal_line code,
    inl (subst (λ s. MakesOrRefuses s before.world (refusal_line code) before.world) (sym is) (refl, refl), refl),
    reply,
  )
  line_refused code (inr none) reply = (refusal_line code, inr (none.0, (ap refusal_line none.1, refl)), reply)

-- a step is made, and its reply written
pub step_made : (step : Step) (shown : Shown) (reply : Reply) (before after : WorldState) (old new : Octets)
    → shown ≡ shown_of step → IsStep step before after reply
    → AppendsText (λ (b : Octets) (text : Octets) (a : Octets). Shows shown reply text) old old new new
    → AppendsText (Makes step) before old after new
step_made step shown reply before after old new is made shows =
    (shows.0, (reply, made, subst (λ s. Shows s reply shows.0) is shows.1), shows.2)

-- the first line has made the world
pub begun : (settings : Settings) (workers : ℕ) (limits : Limits) (world : WorldState) (play : Play)
    → limits ≡ limits_of settings
    → world ≡ record { book = new_book settings.abilities settings.held limits; workers = replicate workers None }
    → play ≡ record { world = world; gathering = None }
    → Begins settings (Some workers) [] (Playing play)
begun settings workers limits world play is_limits is_world is_play = inl (refl, cc)

-- what a script does at play
pub at_play : {T E : Type 0} (result : Result T E) (item : Item) (script : Script) (before after : Play) (old new : Octets)
    → script ≡ Playing before → OnOk result (AppendsText (PlaysItem item) before old after new)
    → OnOk result (AppendsReply script_protocol script item old (Playing after) new)
at_play (Ok x) item script before after old new is plays =
    subst (λ s. AppendsReply script_protocol s item old (Playing after) new) (sym is) (plays.0, (after, plays.1, refl), plays.2)
at_play (Err e) item script before after old new is plays = tt

-- a set has changed, and which one is written
pub stale_written : (item : ItemState) (key : Key) (old word named new : Octets) → word ≡ old ++ codes "err B2" → key ≡ item.key
    → named ≡ word ++ (word_field (text_of key.name) ++ word_field (text_of_kind key.kind)) → new ≡ named ++ 10 ∷ []
    → new ≡ old ++ stale_text (Some item)
stale_written item key old word named new first is second third =
    let fields : Octets = word_field (text_of key.name) ++ word_field (text_of_kind key.kind) in
    third ∙ ap (λ (text : Octets). text ++ 10 ∷ []) (second ∙ ap (λ (text : Octets). text ++ fields) first)
    ∙ joined ∙ ap (λ (k : Key). old ++ stale_text (Some (record item { key = k }))) is
  where
    joined : ((old ++ codes "err B2") ++ (word_field (text_of key.name) ++ word_field (text_of_kind key.kind))) ++ 10 ∷ []
        ≡ old ++ stale_text (Some (record item { key = key }))
    joined = simp append_assoc
