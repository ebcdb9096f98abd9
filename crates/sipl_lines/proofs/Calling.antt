-- What the commands of a call do: the pieces of the replies, and the session after them.
use Rattle.std.proofs.Common.{◌≡◌, ℕ, List, [], ◌∷◌, ◌++◌, take, refl, sym, ap, ◌∙◌, subst, append_assoc}
use Rattle.std.specs.Prelude.{Option, None, Some, Result, codes}
use Rattle.sipl_names.specs.Labels.{Octets}
use Rattle.sipl_choice.specs.declared.endpoint.Endpoint.{Endpoint}
use Rattle.sipl_outages.specs.Holds.BoardEvent.{Hold as HoldFor}
use Rattle.sipl_failover.specs.FailoverFault.{code_of as failover_code}
use Rattle.sipl_failover.specs.FailoverRun.{FailoverRun, Event, new_run}
use Rattle.sipl_failover.specs.Rules.{after as after_event, refusal_of}
use Rattle.sipl_failover.specs.declared.fault.FailoverFault.{FailoverFault}
use Rattle.sipl_failover.specs.declared.step.Step.{Step}
use Rattle.sipl_failover.specs.declared.step.Step.TheVariants.{Send}
use Rattle.sipl_tx.specs.declared.parts.Kind.{Kind}
use Rattle.sipl_lines.specs.Commands.{result_text}
use Rattle.sipl_lines.specs.Calls.{CallDesk, GoesOn, Hears, MakesHold, OpensOver, Reports, hold_in, steps_text, with_call}
use Rattle.sipl_lines.specs.Desk.{DeskRules}
use Rattle.sipl_lines.specs.ReplyText.{counts_line, refusal_line}
use Rattle.sipl_lines.specs.Session.{AppendsText, AtCall, at_desk}
use Rattle.sipl_lines.specs.declared.session.Session.{Session}

-- what is done with the call at a desk is done in a session there
pub at_call : {D : Type 0} (Acts : CallDesk D → Octets → CallDesk D → Type 0) (before after : D) (session : Session) (call : Option FailoverRun) (old new : Octets)
    → AppendsText Acts (with_call before session.call) old (with_call after call) new
    → AppendsText (AtCall Acts) (at_desk before session) old (at_desk after (record session { call = call })) new
at_call Acts before after session call old new done = (done.0, (done.1, refl), done.2)

module _ {D F : Type 0} (rules : DeskRules D F) (reply : Octets) where
  -- steps among which there is no hold
  pub reported : (run : FailoverRun) (steps : List Step) (desk : D) (old between new : Octets)
      → hold_in steps ≡ None → between ≡ old ++ steps_text run steps → new ≡ between ++ reply
      → AppendsText (Reports rules reply run steps) desk old desk new
  reported run steps desk old between new none written last =
      let text = steps_text run steps in (
        text ++ reply,
        (reply, subst (λ hold. MakesHold rules reply hold desk reply desk) (sym none) (refl, refl), refl),
        last ∙ ap (λ (l : Octets). l ++ reply) written ∙ append_assoc old text reply,
      )

  -- steps with a hold, and what the desk did
  pub reported_hold : (run : FailoverRun) (steps : List Step) (hold : Endpoint × ℕ) (outcome : Result ℕ F) (before after : D) (old between new : Octets)
      → hold_in steps ≡ Some hold → rules.Moves (HoldFor hold.0 hold.1) before outcome after
      → between ≡ old ++ steps_text run steps → new ≡ between ++ result_text rules (λ number. reply) outcome
      → AppendsText (Reports rules reply run steps) before old after new
  reported_hold run steps hold outcome before after old between new some moves written last =
      let text = steps_text run steps in
      let end = result_text rules (λ number. reply) outcome in (
        text ++ end,
        (end, subst (λ h. MakesHold rules reply h before end after) (sym some) (outcome, moves, refl), refl),
        last ∙ ap (λ (l : Octets). l ++ end) written ∙ append_assoc old text end,
      )

  -- an event that is not refused
  pub goes_on : (run run' : FailoverRun) (event : Event) (steps : List Step) (call : Option FailoverRun) (before after : D) (old new : Octets)
      → refusal_of run event ≡ None → run' ≡ (after_event run event).run → steps ≡ (after_event run event).steps
      → AppendsText (Reports rules reply run' steps) before old after new
      → AppendsText (GoesOn rules reply run event (refusal_of run event)) (with_call before call) old (with_call after (Some run')) new
  goes_on run run' event steps call before after old new accepted next is done =
      let outcome = after_event run event in
      let first : AppendsText (Reports rules reply outcome.run steps) before old after new =
      subst (λ (r : FailoverRun). AppendsText (Reports rules reply r steps) before old after new) next done in
      let state : AppendsText (Reports rules reply outcome.run outcome.steps) before old after new =
      subst (λ (s : List Step). AppendsText (Reports rules reply outcome.run s) before old after new) is first in
      subst (λ o. AppendsText (GoesOn rules reply run event o) (with_call before call) old (with_call after (Some run')) new) (sym accepted)
      (state.0, (state.1, ap (λ (r : FailoverRun). Some r) next), state.2)

  -- an event that is refused
  pub goes_not : (run run' : FailoverRun) (event : Event) (fault : FailoverFault) (desk : D) (old new : Octets)
      → refusal_of run event ≡ Some fault → run' ≡ run → new ≡ old ++ refusal_line (failover_code fault)
      → AppendsText (GoesOn rules reply run event (refusal_of run event)) (with_call desk (Some run)) old (with_call desk (Some run')) new
  goes_not run run' event fault desk old new is same reported =
      subst (λ o. AppendsText (GoesOn rules reply run event o) (with_call desk (Some run)) old (with_call desk (Some run')) new) (sym is)
      (refusal_line (failover_code fault), (refl, ap (λ (r : FailoverRun). with_call desk (Some r)) same), reported)

  -- an event that a call hears
  pub heard : (call : Option FailoverRun) (run : FailoverRun) (event : Event) (desk : D) (after : CallDesk D) (old new : Octets)
      → call ≡ Some run
      → AppendsText (GoesOn rules reply run event (refusal_of run event)) (with_call desk (Some run)) old after new
      → AppendsText (Hears rules reply event call) (with_call desk call) old after new
  heard call run event desk after old new is done =
      subst (λ (o : Option FailoverRun). AppendsText (Hears rules reply event o) (with_call desk o) old after new) (sym is) done

-- a call to these targets, of which there is one
pub opened : (kind : Kind) (base moment : ℕ) (targets kept : List Endpoint) (call : Option FailoverRun) (run : FailoverRun) (steps : List Step) (old between new : Octets)
    → kept ≡ take 2048 targets → run ≡ new_run kept kind base moment → steps ≡ Send 1 ∷ [] → (kept ≡ [] → ⊥)
    → between ≡ old ++ steps_text run steps → new ≡ between ++ counts_line (codes "ok call") []
    → AppendsText (OpensOver kind base moment targets) call old (Some run) new
opened kind base moment [] kept call run steps old between new is begins first some written last = absurd (some is)
opened kind base moment (target ∷ targets) kept call run steps old between new is begins first some written last =
    let begun : run ≡ new_run (take 2048 (target ∷ targets)) kind base moment = begins ∙ ap (λ (t : List Endpoint). new_run t kind base moment) is in
    let end = counts_line (codes "ok call") [] in
    let text : steps_text run steps ≡ steps_text (new_run (take 2048 (target ∷ targets)) kind base moment) (Send 1 ∷ []) = λ i. steps_text (begun i) (first i) in (
      steps_text run steps ++ end,
      (ap (λ (t : Octets). t ++ end) text, ap (λ (r : FailoverRun). Some r) begun),
      last ∙ ap (λ (l : Octets). l ++ end) written ∙ append_assoc old (steps_text run steps) end,
    )
