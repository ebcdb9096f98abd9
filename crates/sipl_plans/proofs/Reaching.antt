-- How far a run is, with one set more.
use Rattle.std.proofs.Common.{◌≡◌, ℕ, List, [], ◌∷◌, ◌++◌, None, Some, ap, sym, subst, ◌∙◌}
use Rattle.std.proofs.lemmas.List.Elements.{All-push}
use Rattle.sipl_names.specs.Labels.{Labels}
use Rattle.sipl_records.specs.declared.data.Data.{Data}
use Rattle.sipl_records.specs.declared.record.Key.{Key}
use Rattle.sipl_choice.specs.Abilities.{Client}
use Rattle.sipl_evidence.specs.Items.{Item}
use Rattle.sipl_evidence.specs.Known.{advance, first_unknown}
use Rattle.sipl_evidence.specs.Looks.{Asking, done, next_key}
use Rattle.sipl_evidence.proofs.Public.{advance-advance, first_unknown-advance, trace-push, first_unknown-next_key}
use Rattle.sipl_uri.specs.declared.question.Question.{Question}
use Rattle.sipl_uri.specs.declared.question.Target.TheVariants.{Numeric, Domain}
use Rattle.sipl_plans.specs.Route.{asking_numeric, asking_route}
use Rattle.sipl_plans.specs.Runs.{RunState, IsRun, IsSet, IsWanted}
use Rattle.sipl_plans.specs.Stages.{domain_rest, rest, HasReached}
use Rattle.sipl_plans.specs.declared.layout.Layout.{Layout}
use Rattle.sipl_plans.specs.declared.stage.Progress.{Progress}
use Rattle.sipl_plans.specs.declared.stage.Progress.TheVariants.{Done, Wanting}
use Rattle.sipl_plans.specs.declared.stage.Stage.{Stage}
use Rattle.sipl_plans.specs.declared.stage.Stage.TheVariants.{Reading}
use Rattle.sipl_plans.specs.declared.stage.Step.{Step}
use Rattle.sipl_plans.specs.declared.stage.Step.TheVariants.{Done as step_done, Reading as step_reading}

-- what callers see of a run with these sets
abbrev pub run_of : Question → Client → List Item → RunState
run_of question client items = record { question = question; client = client; items = items }

-- how far the sets lead in the route
abbrev pub IsAt : Question → Client → List Item → Progress → Type 0
IsAt question client items progress = HasReached question client items (asking_route question client) progress

-- a computation that is done asks for nothing
pub none-unknown : {A : Type 0} (items : List Item) (asking : Asking A) (value : A) → advance items asking ≡ done value → first_unknown items asking ≡ None
none-unknown items asking value is = first_unknown-next_key items asking ∙ ap next_key is

module _ (question : Question) (client : Client) (items : List Item) where
  -- where a layout was reached, nothing is wanted
  pub none-wanted : (progress : Progress) (layout : Layout) → IsAt question client items progress → progress ≡ Done layout → first_unknown items (asking_route question client) ≡ None
  none-wanted progress layout reached is =
      none-unknown items (asking_route question client) layout (subst (IsAt question client items) is reached)

  pub never-wanted : (progress : Progress) (layout : Layout) (number : ℕ) (content : List Data) → IsAt question client items progress → progress ≡ Done layout → IsWanted (first_unknown items (asking_route question client)) number content → ⊥
  never-wanted progress layout number content reached is set =
      subst (λ k. IsWanted k number content) (none-wanted progress layout reached is) set

  -- where a key is wanted, it is the first unknown one, and the route goes on from the stage
  pub key-wanted : (progress : Progress) (k : Key) (stage : Stage) → IsAt question client items progress → progress ≡ Wanting k stage → IsAt question client items (Wanting k stage)
  key-wanted progress k stage reached is = subst (IsAt question client items) is reached

  pub set-wanted : (progress : Progress) (k : Key) (stage : Stage) (number : ℕ) (content : List Data) → IsAt question client items progress → progress ≡ Wanting k stage → IsWanted (first_unknown items (asking_route question client)) number content → IsSet k number content
  set-wanted progress k stage number content reached is set =
      subst (λ k. IsWanted k number content) (key-wanted progress k stage reached is).0 set

module _ (question : Question) (client : Client) (items more : List Item) (one other : Asking Layout) (same : advance items one ≡ advance items other) where
  advance-both : advance (items ++ more) one ≡ advance (items ++ more) other
  advance-both =
      sym (advance-advance items more one) ∙ ap (advance (items ++ more)) same ∙ advance-advance items more other

  first_unknown-both : first_unknown (items ++ more) one ≡ first_unknown (items ++ more) other
  first_unknown-both =
      sym (first_unknown-advance items more one) ∙ ap (first_unknown (items ++ more)) same ∙ first_unknown-advance items more other

  -- what is reached from where a run was is reached from the start
  pub reached-both : (progress : Progress) → HasReached question client (items ++ more) one progress → HasReached question client (items ++ more) other progress
  reached-both (Done layout) is = sym advance-both ∙ is
  reached-both (Wanting k stage) is = (sym first_unknown-both ∙ is.0, is.1 ∙ advance-both)

-- a run with the set of the key that it wanted is a run
pub run-given : (question : Question) (client : Client) (items : List Item) (item : Item) → IsRun (run_of question client items) → first_unknown items (asking_route question client) ≡ Some item.key → IsSet item.key item.number item.content → IsRun (run_of question client (items ++ item ∷ []))
run-given question client items item run next set = record {
  trace = trace-push (asking_route question client) items item run.trace next;
  sets = All-push (λ item. IsSet item.key item.number item.content) items item run.sets set;
  client = run.client;
}

-- a run that takes the set of the key that it wanted, and goes on from its stage
pub given : (question : Question) (client : Client) (items new : List Item) (k : Key) (number : ℕ) (content : List Data) (stage : Stage) (progress : Progress)
    → IsRun (run_of question client items)
    → IsAt question client items (Wanting k stage)
    → IsSet k number content
    → new ≡ items ++ record { key = k; number = number; content = content } ∷ []
    → HasReached question client new (rest question client stage) progress
    → IsRun (run_of question client new) × IsAt question client new progress
given question client items new k number content stage progress run reached set pushed later =
    let item : Item = record { key = k; number = number; content = content } in
    let is = run-given question client items item run reached.0 set in
    let on = subst (λ items. HasReached question client items (rest question client stage) progress) pushed later in
    let whole = reached-both question client items (item ∷ []) (rest question client stage) (asking_route question client) reached.1 progress on in
    subst (λ items. IsRun (run_of question client items) × IsAt question client items progress) (sym pushed) (is, whole)

-- what is left of the route of a question for a domain is that of the route to the domain
pub rest-domain : (question : Question) (client : Client) (name : Labels) → question.target ≡ Domain name → rest question client ≡ domain_rest name question client
rest-domain question client name is = λ i stage. elim (is i) as (λ _. Asking Layout) [
  | Numeric address ↦ asking_numeric client question address
  | Domain name ↦ domain_rest name question client stage
]

-- what is left of the route to a domain after a step is that at the stage that the step gets to
abbrev pub step_rest : Labels → Question → Client → Step → Asking Layout
step_rest name question client (step_done layout) = done layout
step_rest name question client (step_reading walk purpose) = domain_rest name question client (Reading walk purpose)
