-- What the sets that were read decide, and how many there are.
use Rattle.std.proofs.Common.{◌≡◌, ◌<◌, ◌≤◌, List, [], ◌∷◌, ◌++◌, length, map, Some, refl, ap, sym, subst, ◌∙◌, arith, length-append}
use Rattle.std.specs.List.{All}
use Rattle.std.proofs.lemmas.List.{length-map}
use Rattle.std.proofs.lemmas.List.Elements.{All-nil, All-weaker}
use Rattle.sipl_records.specs.Sets.{same_key}
use Rattle.sipl_records.specs.declared.record.Key.{Key}
use Rattle.sipl_choice.specs.Abilities.{Client}
use Rattle.sipl_evidence.specs.Items.{Item}
use Rattle.sipl_evidence.specs.Known.{advance, first_unknown}
use Rattle.sipl_evidence.specs.Looks.{done, asked, result_of}
use Rattle.sipl_evidence.proofs.Public.{result_of-advance, unique-whole_trace}
use Rattle.sipl_uri.specs.declared.question.Question.{Question}
use Rattle.sipl_plans.specs.Findings.{IsSound}
use Rattle.sipl_plans.specs.Route.{asking_route, reads}
use Rattle.sipl_plans.specs.Runs.{IsRun, IsSet}
use Rattle.sipl_plans.specs.Servers.{HasFewServers}
use Rattle.sipl_plans.specs.declared.layout.Layout.{Layout}
use Rattle.sipl_plans.proofs.FewReads.{asked-few}
use Rattle.sipl_plans.proofs.FewServers.{route-few}
use Rattle.sipl_plans.proofs.KnownLook.{distinct-trace, known_look, Agrees-known_look, length-known_look, length-unique, length-trace}
use Rattle.sipl_plans.proofs.Reaching.{run_of, none-unknown, run-given}

-- the sets of a key have at most 32 data
few-sets : (items : List Item) → All (λ item. IsSet item.key item.number item.content) items → (k : Key) → length (known_look items k) ≤ 32
few-sets items sets =
    length-known_look items 32 (All-weaker (λ item. IsSet item.key item.number item.content) (λ item. length item.content ≤ 32) (λ item set. set.few) items sets)

module _ (question : Question) (client : Client) (items : List Item) where
  -- a run that reached a layout found it
  pub sound-done : (layout : Layout) → IsRun (run_of question client items) → advance items (asking_route question client) ≡ done layout → IsSound (record { question = question; client = client; layout = layout; items = items })
  sound-done layout run reached = record {
    client = run.client;
    distinct = distinct-trace (asking_route question client) items run.trace;
    sets = run.sets;
    route = λ look agrees. sym (result_of-advance look items agrees (asking_route question client)) ∙ ap (result_of look) reached;
    reads = λ look agrees. unique-whole_trace look (asking_route question client) items agrees run.trace (none-unknown items (asking_route question client) layout reached);
  }

  -- a run reads at most 80,648 sets
  pub few-read : IsRun (run_of question client items) → length items ≤ 80648
  few-read run =
      let agrees = Agrees-known_look items (distinct-trace (asking_route question client) items run.trace) in
      omega (arith, length-trace (asking_route question client) items (known_look items) agrees run.trace, asked-few (known_look items) question client (few-sets items run.sets) run.client)

-- and fewer where it still wants one
pub few-wanting : (question : Question) (client : Client) (items : List Item) (k : Key) → IsRun (run_of question client items) → first_unknown items (asking_route question client) ≡ Some k → length items < 80648
few-wanting question client items k run next =
    let item : Item = record { key = k; number = 0; content = [] } in
    let set : IsSet k 0 [] = record { kind = All-nil _; few = omega arith; number = (λ _. refl, λ _. refl) } in
    omega (arith, few-read question client (items ++ item ∷ []) (run-given question client items item run next set), length-append items (item ∷ []))

module _ (question : Question) (client : Client) (layout : Layout) (items : List Item) (sound : IsSound (record { question = question; client = client; layout = layout; items = items })) where
  -- a finding has few servers
  pub few-found : HasFewServers layout
  few-found =
      subst HasFewServers (sound.route (known_look items) (Agrees-known_look items sound.distinct)) (route-few (known_look items) question client (few-sets items sound.sets))

  -- and rests on at most 80,648 sets
  pub few-items : length items ≤ 80648
  few-items =
      let look = known_look items in
      let keys : length (reads look question client) ≡ length (map (λ item. item.key) items) = ap length (sound.reads look (Agrees-known_look items sound.distinct)) in
      omega (arith, keys, length-map items (λ item. item.key), length-unique same_key (asked look (asking_route question client)), asked-few look question client (few-sets items sound.sets) sound.client)
