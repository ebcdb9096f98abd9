use Rattle.std.proofs.Common.{◌≡◌, [], ◌∷◌, ◌++◌, ◌+◌, drop, sym, ap, append-nil, ◌∙◌}
use Rattle.std.proofs.lemmas.List.{drop_more, drop_all}
use Rattle.sipl_choice.specs.FamilyKinds.{address_kinds}
use Rattle.sipl_plans.specs.Readings.{outcome}
use Rattle.sipl_plans.specs.Route.{asking_sources, source_of}
use Rattle.sipl_plans.proofs.Outcomes.{outcome_with}
use Rattle.sipl_plans.proofs.RoutesRead.{after_servers, served-read, sources_next-read}
use Rattle.sipl_plans.proofs.direct.serve.Goals as goal

pub loop-pick-preserved : goal.loop-pick-preserved
loop-pick-preserved g c =
    let source = g.S.Sets.source in
    let kinds = address_kinds c.args.abilities.now.families in
    let picks = c.args.picks.now in
    let i = c.loop-pick.pick-index in
    let pick = c.pick-item.result in
    let here : drop i picks ≡ pick ∷ drop (i + 1) picks =
    drop_more picks i pick c.loop-pick-test.true ∙ ap (λ p. p ∷ drop (i + 1) picks) (sym c.pick-item.is) in
    let found : c.push.new.self.items ≡ c.loop-pick.servers.items ++ source_of pick c.in_ok-found.found.items ∷ [] =
    c.in_ok-push.ensures.items ∙ ap (λ own. c.loop-pick.servers.items ++ source_of pick own ∷ []) c.from_vec.ensures in
    record {
      leads = ap (λ servers. after_servers servers (outcome source (asking_sources kinds (drop (i + 1) picks)) c.addresses.new.evidence c.addresses.new.sets)) found
          ∙ sources_next-read source kinds (drop i picks) (drop (i + 1) picks) pick c.loop-pick.servers.items c.loop-pick.evidence c.addresses.new.evidence c.loop-pick.sets c.addresses.new.sets c.in_ok-found.found.items _
          here c.in_ok-found.ensures.addresses c.loop-pick.invariant.leads;
      looked = λ start looked. c.addresses.ensures.looked start (c.loop-pick.invariant.looked start looked);
    }

pub returns-clause-route : goal.returns-clause-route
returns-clause-route g c =
    let source = g.S.Sets.source in
    let client = c.args.abilities.now in
    let kinds = address_kinds client.families in
    let picks = c.args.picks.now in
    let past : drop c.loop-pick.pick-index picks ≡ [] = drop_all c.loop-pick.pick-index picks c.loop-pick-test.false in
    let before = c.loop-pick.servers.items in
    let all : c.from_vec-2.result ≡ before ++ [] = c.from_vec-2.ensures ∙ sym (append-nil before) in
    served-read source client c.args.transport picks c.args.evidence.now c.loop-pick.evidence c.args.sets.now c.loop-pick.sets c.from_vec-2.result
    (sym c.loop-pick.invariant.leads
    ∙ ap (λ rest. after_servers before (outcome source (asking_sources kinds rest) c.loop-pick.evidence c.loop-pick.sets)) past
    ∙ ap (outcome_with c.loop-pick.evidence c.loop-pick.sets) (sym all))
