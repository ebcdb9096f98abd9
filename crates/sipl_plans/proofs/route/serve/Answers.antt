use Rattle.std.proofs.Common.{◌≡◌, [], ◌∷◌, ◌++◌, ◌+◌, drop, sym, ap, append-nil, ◌∙◌}
use Rattle.std.proofs.lemmas.List.{drop_more, drop_all}
use Rattle.sipl_records.specs.Sets.{set_of}
use Rattle.sipl_choice.specs.FamilyKinds.{address_kinds}
use Rattle.sipl_plans.specs.declared.layout.Layout.TheVariants.{Servers}
use Rattle.sipl_plans.specs.Route.{addresses, source_of, sources}
use Rattle.sipl_plans.proofs.Equations.{served_is, sources_next}
use Rattle.sipl_plans.proofs.route.serve.Goals as goal

pub loop-pick-preserved : goal.loop-pick-preserved
loop-pick-preserved c =
    let look = set_of c.args.records.now in
    let kinds = address_kinds c.args.abilities.now.families in
    let picks = c.args.picks.now in
    let i = c.loop-pick.pick-index in
    let pick = c.pick-item.result in
    let here : drop i picks ≡ pick ∷ drop (i + 1) picks =
    drop_more picks i pick c.loop-pick-test.true ∙ ap (λ p. p ∷ drop (i + 1) picks) (sym c.pick-item.is) in
    let found : c.push.new.self.items ≡ c.loop-pick.servers.items ++ source_of pick (addresses look kinds pick.target) ∷ [] =
    c.in_ok-push.ensures.items
    ∙ ap (λ own. c.loop-pick.servers.items ++ source_of pick own ∷ [])
    (c.from_vec.ensures ∙ c.in_ok-found.ensures ∙ ap (λ families. addresses look (address_kinds families) pick.target) c.families.ensures) in
    ap (λ servers. servers ++ sources look kinds (drop (i + 1) picks)) found
    ∙ sources_next look kinds (drop i picks) (drop (i + 1) picks) pick c.loop-pick.servers.items _ here c.loop-pick.invariant

pub returns : goal.returns
returns c =
    let look = set_of c.args.records.now in
    let kinds = address_kinds c.args.abilities.now.families in
    let picks = c.args.picks.now in
    let past : drop c.loop-pick.pick-index picks ≡ [] = drop_all c.loop-pick.pick-index picks c.loop-pick-test.false in
    let all : c.from_vec-2.result ≡ sources look kinds picks =
    c.from_vec-2.ensures ∙ sym (append-nil c.loop-pick.servers.items) ∙ ap (λ rest. c.loop-pick.servers.items ++ sources look kinds rest) (sym past) ∙ c.loop-pick.invariant in
    ap (λ servers. Servers c.args.transport servers) all ∙ sym (served_is look c.args.abilities.now c.args.transport picks)
