-- What the steps of a route result in.
use Rattle.std.proofs.Common.{◌≡◌, ℕ, List, [], ◌∷◌, ◌++◌, Some, append_assoc, sym, ap, ◌∙◌}
use Rattle.std.specs.List.{filter_map}
use Rattle.sipl_names.specs.Labels.{Labels}
use Rattle.sipl_records.specs.declared.address.Address.{Address}
use Rattle.sipl_records.specs.declared.kind.Kind.{Kind}
use Rattle.sipl_records.specs.declared.kind.Kind.TheVariants.{Service}
use Rattle.sipl_srv.specs.Offers.{offer_of}
use Rattle.sipl_srv.specs.declared.pick.Pick.{Pick}
use Rattle.sipl_evidence.specs.Looks.{Look, done, and_then, result_of}
use Rattle.sipl_evidence.specs.Answers.{answer, asking}
use Rattle.sipl_evidence.proofs.Public.{result_of-and_then}
use Rattle.sipl_choice.specs.Abilities.{Client}
use Rattle.sipl_choice.specs.FamilyKinds.{address_kinds}
use Rattle.sipl_choice.specs.declared.transport.Transport.{Transport}
use Rattle.sipl_plans.specs.declared.layout.Layout.TheVariants.{Servers}
use Rattle.sipl_plans.specs.declared.layout.Source.{Source}
use Rattle.sipl_plans.specs.Route.{address_of_data, addresses, asking_addresses, offer_at, source_of, sources, asking_sources, asking_served, asking_own, sole_pick, sole_server}

-- the addresses of one kind come before those of the others
pub addresses_cons : (look : Look) (kind : Kind) (kinds : List Kind) (name : Labels) → addresses look (kind ∷ kinds) name ≡ filter_map address_of_data (answer look name kind) ++ addresses look kinds name
addresses_cons look kind kinds name =
    result_of-and_then look (asking name kind) (λ set. and_then (asking_addresses kinds name) (λ others. done (filter_map address_of_data set ++ others)))
    ∙ result_of-and_then look (asking_addresses kinds name) (λ others. done (filter_map address_of_data (answer look name kind) ++ others))

-- the offer of a name is that of its SRV answer
pub offer_at_some : (look : Look) (name : Labels) → offer_at look (Some name) ≡ offer_of (answer look name Service)
offer_at_some look name = result_of-and_then look (asking name Service) (λ set. done (offer_of set))

-- the server of a pick comes before those of the others
pub sources_cons : (look : Look) (kinds : List Kind) (pick : Pick) (picks : List Pick) → sources look kinds (pick ∷ picks) ≡ source_of pick (addresses look kinds pick.target) ∷ sources look kinds picks
sources_cons look kinds pick picks =
    result_of-and_then look (asking_addresses kinds pick.target) (λ found. and_then (asking_sources kinds picks) (λ others. done (source_of pick found ∷ others)))
    ∙ result_of-and_then look (asking_sources kinds picks) (λ others. done (source_of pick (addresses look kinds pick.target) ∷ others))

-- the addresses that are found, after those of one kind more
pub addresses_next : (look : Look) (here rest : List Kind) (kind : Kind) (name : Labels) (found all : List Address) → here ≡ kind ∷ rest → found ++ addresses look here name ≡ all → (found ++ filter_map address_of_data (answer look name kind)) ++ addresses look rest name ≡ all
addresses_next look here rest kind name found all is so =
    append_assoc found (filter_map address_of_data (answer look name kind)) (addresses look rest name)
    ∙ ap (λ others. found ++ others) (sym (addresses_cons look kind rest name) ∙ ap (λ kinds. addresses look kinds name) (sym is))
    ∙ so

-- the servers of picks are served
pub served_is : (look : Look) (client : Client) (transport : Transport) (picks : List Pick) → result_of look (asking_served client transport picks) ≡ Servers transport (sources look (address_kinds client.families) picks)
served_is look client transport picks =
    result_of-and_then look (asking_sources (address_kinds client.families) picks) (λ servers. done (Servers transport servers))

-- a domain's own addresses are the only server
pub own_is : (look : Look) (client : Client) (transport : Transport) (port : ℕ) (name : Labels) → result_of look (asking_own client transport port name) ≡ sole_server transport port (addresses look (address_kinds client.families) name)
own_is look client transport port name =
    let kinds = address_kinds client.families in
    served_is look client transport (sole_pick port name ∷ [])
    ∙ ap (λ servers. Servers transport servers) (sources_cons look kinds (sole_pick port name) [])

-- the servers of the picks before, after that of one pick more
pub sources_next : (look : Look) (kinds : List Kind) (here rest : List Pick) (pick : Pick) (before all : List Source) → here ≡ pick ∷ rest → before ++ sources look kinds here ≡ all → (before ++ source_of pick (addresses look kinds pick.target) ∷ []) ++ sources look kinds rest ≡ all
sources_next look kinds here rest pick before all is so =
    append_assoc before (source_of pick (addresses look kinds pick.target) ∷ []) (sources look kinds rest)
    ∙ ap (λ others. before ++ others) (sym (sources_cons look kinds pick rest) ∙ ap (λ picks. sources look kinds picks) (sym is))
    ∙ so
