-- The endpoints of servers, one after another.
use Rattle.std.proofs.Common.{◌≡◌, ℕ, ◌+◌, ◌<◌, ◌≤◌, List, [], ◌∷◌, ◌++◌, length, slice_get, take, get_or, Some, refl, sym, ap, ◌∙◌, append_assoc, append-nil}
use Rattle.std.specs.List.{cons_option, filter_map, flat_map}
use Rattle.std.proofs.lemmas.List.{take_more, take_all, map-append}
use Rattle.std.proofs.lemmas.List.Elements.{filter_map-append}
use Rattle.std.proofs.lemmas.Option.{slice_get_read}
use Rattle.std.proofs.lemmas.Grind.{flat_map-append}
use Rattle.sipl_records.specs.declared.address.Address.{Address}
use Rattle.sipl_records.specs.declared.address.Address.TheVariants.{V4}
use Rattle.sipl_choice.specs.declared.endpoint.Endpoint.{Endpoint}
use Rattle.sipl_choice.specs.declared.transport.Transport.{Transport}
use Rattle.sipl_plans.specs.declared.layout.Source.{Source}
use Rattle.sipl_plans.specs.Plan.{endpoints_at, endpoints_of}

module _ (transport : Transport) (port : ℕ) (addresses : List Address) (i : ℕ) (before : List Endpoint) where
  -- the endpoint of the address at this place
  abbrev endpoint : Endpoint
  endpoint = record { transport = transport; address = get_or addresses i (V4 0); port = port }

  endpoints_at-more : i < length addresses → endpoints_at transport port (take (i + 1) addresses) ≡ endpoints_at transport port (take i addresses) ++ endpoint ∷ []
  endpoints_at-more inside =
      ap (endpoints_at transport port) (take_more addresses i (V4 0) inside) ∙ map-append (λ address. record { transport = transport; address = address; port = port }) (take i addresses) (get_or addresses i (V4 0) ∷ [])

  -- the next address of a server
  pub next_address : (old new : List Endpoint) → i < length addresses → old ≡ before ++ endpoints_at transport port (take i addresses) → new ≡ old ++ endpoint ∷ [] → new ≡ before ++ endpoints_at transport port (take (i + 1) addresses)
  next_address old new inside is pushed =
      pushed
      ∙ ap (λ (all : List Endpoint). all ++ endpoint ∷ []) is
      ∙ append_assoc before (endpoints_at transport port (take i addresses)) (endpoint ∷ [])
      ∙ ap (λ (more : List Endpoint). before ++ more) (sym (endpoints_at-more inside))

  -- before its first address
  pub first_address : (old : List Endpoint) → old ≡ before → old ≡ before ++ endpoints_at transport port (take 0 addresses)
  first_address old is = is ∙ sym (append-nil before)

-- the next server, after its last address
pub next_server : (transport : Transport) (servers : List Source) (order : List ℕ) (j : ℕ) (server : Source) (addresses : List Address) (i : ℕ) (endpoints : List Endpoint) → j < length order → get_or order j 0 < length servers → server ≡ get_or servers (get_or order j 0) server → addresses ≡ server.addresses → length addresses ≤ i
    → endpoints ≡ flat_map (endpoints_of transport) (filter_map (slice_get servers) (take j order)) ++ endpoints_at transport server.port (take i addresses)
    → endpoints ≡ flat_map (endpoints_of transport) (filter_map (slice_get servers) (take (j + 1) order))
next_server transport servers order j server addresses i endpoints inside known at own past is =
    let before : List Source = filter_map (slice_get servers) (take j order) in
    let whole : endpoints_at transport server.port (take i addresses) ≡ endpoints_of transport server = ap (endpoints_at transport server.port) (take_all i addresses past ∙ own) in
    let here : slice_get servers (get_or order j 0) ≡ Some server = slice_get_read servers (length servers) (get_or order j 0) server refl known at in
    let next : filter_map (slice_get servers) (take (j + 1) order) ≡ before ++ server ∷ [] =
    ap (filter_map (slice_get servers)) (take_more order j 0 inside)
    ∙ filter_map-append (slice_get servers) (take j order) (get_or order j 0 ∷ [])
    ∙ ap (λ o. before ++ cons_option o []) here in
    let more : flat_map (endpoints_of transport) (filter_map (slice_get servers) (take (j + 1) order)) ≡ flat_map (endpoints_of transport) before ++ endpoints_of transport server =
    ap (λ (ss : List Source). flat_map (endpoints_of transport) ss) next
    ∙ flat_map-append (endpoints_of transport) before (server ∷ [])
    ∙ ap (λ (all : List Endpoint). flat_map (endpoints_of transport) before ++ all) (append-nil (endpoints_of transport server)) in
    is ∙ ap (λ (all : List Endpoint). flat_map (endpoints_of transport) before ++ all) whole ∙ sym more
