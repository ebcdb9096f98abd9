-- A layout of few servers has few targets.
use Rattle.std.proofs.Common.{◌≡◌, ℕ, suc, ◌*◌, ◌≤◌, Bool, not, List, [], ◌∷◌, length, length-append, slice_get, map, Option, None, Some, refl, sym, ap, subst, ◌∙◌, arith}
use Rattle.std.specs.List.{All, cons_option, filter_map, flat_map, range_with_len, sum_by}
use Rattle.std.proofs.lemmas.List.{length-map}
use Rattle.std.proofs.lemmas.List.FromFn.{length-range_with_len}
use Rattle.std.proofs.lemmas.List.Sorted.{length_permutation, sum_by-IsPermutation}
use Rattle.std.proofs.lemmas.Option.{slice_get_within, get_or_from_slice_get}
use Rattle.std.proofs.lemmas.List.Sums.{length-filter, count_by-le-length}
use Rattle.sipl_records.specs.Unique.{unique}
use Rattle.sipl_choice.specs.Endpoints.{same_endpoint}
use Rattle.sipl_choice.specs.declared.endpoint.Endpoint.{Endpoint}
use Rattle.sipl_choice.specs.declared.transport.Transport.{Transport}
use Rattle.sipl_srv.specs.Order.{Rank, ordered}
use Rattle.sipl_srv.proofs.Public.{ordered-IsPermutation}
use Rattle.sipl_outages.specs.Holds.{Holds, is_held}
use Rattle.sipl_plans.specs.Plan.{arranged, endpoints_of, source_rank, without_held, with_held_last}
use Rattle.sipl_plans.specs.Servers.{AreFew, HasFewServers}
use Rattle.sipl_plans.specs.declared.layout.Layout.{Layout}
use Rattle.sipl_plans.specs.declared.layout.Layout.TheVariants.{Servers}
use Rattle.sipl_plans.specs.declared.layout.Source.{Source}
use Rattle.sipl_plans.proofs.FreeTargets.{length-last}

length-unique : {A : Type 0} (same : A → A → Bool) (xs : List A) → length (unique same xs) ≤ length xs
length-unique same [] = omega arith
length-unique same (x ∷ xs) =
    let others = unique same xs in
    omega (arith, length-unique same xs, length-filter (λ y. not (same x y)) others, count_by-le-length (λ y. not (same x y)) others)

-- an order has a place for each rank
length-ordered : (ranks : List Rank) (words : List ℕ) → length (ordered ranks words) ≡ length ranks
length-ordered ranks words =
    length_permutation (range_with_len 0 (length ranks)) (ordered ranks words) (ordered-IsPermutation ranks words) ∙ length-range_with_len 0 (length ranks)

module _ (transport : Transport) (servers : List Source) (few : All (λ server. length server.addresses ≤ 64) servers) where
  -- the servers at some places have at most 64 endpoints each
  length-endpoints : (places : List ℕ) → length (flat_map (endpoints_of transport) (filter_map (slice_get servers) places)) ≤ length places * 64
  length-endpoints [] = omega arith
  length-endpoints (place ∷ places) = by (slice_get servers place) own (length-endpoints places)
    where
      own : (server : Source) → slice_get servers place ≡ Some server → length server.addresses ≤ 64
      own server is =
          subst (λ s. length s.addresses ≤ 64) (get_or_from_slice_get servers place server server is) (few place server (slice_get_within servers place server is))

      by : (o : Option Source) → ((server : Source) → o ≡ Some server → length server.addresses ≤ 64) → length (flat_map (endpoints_of transport) (filter_map (slice_get servers) places)) ≤ length places * 64
          → length (flat_map (endpoints_of transport) (cons_option o (filter_map (slice_get servers) places))) ≤ suc (length places) * 64
      by None own rest = omega arith
      by (Some server) own rest =
          let more = flat_map (endpoints_of transport) (filter_map (slice_get servers) places) in
          omega (arith, own server refl, length-append (endpoints_of transport server) more, length-map server.addresses (λ address. let endpoint : Endpoint = record { transport = transport; address = address; port = server.port } in endpoint))

-- of few servers the endpoints, each once, are few
pub endpoints-few : (layout : Layout) (transport : Transport) (servers slice : List Source) (words : List ℕ) (endpoints : List Endpoint) → HasFewServers layout → layout ≡ Servers transport servers → slice ≡ servers
    → endpoints ≡ unique same_endpoint (flat_map (endpoints_of transport) (arranged slice words)) → length endpoints ≤ 2048
endpoints-few layout transport servers slice words endpoints few at own is =
    let some : AreFew slice = subst AreFew (sym own) (subst HasFewServers at few) in
    let places : List ℕ = ordered (map source_rank slice) words in
    let each : List Endpoint = flat_map (endpoints_of transport) (filter_map (slice_get slice) places) in
    omega (arith, some.servers, ap length is, length-unique same_endpoint each, length-endpoints transport slice some.addresses places, length-ordered (map source_rank slice) words, length-map slice source_rank)

-- the endpoints that are not held are at most as many
pub without-few : (holds : Holds) (endpoints left targets : List Endpoint) → left ≡ without_held holds endpoints → targets ≡ left → length targets ≤ length endpoints
without-few holds endpoints left targets kept same =
    omega (arith, ap length same, ap length kept, length-filter (λ e. not (is_held holds e)) endpoints, count_by-le-length (λ e. not (is_held holds e)) endpoints)

-- and with those that are last as many
pub last-few : (holds : Holds) (endpoints left targets : List Endpoint) → left ≡ with_held_last holds endpoints → targets ≡ left → length targets ≤ length endpoints
last-few holds endpoints left targets kept same =
    omega (arith, ap length same, ap length kept, length-last holds endpoints)

-- the only place
only-place : (places : List ℕ) → length places ≡ 1 → sum_by (λ place. place) places ≡ 0 → places ≡ 0 ∷ []
only-place [] one sum = absurd (omega (arith, one))
only-place (place ∷ []) one sum =
    let first : place ≡ 0 = omega (arith, sum) in
    ap (λ (p : ℕ). p ∷ []) first
only-place (place ∷ other ∷ others) one sum = absurd (omega (arith, one))

-- a single server has no order
pub ordered-one : (ranks : List Rank) (words : List ℕ) → length ranks ≡ 1 → ordered ranks words ≡ 0 ∷ []
ordered-one ranks words one =
    only-place (ordered ranks words) (length-ordered ranks words ∙ one)
    (sum_by-IsPermutation (λ (place : ℕ). place) (range_with_len 0 (length ranks)) (ordered ranks words) (ordered-IsPermutation ranks words)
    ∙ ap (λ (n : ℕ). sum_by (λ (place : ℕ). place) (range_with_len 0 n)) one)
