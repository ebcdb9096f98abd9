-- The targets of a question, in the order in which they are tried (RFC 3263, 4.2 and 4.3).
use Rattle.std.specs.Prelude.{ℕ, not, List, [], ◌∷◌, ◌++◌, map, filter, slice_get}
use Rattle.std.specs.List.{filter_map, flat_map}
use Rattle.sipl_records.specs.declared.address.Address.{Address}
use Rattle.sipl_records.specs.Unique.{unique}
use Rattle.sipl_choice.specs.Abilities.{Client}
use Rattle.sipl_choice.specs.Endpoints.{same_endpoint}
use Rattle.sipl_choice.specs.declared.endpoint.Endpoint.{Endpoint}
use Rattle.sipl_choice.specs.declared.transport.Transport.{Transport}
use Rattle.sipl_srv.specs.Order.{Rank, ordered}
use Rattle.sipl_outages.specs.Holds.{Holds, is_held}
use Rattle.sipl_outages.specs.declared.held.Held.{Held}
use Rattle.sipl_outages.specs.declared.held.Held.TheVariants.{Out, Last}
use Rattle.sipl_uri.specs.declared.question.Question.{Question}
use Rattle.sipl_evidence.specs.Looks.{Look}
use Rattle.sipl_plans.specs.Route.{route}
use Rattle.sipl_plans.specs.declared.layout.Layout.{Layout}
use Rattle.sipl_plans.specs.declared.layout.Layout.TheVariants.{Refused, Servers}
use Rattle.sipl_plans.specs.declared.layout.Source.{Source}
use Rattle.sipl_plans.specs.declared.answer.Answer.{Answer}
use Rattle.sipl_plans.specs.declared.answer.Answer.TheVariants.{Targets, None}
use Rattle.sipl_plans.specs.declared.answer.Reason.TheVariants.{NoAddress, AllHeld}

-- the endpoints of addresses over one transport at one port
abbrev pub endpoints_at : Transport → ℕ → List Address → List Endpoint
endpoints_at transport port addresses =
    map (λ address. record { transport = transport; address = address; port = port }) addresses

-- a server's endpoints, in the order of its addresses
abbrev pub endpoints_of : Transport → Source → List Endpoint
endpoints_of transport source = endpoints_at transport source.port source.addresses

-- the endpoints that are not held, in their order
abbrev pub without_held : Holds → List Endpoint → List Endpoint
without_held holds endpoints = filter (λ e. not (is_held holds e)) endpoints

-- the endpoints that are not held, and then those that are, both in their order
abbrev pub with_held_last : Holds → List Endpoint → List Endpoint
with_held_last holds endpoints =
    without_held holds endpoints ++ filter (λ e. is_held holds e) endpoints

-- the targets that are left once the held ones are left out, or that all are held
abbrev pub targets_or_all_held : List Endpoint → Answer
targets_or_all_held [] = None AllHeld
targets_or_all_held (endpoint ∷ others) = Targets (endpoint ∷ others)

-- RFC 3263, 4.3: the endpoints without the held ones, or with these last; the reason for none is
-- that there is no address, or, where the held ones are left out, that all are held
abbrev pub targets_among : Holds → List Endpoint → Held → Answer
targets_among holds [] held = None NoAddress
targets_among holds (endpoint ∷ others) Out =
    targets_or_all_held (without_held holds (endpoint ∷ others))
targets_among holds (endpoint ∷ others) Last = Targets (with_held_last holds (endpoint ∷ others))

-- RFC 2782: the rank of a server
abbrev pub source_rank : Source → Rank
source_rank source = record { priority = source.priority; weight = source.weight }

-- RFC 2782: the servers in the order that the words give, one word for each, with addresses or not
abbrev pub arranged : List Source → List ℕ → List Source
arranged servers words =
    filter_map (slice_get servers) (ordered (map source_rank servers) words)

-- RFC 3263, 4.2 and 4.3: the endpoints of the servers in their order, each once, without the held
-- ones or with these last, or the reason for none
abbrev pub draw : Layout → Holds → List ℕ → Held → Answer
draw (Refused reason) holds words held = None reason
draw (Servers transport servers) holds words held =
    targets_among holds
    (unique same_endpoint (flat_map (endpoints_of transport) (arranged servers words))) held

-- the answer to a question, from what is known of the records, for these holds, random words and
-- this policy on held endpoints
abbrev pub plan : Look → Holds → Question → Client → List ℕ → Held → Answer
plan look holds question client words held = draw (route look question client) holds words held
