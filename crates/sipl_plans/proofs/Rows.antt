-- Worked rows, by evaluation.
use Rattle.std.proofs.Common.{◌≡◌, refl}
use Rattle.std.specs.Prelude.{ℕ, suc, false, List, [], ◌∷◌, ◌++◌, Some, None, codes}
use Rattle.sipl_records.specs.Sets.{set_of}
use Rattle.sipl_records.specs.declared.address.Address.TheVariants.{V4 as v4}
use Rattle.sipl_records.specs.declared.data.Data.TheVariants.{Address4 as a4, Service as srv, Pointer as naptr, Alias as alias, Bare as bare}
use Rattle.sipl_records.specs.declared.record.Record.{Record}
use Rattle.sipl_records.specs.declared.kind.Kind.TheVariants.{Address4, Service, Pointer, Alias, Exists}
use Rattle.sipl_plans.specs.Plan.{plan}
use Rattle.sipl_plans.specs.declared.answer.Answer.TheVariants.{Targets, None as none_of}
use Rattle.sipl_names.specs.Labels.{Labels, wildcard_at}
use Rattle.sipl_choice.specs.Abilities.{Client}
use Rattle.sipl_choice.specs.declared.families.Families.TheVariants.{V4}
use Rattle.sipl_choice.specs.declared.transport.Transport.TheVariants.{Udp, Tcp}
use Rattle.sipl_uri.specs.declared.question.Question.{Question}
use Rattle.sipl_uri.specs.declared.question.Target.TheVariants.{Domain}
use Rattle.sipl_evidence.specs.Answers.{max_aliases, max_ancestors}
use Rattle.sipl_evidence.specs.Looks.{key}
use Rattle.sipl_plans.specs.Route.{route, reads}
use Rattle.sipl_plans.specs.declared.layout.Layout.TheVariants.{Servers}
use Rattle.sipl_plans.specs.declared.answer.Reason.TheVariants.{NoAddress, AllHeld}
use Rattle.sipl_choice.specs.declared.endpoint.Endpoint.{Endpoint}
use Rattle.sipl_outages.specs.Holds.{Holds, no_holds}
use Rattle.sipl_outages.specs.declared.held.Held.TheVariants.{Out, Last}

abbrev domain : Labels
domain = codes "a" ∷ []

abbrev server1 : Labels
server1 = codes "s1" ∷ domain

abbrev server2 : Labels
server2 = codes "s2" ∷ domain

abbrev tcp_service : Labels
tcp_service = codes "_sip" ∷ codes "_tcp" ∷ domain

abbrev zone : List Record
zone =
    record { owner = domain; value = naptr 50 50 (codes "s") (codes "SIPS+D2T") [] (codes "_sips" ∷ codes "_tcp" ∷ domain) }
    ∷ record { owner = domain; value = naptr 90 50 (codes "s") (codes "SIP+D2T") [] tcp_service }
    ∷ record { owner = domain; value = naptr 100 50 (codes "s") (codes "SIP+D2U") [] (codes "_sip" ∷ codes "_udp" ∷ domain) }
    ∷ record { owner = tcp_service; value = srv 0 1 5060 server1 }
    ∷ record { owner = tcp_service; value = srv 0 2 5060 server2 }
    ∷ record { owner = server1; value = a4 1 }
    ∷ record { owner = server2; value = a4 2 } ∷ []

abbrev client : Client
client = record { preference = Tcp ∷ Udp ∷ []; families = V4 }

abbrev question : Question
question = record { secure = false; target = Domain domain; port = None; transport = None }

-- the route by NAPTR, whose order 50 the client cannot use
row_route : route (set_of zone) question client ≡ Servers Tcp (record { priority = 0; weight = 1; port = 5060; addresses = v4 1 ∷ [] } ∷ record { priority = 0; weight = 2; port = 5060; addresses = v4 2 ∷ [] } ∷ [])
unfolding max_aliases max_ancestors
row_route = refl

row_reads : reads (set_of zone) question client ≡ key domain Pointer ∷ key tcp_service Service ∷ key server1 Address4 ∷ key server2 Address4 ∷ []
unfolding max_aliases max_ancestors
row_reads = refl

-- words 2,0 and 1,0
row_plan2 : plan (set_of zone) no_holds question client (2 ∷ 0 ∷ []) Out ≡ Targets (record { transport = Tcp; address = v4 2; port = 5060 } ∷ record { transport = Tcp; address = v4 1; port = 5060 } ∷ [])
unfolding max_aliases max_ancestors
row_plan2 = refl

row_plan1 : plan (set_of zone) no_holds question client (1 ∷ 0 ∷ []) Out ≡ Targets (record { transport = Tcp; address = v4 1; port = 5060 } ∷ record { transport = Tcp; address = v4 2; port = 5060 } ∷ [])
unfolding max_aliases max_ancestors
row_plan1 = refl

-- one target is held until 5000, and then none
abbrev at : ℕ → Endpoint
at number = record { transport = Tcp; address = v4 number; port = 5060 }

abbrev one_held : ℕ → Holds
one_held now = record { now = now; ends = (at 2, 5000) ∷ [] }

row_one_held : plan (set_of zone) (one_held 4999) question client (2 ∷ 0 ∷ []) Out ≡ Targets (at 1 ∷ [])
unfolding max_aliases max_ancestors
row_one_held = refl

row_ended : plan (set_of zone) (one_held 5000) question client (2 ∷ 0 ∷ []) Out ≡ Targets (at 2 ∷ at 1 ∷ [])
unfolding max_aliases max_ancestors
row_ended = refl

row_all_held : plan (set_of zone) (record { now = 0; ends = (at 2, 5000) ∷ (at 1, 1) ∷ [] }) question client (2 ∷ 0 ∷ []) Out ≡ none_of AllHeld
unfolding max_aliases max_ancestors
row_all_held = refl

-- with the held ones last: one of them, both, and none
row_one_last : plan (set_of zone) (one_held 4999) question client (2 ∷ 0 ∷ []) Last ≡ Targets (at 1 ∷ at 2 ∷ [])
unfolding max_aliases max_ancestors
row_one_last = refl

row_both_last : plan (set_of zone) (record { now = 0; ends = (at 2, 5000) ∷ (at 1, 5000) ∷ [] }) question client (2 ∷ 0 ∷ []) Last ≡ Targets (at 2 ∷ at 1 ∷ [])
unfolding max_aliases max_ancestors
row_both_last = refl

row_ended_last : plan (set_of zone) (one_held 5000) question client (2 ∷ 0 ∷ []) Last ≡ Targets (at 2 ∷ at 1 ∷ [])
unfolding max_aliases max_ancestors
row_ended_last = refl

-- transport=udp: nine keys and no address
abbrev udp_question : Question
udp_question = record { secure = false; target = Domain domain; port = None; transport = Some Udp }

row_udp : plan (set_of zone) no_holds udp_question client [] Out ≡ none_of NoAddress
unfolding max_aliases max_ancestors
row_udp = refl

row_udp_held : plan (set_of zone) (one_held 0) udp_question client [] Out ≡ none_of NoAddress
unfolding max_aliases max_ancestors
row_udp_held = refl

row_udp_last : plan (set_of zone) (one_held 0) udp_question client [] Last ≡ none_of NoAddress
unfolding max_aliases max_ancestors
row_udp_last = refl

abbrev udp_service : Labels
udp_service = codes "_sip" ∷ codes "_udp" ∷ domain

row_udp_reads : reads (set_of zone) udp_question client ≡ key udp_service Service ∷ key udp_service Alias ∷ key udp_service Exists ∷ key (codes "_udp" ∷ domain) Exists ∷ key domain Exists ∷ key (wildcard_at domain) Service ∷ key (wildcard_at domain) Alias ∷ key domain Address4 ∷ key domain Alias ∷ []
unfolding max_aliases max_ancestors
row_udp_reads = refl

-- aliases: n0 to n8 with eight aliases, and nine
abbrev n : ℕ → Labels
n i = (i ∷ []) ∷ domain

abbrev link : ℕ → Record
link i = record { owner = n i; value = alias (n (suc i)) }

abbrev chain : List Record
chain = link 0 ∷ link 1 ∷ link 2 ∷ link 3 ∷ link 4 ∷ link 5 ∷ link 6 ∷ link 7 ∷ []

abbrev n0_question : Question
n0_question = record { secure = false; target = Domain (n 0); port = Some 5060; transport = None }

row_chain8 : plan (set_of (chain ++ record { owner = n 8; value = a4 7 } ∷ [])) no_holds n0_question client [] Out ≡ Targets (record { transport = Udp; address = v4 7; port = 5060 } ∷ [])
unfolding max_aliases max_ancestors
row_chain8 = refl

row_chain9 : plan (set_of (chain ++ link 8 ∷ record { owner = n 9; value = a4 7 } ∷ [])) no_holds n0_question client [] Out ≡ none_of NoAddress
unfolding max_aliases max_ancestors
row_chain9 = refl

-- RFC 4592, 2.2.1: a name that does not exist is answered at the wildcard, but one that exists is not, be it that only a name below it has a record
abbrev absent : Labels
absent = codes "x" ∷ domain

abbrev absent_question : Question
absent_question = record { secure = false; target = Domain absent; port = Some 5060; transport = None }

abbrev wildcards : List Record
wildcards = record { owner = wildcard_at domain; value = a4 7 } ∷ []

row_wildcard : plan (set_of wildcards) no_holds absent_question client [] Out ≡ Targets (record { transport = Udp; address = v4 7; port = 5060 } ∷ [])
unfolding max_aliases max_ancestors
row_wildcard = refl

row_wildcard_reads : reads (set_of wildcards) absent_question client ≡ key absent Address4 ∷ key absent Alias ∷ key absent Exists ∷ key domain Exists ∷ key (wildcard_at domain) Address4 ∷ []
unfolding max_aliases max_ancestors
row_wildcard_reads = refl

row_non_terminal : plan (set_of (record { owner = codes "y" ∷ absent; value = bare } ∷ wildcards)) no_holds absent_question client [] Out ≡ none_of NoAddress
unfolding max_aliases max_ancestors
row_non_terminal = refl
