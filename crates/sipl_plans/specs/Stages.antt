-- Where a run is in a route, and what the route still asks for there.
use Rattle.std.specs.Prelude.{◌≡◌, ℕ, List, [], ◌∷◌, ◌++◌, drop, filter, Some}
use Rattle.std.specs.List.{filter_map}
use Rattle.sipl_names.specs.Labels.{Labels}
use Rattle.sipl_records.specs.declared.address.Address.{Address}
use Rattle.sipl_records.specs.declared.data.Data.{Data}
use Rattle.sipl_records.specs.declared.kind.Kind.{Kind}
use Rattle.sipl_choice.specs.Abilities.{Client}
use Rattle.sipl_choice.specs.FamilyKinds.{address_kinds}
use Rattle.sipl_choice.specs.Pointers.{chosen}
use Rattle.sipl_choice.specs.declared.transport.Transport.{Transport}
use Rattle.sipl_srv.specs.Offers.{offer_of}
use Rattle.sipl_srv.specs.declared.pick.Pick.{Pick}
use Rattle.sipl_evidence.specs.Answers.{asking}
use Rattle.sipl_evidence.specs.Items.{Item}
use Rattle.sipl_evidence.specs.Known.{advance, first_unknown}
use Rattle.sipl_evidence.specs.Looks.{Asking, done, and_then}
use Rattle.sipl_evidence.specs.Walks.{WalkState, walk_asking}
use Rattle.sipl_uri.specs.declared.question.Question.{Question}
use Rattle.sipl_uri.specs.declared.question.Target.TheVariants.{Numeric, Domain as domain_target}
use Rattle.sipl_plans.specs.Route.{address_of_data, asking_chosen, asking_domain, asking_numeric, asking_offered, asking_services, asking_tried, is_tried, source_of}
use Rattle.sipl_plans.specs.declared.layout.Layout.{Layout}
use Rattle.sipl_plans.specs.declared.layout.Layout.TheVariants.{Servers}
use Rattle.sipl_plans.specs.declared.layout.Source.{Source}
use Rattle.sipl_plans.specs.declared.serving.Serving.{Serving}
use Rattle.sipl_plans.specs.declared.stage.Domain.{Domain}
use Rattle.sipl_plans.specs.declared.stage.Progress.{Progress}
use Rattle.sipl_plans.specs.declared.stage.Progress.TheVariants.{Done, Wanting}
use Rattle.sipl_plans.specs.declared.stage.Purpose.{Purpose}
use Rattle.sipl_plans.specs.declared.stage.Purpose.TheVariants.{Pointers, Offered, Services, Addresses}
use Rattle.sipl_plans.specs.declared.stage.Stage.{Stage}
use Rattle.sipl_plans.specs.declared.stage.Stage.TheVariants.{Start, Reading}
use Rattle.sipl_plans.specs.declared.stage.Step.{Step}
use Rattle.sipl_plans.specs.declared.stage.Step.TheVariants.{Done as step_done, Reading as step_reading}

-- a name's addresses of further kinds, after those that were found, and then what follows them
abbrev pub asking_more : List Kind → Labels → List Address → (List Address → Asking Layout) → Asking Layout
asking_more [] name found next = next found
asking_more (kind ∷ kinds) name found next =
    and_then (asking name kind)
    (λ set. asking_more kinds name (found ++ filter_map address_of_data set) next)

-- the servers of further picks, after those that were found
abbrev pub asking_later : List Kind → Transport → List Pick → List Source → Asking Layout
asking_later kinds transport [] servers = done (Servers transport servers)
asking_later kinds transport (pick ∷ picks) servers =
    asking_more kinds pick.target []
    (λ found. asking_later kinds transport picks (servers ++ source_of pick found ∷ []))

-- the servers of picks, after others; of the first one the addresses of some kinds were found, and
-- those from a place on are left
abbrev pub asking_servers : List Kind → Transport → List Source → List Pick → ℕ → List Address → Asking Layout
asking_servers kinds transport servers [] next_kind found = done (Servers transport servers)
asking_servers kinds transport servers (pick ∷ later) next_kind found =
    asking_more (drop next_kind kinds) pick.target found
    (λ all. asking_later kinds transport later (servers ++ source_of pick all ∷ []))

-- what is left of the servers' addresses, where no set is being read
abbrev pub serving_left : List Kind → Serving → Asking Layout
serving_left kinds serving =
    asking_servers kinds serving.transport serving.servers.items serving.picks.items serving.next_kind serving.found.items

-- what follows a set of addresses
abbrev pub serving_after : List Kind → Serving → List Data → Asking Layout
serving_after kinds serving set =
    asking_servers kinds serving.transport serving.servers.items serving.picks.items serving.next_kind
    (serving.found.items ++ filter_map address_of_data set)

-- what follows the answer of a walk, by its purpose
abbrev pub after : Labels → Question → Client → Purpose → List Data → Asking Layout
after name question client Pointers set =
    asking_chosen client name question.secure (chosen question.secure client set)
after name question client (Offered transport) set =
    asking_offered client name transport (offer_of set)
after name question client (Services transport next closed) set =
    asking_tried client transport
    (λ now. asking_services client name question.secure now
    (filter (is_tried question.secure) (drop next client.preference))) closed (offer_of set)
after name question client (Addresses serving) set =
    serving_after (address_kinds client.families) serving set

-- what is left of the route to a domain
abbrev pub domain_rest : Labels → Question → Client → Stage → Asking Layout
domain_rest name question client Start = asking_domain client name question
domain_rest name question client (Reading walk purpose) =
    and_then (walk_asking walk) (after name question client purpose)

-- what is left of the route of a question
abbrev pub rest : Question → Client → Stage → Asking Layout
rest question client stage = elim question.target [
  | Numeric address ↦ asking_numeric client question address
  | domain_target name ↦ domain_rest name question client stage
]

-- how far the sets that were read lead from a computation, where this is what is left of it at each
-- stage: to a layout, or to the first set that is missing, and a stage from where it goes on
abbrev pub HasReachedBy : (Stage → Asking Layout) → List Item → Asking Layout → Progress → Type 0
HasReachedBy left items asking (Done layout) = advance items asking ≡ done layout
HasReachedBy left items asking (Wanting key stage) =
    (first_unknown items asking ≡ Some key) × (advance items (left stage) ≡ advance items asking)

-- the same for the route of a question
abbrev pub HasReached : Question → Client → List Item → Asking Layout → Progress → Type 0
HasReached question client items asking progress =
    HasReachedBy (rest question client) items asking progress

-- the same for the route to a domain
abbrev pub HasReachedIn : Domain → List Item → Asking Layout → Progress → Type 0
HasReachedIn domain items asking progress =
    HasReachedBy (domain_rest domain.name.now domain.question.now domain.abilities.now) items asking progress

-- what follows the answer of a walk to a domain
abbrev pub follows : Domain → Purpose → List Data → Asking Layout
follows domain purpose set =
    after domain.name.now domain.question.now domain.abilities.now purpose set

-- what a walk to a domain asks for, and what follows its answer
abbrev pub reading : Domain → WalkState → Purpose → Asking Layout
reading domain walk purpose = and_then (walk_asking walk) (follows domain purpose)

-- what is left of the route to a domain, after a step
abbrev pub step_asking : Domain → Step → Asking Layout
step_asking domain (step_done layout) = done layout
step_asking domain (step_reading walk purpose) = reading domain walk purpose
