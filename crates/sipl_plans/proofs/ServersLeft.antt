-- The servers whose addresses are still read.
use Rattle.std.proofs.Common.{◌≡◌, ℕ, suc, ◌+◌, ◌<◌, List, [], ◌∷◌, ◌++◌, length, get_or, drop, append_assoc, append-nil, sym, ap, ◌∙◌, arith}
use Rattle.std.proofs.Math.Seq.{drop-cons}
use Rattle.std.specs.List.{filter_map}
use Rattle.sipl_names.specs.Labels.{Labels}
use Rattle.sipl_records.specs.declared.address.Address.{Address}
use Rattle.sipl_records.specs.declared.data.Data.{Data}
use Rattle.sipl_records.specs.declared.kind.Kind.{Kind}
use Rattle.sipl_choice.specs.Abilities.{Client}
use Rattle.sipl_choice.specs.FamilyKinds.{address_kinds}
use Rattle.sipl_choice.specs.declared.transport.Transport.{Transport}
use Rattle.sipl_srv.specs.declared.pick.Pick.{Pick}
use Rattle.sipl_evidence.specs.Answers.{asking}
use Rattle.sipl_evidence.specs.Looks.{Asking, done, and_then}
use Rattle.sipl_plans.specs.Route.{address_of_data, asking_addresses, asking_served, asking_sources, source_of}
use Rattle.sipl_plans.specs.Stages.{asking_later, asking_more, asking_servers}
use Rattle.sipl_plans.specs.declared.layout.Layout.{Layout}
use Rattle.sipl_plans.specs.declared.layout.Layout.TheVariants.{Servers}
use Rattle.sipl_plans.specs.declared.layout.Source.{Source}
use Rattle.sipl_plans.proofs.Advancing.{and_then-alike, and_then-assoc}

-- a name's further addresses are all found, and then follows what follows
asking_more-addresses : (kinds : List Kind) (name : Labels) (found : List Address) (next : List Address → Asking Layout) → asking_more kinds name found next ≡ and_then (asking_addresses kinds name) (λ others. next (found ++ others))
asking_more-addresses [] name found next = ap next (sym (append-nil found))
asking_more-addresses (kind ∷ kinds) name found next =
    let one : List Data → List Address = λ set. filter_map address_of_data set in
    let joined : List Data → Asking (List Address) = λ set. and_then (asking_addresses kinds name) (λ others. done (one set ++ others)) in
    and_then-alike (asking name kind) (λ set. asking_more kinds name (found ++ one set) next) (λ set. and_then (joined set) (λ all. next (found ++ all)))
    (λ set.
    asking_more-addresses kinds name (found ++ one set) next
    ∙ and_then-alike (asking_addresses kinds name) (λ others. next ((found ++ one set) ++ others)) (λ others. next (found ++ (one set ++ others))) (λ others. ap next (append_assoc found (one set) others))
    ∙ sym (and_then-assoc (asking_addresses kinds name) (λ others. done (one set ++ others)) (λ all. next (found ++ all))))
    ∙ sym (and_then-assoc (asking name kind) joined (λ all. next (found ++ all)))

asking_later-sources : (kinds : List Kind) (transport : Transport) (picks : List Pick) (servers : List Source) → asking_later kinds transport picks servers ≡ and_then (asking_sources kinds picks) (λ others. done (Servers transport (servers ++ others)))
asking_later-sources kinds transport [] servers = ap (λ all. done (Servers transport all)) (sym (append-nil servers))
asking_later-sources kinds transport (pick ∷ picks) servers =
    let joined : List Address → Asking (List Source) = λ found. and_then (asking_sources kinds picks) (λ others. done (source_of pick found ∷ others)) in
    asking_more-addresses kinds pick.target [] (λ found. asking_later kinds transport picks (servers ++ source_of pick found ∷ []))
    ∙ and_then-alike (asking_addresses kinds pick.target) (λ found. asking_later kinds transport picks (servers ++ source_of pick found ∷ [])) (λ found. and_then (joined found) (λ others. done (Servers transport (servers ++ others))))
    (λ found.
    asking_later-sources kinds transport picks (servers ++ source_of pick found ∷ [])
    ∙ and_then-alike (asking_sources kinds picks) (λ others. done (Servers transport ((servers ++ source_of pick found ∷ []) ++ others))) (λ others. done (Servers transport (servers ++ (source_of pick found ∷ others)))) (λ others. ap (λ all. done (Servers transport all)) (append_assoc servers (source_of pick found ∷ []) others))
    ∙ sym (and_then-assoc (asking_sources kinds picks) (λ others. done (source_of pick found ∷ others)) (λ others. done (Servers transport (servers ++ others)))))
    ∙ sym (and_then-assoc (asking_addresses kinds pick.target) joined (λ others. done (Servers transport (servers ++ others))))

-- the servers of picks are served, one after another
pub asking_later-served : (client : Client) (transport : Transport) (picks : List Pick) → asking_later (address_kinds client.families) transport picks [] ≡ asking_served client transport picks
asking_later-served client transport picks = asking_later-sources (address_kinds client.families) transport picks []

-- the next kind of addresses of the server that is read, over a walk
pub asking_servers-next : (kinds : List Kind) (transport : Transport) (servers : List Source) (picks : List Pick) (next : ℕ) (found : List Address) (pick : Pick) (kind : Kind) (walk : Asking (List Data)) → 0 < length picks → pick ≡ get_or picks 0 pick → next < length kinds → kind ≡ get_or kinds next kind → walk ≡ asking pick.target kind
    → asking_servers kinds transport servers picks next found ≡ and_then walk (λ set. asking_servers kinds transport servers picks (next + 1) (found ++ filter_map address_of_data set))
asking_servers-next kinds transport servers [] next found pick kind walk some first inside at over = absurd (omega arith)
asking_servers-next kinds transport servers (own ∷ later) next found pick kind walk some first inside at over =
    let finish : List Address → Asking Layout = λ all. asking_later kinds transport later (servers ++ source_of own all ∷ []) in
    let onward : List Data → Asking Layout = λ set. asking_more (drop (next + 1) kinds) own.target (found ++ filter_map address_of_data set) finish in
    let one : suc next ≡ next + 1 = omega arith in
    let here : drop next kinds ≡ kind ∷ drop (next + 1) kinds = drop-cons kinds next kind inside ∙ ap (λ k. k ∷ drop (suc next) kinds) (sym at) ∙ ap (λ n. kind ∷ drop n kinds) one in
    ap (λ ks. asking_more ks own.target found finish) here
    ∙ ap (λ (p : Pick). and_then (asking p.target kind) onward) (sym first)
    ∙ ap (λ set. and_then set onward) (sym over)
