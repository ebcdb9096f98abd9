-- What parameters say, from left to right, against the parameters of each name.
use Rattle.std.proofs.Common.{◌≡◌, ◌<◌, suc, Bool, true, false, List, [], ◌∷◌, length, map, Option, Some, None, Result, Ok, Err, if◌then◌else◌, refl, sym, ap, subst, ◌∙◌, arith}
use Rattle.std.specs.Prelude.{◌≢◌, codes}
use Rattle.std.specs.List.{AllByRecursion, AllPairs, list_any}
use lib.Pointwise.{bytes_decides}
use Rattle.std.proofs.lemmas.Bool.{or_parts, or_from, cond-false, false_from_ne_true}
use Rattle.std.proofs.lemmas.List.Elements.{All-from_recursion, recursion_from_All}
use Rattle.std.proofs.lemmas.List.Kept.{AllPairs-cons}
use Rattle.sipl_names.specs.Labels.{Octets}
use Rattle.sipl_choice.specs.declared.transport.Transport.{Transport}
use Rattle.sipl_uri.specs.declared.fault.UriFault.{UriFault}
use Rattle.sipl_uri.specs.declared.fault.UriFault.TheVariants.{Repeated}
use Rattle.sipl_uri.specs.declared.question.Target.{Target}
use Rattle.sipl_uri.specs.Params.{Param, Settings, same_text, param_of, transport_of_value, target_of_value, with_name, with_transport, with_target, take_param, take_params}
use Rattle.sipl_uri.specs.Grammar.{param_named}
use Rattle.sipl_uri.proofs.ParamTexts.{IsNamed}

-- parameters, as they are taken
abbrev pub taken : List Param → Settings → Result Settings UriFault
taken [] settings = Ok settings
taken (param ∷ params) settings = elim (take_param param settings) [ Ok more ↦ taken params more | Err fault ↦ Err fault ]

take_params-step : (texts : List Octets) (r : Result Settings UriFault) → ((s : Settings) → take_params texts s ≡ taken (map param_of texts) s) → elim r as (λ _. Result Settings UriFault) [ Ok more ↦ take_params texts more | Err fault ↦ Err fault ] ≡ elim r as (λ _. Result Settings UriFault) [ Ok more ↦ taken (map param_of texts) more | Err fault ↦ Err fault ]
take_params-step texts (Ok more) same = same more
take_params-step texts (Err fault) same = refl

pub take_params-taken : (texts : List Octets) (settings : Settings) → take_params texts settings ≡ taken (map param_of texts) settings
take_params-taken [] settings = refl
take_params-taken (text ∷ texts) settings = take_params-step texts (take_param (param_of text) settings) (take_params-taken texts)

-- what is given by a parameter, if there is one, and otherwise stays
abbrev pub IsGiven : {A : Type 0} → (Option Octets → Option A) → Option Param → Option A → Option A → Type 0
IsGiven read None before after = after ≡ before
IsGiven {A} read (Some param) before after = (x : A) × (read param.value ≡ Some x) × (after ≡ Some x)

-- a parameter, if there is one, has such a value
abbrev pub IsReadable : {A : Type 0} → (Option Octets → Option A) → Option Param → Type 0
IsReadable read None = Unit {0}
IsReadable {A} read (Some param) = (x : A) × (read param.value ≡ Some x)

-- the parameter, if this is so
abbrev if_so : Bool → Param → Option Param
if_so here param = if here then Some param else None

-- no parameter has one of these names
abbrev pub IsFresh : List Octets → Param → Type 0
IsFresh names param = list_any (same_text param.name) names ≡ false

-- no two parameters have one name
abbrev pub AreOnce : List Param → Type 0
AreOnce [] = Unit {0}
AreOnce (param ∷ params) = AllByRecursion (λ other. param.name ≢ other.name) params × AreOnce params

pub once_pairs : (params : List Param) → AreOnce params → AllPairs (λ a b. a.name ≢ b.name) params
once_pairs [] once = λ i j d before inside. absurd (omega (arith, inside))
once_pairs (param ∷ params) once =
    AllPairs-cons (λ (a b : Param). a.name ≢ b.name) param params (All-from_recursion (λ (other : Param). param.name ≢ other.name) params once.0) (once_pairs params once.1)

pub pairs_once : (params : List Param) → AllPairs (λ a b. a.name ≢ b.name) params → AreOnce params
pairs_once [] apart = tt
pairs_once (param ∷ params) apart = (
  recursion_from_All (λ (other : Param). param.name ≢ other.name) params (λ k d inside. apart 0 (suc k) d (omega arith) (omega (arith, inside))),
  pairs_once params (λ i j d before inside. apart (suc i) (suc j) d (omega (arith, before)) (omega (arith, inside))),
)

-- what taking parameters says
pub record Takes (params : List Param) (before after : Settings) : Type 0 where
  pub named : AllByRecursion IsNamed params
  pub fresh : AllByRecursion (IsFresh before.names) params
  pub once : AreOnce params
  pub transport : IsGiven transport_of_value (param_named (codes "transport") params) before.transport after.transport
  pub target : IsGiven target_of_value (param_named (codes "maddr") params) before.target after.target

-- what taking one parameter says
record TakesOne (param : Param) (before after : Settings) : Type 0 where
  named : IsNamed param
  fresh : IsFresh before.names param
  names : after.names ≡ param.name ∷ before.names
  transport : IsGiven transport_of_value (if_so (same_text param.name (codes "transport")) param) before.transport after.transport
  target : IsGiven target_of_value (if_so (same_text param.name (codes "maddr")) param) before.target after.target

-- a name is not both
not_maddr : (name : Octets) → same_text name (codes "transport") ≡ true → same_text name (codes "maddr") ≡ false
not_maddr name is = ap (λ (n : Octets). same_text n (codes "maddr")) ((bytes_decides name (codes "transport")).0 is)

given_here : {A : Type 0} (read : Option Octets → Option A) (here : Bool) (param : Param) (before after : Option A) (x : A) → here ≡ true → read param.value ≡ Some x → after ≡ Some x → IsGiven read (if_so here param) before after
given_here read here param before after x is e f = subst (λ (b : Bool). IsGiven read (if_so b param) before after) (sym is) (x, e, f)

given_elsewhere : {A : Type 0} (read : Option Octets → Option A) (here : Bool) (param : Param) (before after : Option A) → here ≡ false → after ≡ before → IsGiven read (if_so here param) before after
given_elsewhere read here param before after other e = subst (λ (b : Bool). IsGiven read (if_so b param) before after) (sym other) e

take_transport : (param : Param) (before after : Settings) (read : Option Transport) → transport_of_value param.value ≡ read → same_text param.name (codes "transport") ≡ true → IsNamed param → IsFresh before.names param → with_transport read (with_name param.name before) ≡ Ok after → TakesOne param before after
take_transport param before after (Some x) e is named fresh same =
    let whole : record (with_name param.name before) { transport = Some x } ≡ after = cc in
    subst (λ (s : Settings). TakesOne param before s) whole (record {
      named = named;
      fresh = fresh;
      names = refl;
      transport = given_here transport_of_value (same_text param.name (codes "transport")) param before.transport (Some x) x is e refl;
      target = given_elsewhere target_of_value (same_text param.name (codes "maddr")) param before.target before.target (not_maddr param.name is) refl;
    })
take_transport param before after None e is named fresh same = cc

take_target : (param : Param) (before after : Settings) (read : Option Target) → target_of_value param.value ≡ read → same_text param.name (codes "transport") ≡ false → same_text param.name (codes "maddr") ≡ true → IsNamed param → IsFresh before.names param → with_target read (with_name param.name before) ≡ Ok after → TakesOne param before after
take_target param before after (Some x) e other is named fresh same =
    let whole : record (with_name param.name before) { target = Some x } ≡ after = cc in
    subst (λ (s : Settings). TakesOne param before s) whole (record {
      named = named;
      fresh = fresh;
      names = refl;
      transport = given_elsewhere transport_of_value (same_text param.name (codes "transport")) param before.transport before.transport other refl;
      target = given_here target_of_value (same_text param.name (codes "maddr")) param before.target (Some x) x is e refl;
    })
take_target param before after None e other is named fresh same = cc

take_other : (param : Param) (before after : Settings) → same_text param.name (codes "transport") ≡ false → same_text param.name (codes "maddr") ≡ false → IsNamed param → IsFresh before.names param → ◌≡◌ {A = Result Settings UriFault} (Ok (with_name param.name before)) (Ok after) → TakesOne param before after
take_other param before after other another named fresh same =
    let whole : with_name param.name before ≡ after = cc in
    subst (λ (s : Settings). TakesOne param before s) whole (record {
      named = named;
      fresh = fresh;
      names = refl;
      transport = given_elsewhere transport_of_value (same_text param.name (codes "transport")) param before.transport before.transport other refl;
      target = given_elsewhere target_of_value (same_text param.name (codes "maddr")) param before.target before.target another refl;
    })

-- the value of a parameter, which may be a transport or a target
abbrev take_kind : Bool → Bool → Param → Settings → Result Settings UriFault
take_kind transport maddr param settings =
    if transport then with_transport (transport_of_value param.value) settings
    else (if maddr then with_target (target_of_value param.value) settings else Ok settings)

take_by : (param : Param) (before after : Settings) (seen transport maddr : Bool) → list_any (same_text param.name) before.names ≡ seen → same_text param.name (codes "transport") ≡ transport → same_text param.name (codes "maddr") ≡ maddr → IsNamed param → (if seen then Err Repeated else take_kind transport maddr param (with_name param.name before)) ≡ Ok after → TakesOne param before after
take_by param before after true transport maddr e f g named same = cc
take_by param before after false true maddr e f g named same = take_transport param before after (transport_of_value param.value) refl f named e same
take_by param before after false false true e f g named same = take_target param before after (target_of_value param.value) refl f g named e same
take_by param before after false false false e f g named same = take_other param before after f g named e same

take_named : (name : Octets) (value : Option Octets) (before after : Settings) → take_param (record { name = name; value = value }) before ≡ Ok after → TakesOne (record { name = name; value = value }) before after
take_named [] value before after same = cc
take_named (c ∷ name) value before after same = take_by (record { name = c ∷ name; value = value }) before after _ _ _ refl refl refl (omega arith) same

-- the parameter of a name that an earlier one has
not_named : (key name : Octets) (names : List Octets) (params : List Param) → name ≡ key → AllByRecursion (IsFresh (name ∷ names)) params → param_named key params ≡ None
not_named key name names [] is fresh = refl
not_named key name names (param ∷ params) is fresh =
    let other : same_text param.name key ≡ false = ap (same_text param.name) (sym is) ∙ (or_parts (same_text param.name name) (list_any (same_text param.name) names) fresh.0).0 in
    cond-false (same_text param.name key) (Some param) (param_named key params) other ∙ not_named key name names params is fresh.1

given_cons : {A : Type 0} (read : Option Octets → Option A) (here : Bool) (param : Param) (others : Option Param) (before middle after : Option A) → (here ≡ true → others ≡ None) → IsGiven read (if_so here param) before middle → IsGiven read others middle after → IsGiven read (if here then Some param else others) before after
given_cons read true param others before middle after alone first rest =
    let stays : after ≡ middle = subst (λ (o : Option Param). IsGiven read o middle after) (alone refl) rest in
    (first.0, first.1, stays ∙ first.2)
given_cons read false param others before middle after alone first rest = subst (λ (x : Option _). IsGiven read others x after) first rest

fresh_tail : (name : Octets) (names all : List Octets) (params : List Param) → all ≡ name ∷ names → AllByRecursion (IsFresh all) params → AllByRecursion (IsFresh (name ∷ names)) params
fresh_tail name names all params same fresh = subst (λ (ns : List Octets). AllByRecursion (IsFresh ns) params) same fresh

fresh_names : (name : Octets) (names : List Octets) (params : List Param) → AllByRecursion (IsFresh (name ∷ names)) params → AllByRecursion (IsFresh names) params
fresh_names name names [] fresh = tt
fresh_names name names (param ∷ params) fresh = ((or_parts (same_text param.name name) (list_any (same_text param.name) names) fresh.0).1, fresh_names name names params fresh.1)

same_name_absurd : (a b : Octets) → same_text b a ≡ false → a ≢ b
same_name_absurd a b other same =
    let is : same_text b a ≡ true = (bytes_decides b a).1 (sym same) in
    let absent : false ≡ true = sym other ∙ is in
    cc

names_apart : (name : Octets) (names : List Octets) (params : List Param) → AllByRecursion (IsFresh (name ∷ names)) params → AllByRecursion (λ other. name ≢ other.name) params
names_apart name names [] fresh = tt
names_apart name names (param ∷ params) fresh = (same_name_absurd name param.name (or_parts (same_text param.name name) (list_any (same_text param.name) names) fresh.0).0, names_apart name names params fresh.1)

takes_cons : (param : Param) (params : List Param) (before middle after : Settings) → TakesOne param before middle → Takes params middle after → Takes (param ∷ params) before after
takes_cons param params before middle after one rest =
    let fresh = fresh_tail param.name before.names middle.names params one.names rest.fresh in
    record {
      named = (one.named, rest.named);
      fresh = (one.fresh, fresh_names param.name before.names params fresh);
      once = (names_apart param.name before.names params fresh, rest.once);
      transport = given_cons transport_of_value (same_text param.name (codes "transport")) param (param_named (codes "transport") params) before.transport middle.transport after.transport
          (λ is. not_named (codes "transport") param.name before.names params ((bytes_decides param.name (codes "transport")).0 is) fresh) one.transport rest.transport;
      target = given_cons target_of_value (same_text param.name (codes "maddr")) param (param_named (codes "maddr") params) before.target middle.target after.target
          (λ is. not_named (codes "maddr") param.name before.names params ((bytes_decides param.name (codes "maddr")).0 is) fresh) one.target rest.target;
    }

takes_by : (param : Param) (params : List Param) (before after : Settings) (r : Result Settings UriFault) → take_param param before ≡ r → ((s : Settings) → taken params s ≡ Ok after → Takes params s after) → elim r as (λ _. Result Settings UriFault) [ Ok more ↦ taken params more | Err fault ↦ Err fault ] ≡ Ok after → Takes (param ∷ params) before after
takes_by param params before after (Ok middle) e rest same = takes_cons param params before middle after (take_named param.name param.value before middle e) (rest middle same)
takes_by param params before after (Err fault) e rest same = cc

-- parameters that are taken
pub taken-is : (params : List Param) (before after : Settings) → taken params before ≡ Ok after → Takes params before after
taken-is [] before after same =
    let stays : after ≡ before = cc in
    record { named = tt; fresh = tt; once = tt; transport = ap (λ (s : Settings). s.transport) stays; target = ap (λ (s : Settings). s.target) stays }
taken-is (param ∷ params) before after same = takes_by param params before after (take_param param before) refl (λ s e. taken-is params s after e) same

-- parameters that can be taken
pub record AreTakeable (params : List Param) (before : Settings) : Type 0 where
  pub named : AllByRecursion IsNamed params
  pub fresh : AllByRecursion (IsFresh before.names) params
  pub once : AreOnce params
  pub transport : IsReadable transport_of_value (param_named (codes "transport") params)
  pub target : IsReadable target_of_value (param_named (codes "maddr") params)

readable_one : {A : Type 0} (read : Option Octets → Option A) (here : Bool) (param : Param) (others : Option Param) → IsReadable read (if here then Some param else others) → here ≡ true → (x : A) × (read param.value ≡ Some x)
readable_one read true param others is here = is
readable_one read false param others is here = cc

readable_rest : {A : Type 0} (read : Option Octets → Option A) (here : Bool) (param : Param) (others : Option Param) → (here ≡ true → others ≡ None) → IsReadable read (if here then Some param else others) → IsReadable read others
readable_rest read true param others alone is = subst (λ (o : Option Param). IsReadable read o) (sym (alone refl)) tt
readable_rest read false param others alone is = is

takeable_by : (param : Param) (before : Settings) (seen transport maddr : Bool) → seen ≡ false → (transport ≡ true → (x : Transport) × (transport_of_value param.value ≡ Some x)) → (maddr ≡ true → (x : Target) × (target_of_value param.value ≡ Some x)) → (after : Settings) × ((if seen then Err Repeated else take_kind transport maddr param (with_name param.name before)) ≡ Ok after)
takeable_by param before true transport maddr e f g = cc
takeable_by param before false true maddr e f g =
    let read = f refl in
    (record (with_name param.name before) { transport = Some read.0 }, ap (λ (o : Option Transport). with_transport o (with_name param.name before)) read.1)
takeable_by param before false false true e f g =
    let read = g refl in
    (record (with_name param.name before) { target = Some read.0 }, ap (λ (o : Option Target). with_target o (with_name param.name before)) read.1)
takeable_by param before false false false e f g = (with_name param.name before, refl)

takeable_named : (name : Octets) (value : Option Octets) (before : Settings) → 0 < length name → list_any (same_text name) before.names ≡ false → (same_text name (codes "transport") ≡ true → (x : Transport) × (transport_of_value value ≡ Some x)) → (same_text name (codes "maddr") ≡ true → (x : Target) × (target_of_value value ≡ Some x)) → (after : Settings) × (take_param (record { name = name; value = value }) before ≡ Ok after)
takeable_named [] value before named fresh f g = absurd (omega arith)
takeable_named (c ∷ name) value before named fresh f g = takeable_by (record { name = c ∷ name; value = value }) before _ _ _ fresh f g

fresh_more : (name : Octets) (names : List Octets) (params : List Param) → AllByRecursion (IsFresh names) params → AllByRecursion (λ other. name ≢ other.name) params → AllByRecursion (IsFresh (name ∷ names)) params
fresh_more name names [] fresh apart = tt
fresh_more name names (param ∷ params) fresh apart =
    (or_from _ _ (false_from_ne_true (same_text param.name name) (λ is. apart.0 (sym ((bytes_decides param.name name).0 is)))) fresh.0, fresh_more name names params fresh.1 apart.1)

taken_both : (param : Param) (params : List Param) (before middle : Settings) → take_param param before ≡ Ok middle → ((after : Settings) × (taken params middle ≡ Ok after)) → (after : Settings) × (taken (param ∷ params) before ≡ Ok after)
taken_both param params before middle e rest = (rest.0, ap (λ (r : Result Settings UriFault). elim r as (λ _. Result Settings UriFault) [ Ok more ↦ taken params more | Err fault ↦ Err fault ]) e ∙ rest.1)

-- they are taken
pub taken-Ok : (params : List Param) (before : Settings) → AreTakeable params before → (after : Settings) × (taken params before ≡ Ok after)
taken-Ok [] before is = (before, refl)
taken-Ok (param ∷ params) before is =
    let fresh = fresh_more param.name before.names params is.fresh.1 is.once.0 in
    let one = takeable_named param.name param.value before is.named.0 is.fresh.0
    (readable_one transport_of_value (same_text param.name (codes "transport")) param (param_named (codes "transport") params) is.transport)
    (readable_one target_of_value (same_text param.name (codes "maddr")) param (param_named (codes "maddr") params) is.target) in
    let says = take_named param.name param.value before one.0 one.1 in
    taken_both param params before one.0 one.1 (taken-Ok params one.0 (record {
      named = is.named.1;
      fresh = subst (λ (ns : List Octets). AllByRecursion (IsFresh ns) params) (sym says.names) fresh;
      once = is.once.1;
      transport = readable_rest transport_of_value (same_text param.name (codes "transport")) param (param_named (codes "transport") params)
          (λ here. not_named (codes "transport") param.name before.names params ((bytes_decides param.name (codes "transport")).0 here) fresh) is.transport;
      target = readable_rest target_of_value (same_text param.name (codes "maddr")) param (param_named (codes "maddr") params)
          (λ here. not_named (codes "maddr") param.name before.names params ((bytes_decides param.name (codes "maddr")).0 here) fresh) is.target;
    }))
