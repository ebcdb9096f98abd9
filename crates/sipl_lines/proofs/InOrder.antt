-- The keys of a table in their order: each that is set changes the settings, up to the first fault.
use Rattle.std.proofs.Common.{◌≡◌, List, [], ◌∷◌, Option, None, Some, Result, Ok, Err, Ordering, Less, Equal, Greater, String, Global, string_bytes, nat_cmp, option_map, codes, if◌then◌else◌, refl, sym, ap, subst, ◌∙◌}
use Rattle.std.specs.Prelude.{IfSome}
use Rattle.std.specs.Option.{option_map_or}
use Rattle.std.specs.List.{AllByRecursion}
use Rattle.std.specs.List.Sorted.{IsStrictlySortedBy}
use Rattle.std.specs.Map.{keys_of}
use Rattle.std.specs.String.{string_cmp}
use Rattle.std.specs.Ordering.{ordering_reverse, is_lt}
use Rattle.std.specs.Cmp.Lexicographic.{slice_cmp}
use Rattle.std.proofs.lemmas.Cmp.{nat_list_cmp_total}
use Rattle.toml.specs.Data.{Data, Members, no_members, member, get_member}
use Rattle.toml.specs.declared.value.Value.{Value}
use Rattle.toml.specs.View.{view, members_view}
use Rattle.toml.proofs.Views.{Entry}
use Rattle.sipl_names.specs.Labels.{Octets}
use Rattle.sipl_lines.specs.declared.settings.Settings.{Settings}
use Rattle.sipl_lines.specs.declared.settings.fault.Refusal.{Refusal}
use Rattle.sipl_lines.specs.declared.settings.fault.Refusal.TheVariants.{UnknownKey, BadValue, Memory}
use Rattle.sipl_lines.specs.SettingsFault.{Fault, key_fault}
use Rattle.sipl_lines.specs.Settings.{earlier, first_fault, member_fault, settings_over, value_at}
use Rattle.sipl_lines.specs.Values.{number_in, transports_in, families_in, held_in, listen_in}

-- what the members that are left give, over the settings so far
abbrev pub settings_from : Members → Settings → Result Settings Fault
settings_from ms base = option_map_or (λ fault. Err fault.1) (first_fault ms) (Ok (settings_over ms base))

-- each key comes after this one
abbrev AreAfter : Octets → List Entry → Type 0
AreAfter key es = AllByRecursion (λ k. slice_cmp nat_cmp key (string_bytes k) ≡ Less) (keys_of es)

abbrev IsAfter : Octets → Option (Octets × Fault) → Type 0
IsAfter key o = IfSome o (λ other. slice_cmp nat_cmp key other.0 ≡ Less)

module _ (key : Octets) where
  -- ---- the fault of a key comes before those of the keys after it

  IsAfter-earlier : (a b : Option (Octets × Fault)) → IsAfter key a → IsAfter key b → IsAfter key (earlier a b)
  IsAfter-earlier None b p q = q
  IsAfter-earlier (Some a) None p q = p
  IsAfter-earlier (Some a) (Some b) p q = chosen (slice_cmp nat_cmp b.0 a.0)
    where
      chosen : (o : Ordering) → IsAfter key (if is_lt o then Some b else Some a)
      chosen Less = q
      chosen Equal = p
      chosen Greater = p

  IsAfter-own : (k : Octets) (o : Option Fault) → slice_cmp nat_cmp key k ≡ Less → IsAfter key (option_map (λ fault. (k, fault)) o)
  IsAfter-own k None less = tt
  IsAfter-own k (Some fault) less = less

  IsAfter-first_fault : (es : List Entry) → AreAfter key es → IsAfter key (first_fault (members_view es))
  IsAfter-first_fault [] after = tt
  IsAfter-first_fault (e ∷ es) after =
      IsAfter-earlier _ _ (IsAfter-own (string_bytes e.0) (member_fault (string_bytes e.0) (view e.1)) after.0) (IsAfter-first_fault es after.1)

  earlier-first : (fault : Fault) (o : Option (Octets × Fault)) → IsAfter key o → earlier (Some (key, fault)) o ≡ Some (key, fault)
  earlier-first fault None after = refl
  earlier-first fault (Some other) after =
      ap (λ o. if is_lt o then Some other else Some (key, fault)) (nat_list_cmp_total.antisymm other.0 key ∙ ap ordering_reverse after)

  -- ---- a key after which each other comes is not among them

  get_member-after : (es : List Entry) → AreAfter key es → get_member key (members_view es) ≡ None
  get_member-after [] after = refl
  get_member-after (e ∷ es) after = rw after.0 (get_member-after es after.1)

-- a name that is equal to the key is not among them either
AreAfter-equal : (name key : Octets) (es : List Entry) → slice_cmp nat_cmp name key ≡ Equal → AreAfter key es → AreAfter name es
AreAfter-equal name key [] same after = tt
AreAfter-equal name key (e ∷ es) same after = (nat_list_cmp_total.congr name key (string_bytes e.0) same ∙ after.0, AreAfter-equal name key es same after.1)

module _ (key : Octets) (d : Data) (es : List Entry) (after : AreAfter key es) where
  -- a value is that of the key, or of one of the others
  value_at-step : {A : Type 0} (name : Octets) (reads : Data → Option A) (base : A) → value_at name reads (member key d (members_view es)) base ≡ value_at name reads (members_view es) (value_at name reads (member key d no_members) base)
  value_at-step {A} name reads base = by_cases (slice_cmp nat_cmp name key) refl
    where
      by_cases : (o : Ordering) → slice_cmp nat_cmp name key ≡ o → value_at name reads (member key d (members_view es)) base ≡ value_at name reads (members_view es) (value_at name reads (member key d no_members) base)
      by_cases Less e = rw e refl
      by_cases Equal e = rw (e, get_member-after name es (AreAfter-equal name key es e after)) refl
      by_cases Greater e = rw e refl

  settings_over-step : (base : Settings) → settings_over (member key d (members_view es)) base ≡ settings_over (members_view es) (settings_over (member key d no_members) base)
  settings_over-step base = λ i. record {
    abilities = record {
      preference = value_at-step (codes "transports") transports_in base.abilities.preference i;
      families = value_at-step (codes "families") families_in base.abilities.families i;
    };
    held = value_at-step (codes "held") held_in base.held i;
    records = value_at-step (codes "records") number_in base.records i;
    entries = value_at-step (codes "entries") number_in base.entries i;
    journal = value_at-step (codes "journal") number_in base.journal i;
    holds = value_at-step (codes "holds") number_in base.holds i;
    tries = value_at-step (codes "tries") number_in base.tries i;
    workers = value_at-step (codes "workers") number_in base.workers i;
    sessions = value_at-step (codes "sessions") number_in base.sessions i;
    listen = value_at-step (codes "listen") listen_in base.listen i;
  }

  -- a key that is allowed changes the settings, and the others follow
  pub settings_from-allowed : (base : Settings) → member_fault key d ≡ None → settings_from (member key d (members_view es)) base ≡ settings_from (members_view es) (settings_over (member key d no_members) base)
  settings_from-allowed base allowed =
      ap (λ (o : Option Fault). option_map_or (λ fault. Err fault.1) (earlier (option_map (λ fault. (key, fault)) o) (first_fault (members_view es))) (Ok (settings_over (member key d (members_view es)) base))) allowed
      ∙ ap (λ s. option_map_or (λ fault. Err fault.1) (first_fault (members_view es)) (Ok s)) (settings_over-step base)

  -- a key that is refused has the first fault
  pub settings_from-refused : (base : Settings) (fault : Fault) → member_fault key d ≡ Some fault → settings_from (member key d (members_view es)) base ≡ Err fault
  settings_from-refused base fault refused =
      ap (λ (o : Option Fault). option_map_or (λ f. Err f.1) (earlier (option_map (λ f. (key, f)) o) (first_fault (members_view es))) (Ok (settings_over (member key d (members_view es)) base))) refused
      ∙ ap (λ o. option_map_or (λ f. Err f.1) o (Ok (settings_over (member key d (members_view es)) base))) (earlier-first key fault (first_fault (members_view es)) (IsAfter-first_fault key es after))

-- the key and the value that come next, and the settings so far
module _ (whole : Result Settings Fault) (key_text : Octets) (s rest : List Entry) (key : String Global) (value : Value) (base : Settings)
    (first : s ≡ (key, value) ∷ rest) (same : key_text ≡ string_bytes key)
    (in_order : IsStrictlySortedBy string_cmp (keys_of s)) (given : whole ≡ settings_from (members_view s) base) where
  split_order : IsStrictlySortedBy string_cmp (keys_of ((key, value) ∷ rest)) → AreAfter (string_bytes key) rest × IsStrictlySortedBy string_cmp (keys_of rest)
  unfolding IsStrictlySortedBy
  split_order h = h

  after : AreAfter (string_bytes key) rest × IsStrictlySortedBy string_cmp (keys_of rest)
  after = split_order (subst (λ (es : List Entry). IsStrictlySortedBy string_cmp (keys_of es)) first in_order)

  begun : whole ≡ settings_from (member (string_bytes key) (view value) (members_view rest)) base
  begun = given ∙ ap (λ (es : List Entry). settings_from (members_view es) base) first

  pub rest_in_order : IsStrictlySortedBy string_cmp (keys_of rest)
  rest_in_order = after.1

  -- a key that is set
  pub whole-allowed : (new : Settings) → member_fault key_text (view value) ≡ None → new ≡ settings_over (member key_text (view value) no_members) base → whole ≡ settings_from (members_view rest) new
  whole-allowed new allowed set =
      begun
      ∙ settings_from-allowed (string_bytes key) (view value) rest after.0 base (rw (← same) allowed)
      ∙ ap (λ s. settings_from (members_view rest) s) (sym (set ∙ ap (λ (k : Octets). settings_over (member k (view value) no_members) base) same))

  -- a key that is refused
  pub whole-refused : (refusal : Refusal) → IfSome (key_fault refusal key_text) (λ fault. member_fault key_text (view value) ≡ Some fault) → IfSome (key_fault refusal (string_bytes key)) (λ fault. whole ≡ Err fault)
  whole-refused UnknownKey refused = begun ∙ settings_from-refused (string_bytes key) (view value) rest after.0 base _ (rw same at refused)
  whole-refused BadValue refused = begun ∙ settings_from-refused (string_bytes key) (view value) rest after.0 base _ (rw same at refused)
  whole-refused Memory refused = tt
