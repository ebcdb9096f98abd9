-- The settings of a TOML document.
use Rattle.std.specs.Prelude.{IfSome, ◌≡◌, ◌≤◌, ℕ, Bool, List, [], ◌∷◌, Option, None, Some, Result, Ok, Err, codes, nat_eq, is_some, unwrap_or, option_map, option_and_then, if◌then◌else◌}
use Rattle.std.specs.Option.{option_map_or}
use Rattle.std.specs.Map.{lookup}
use Rattle.std.specs.Ordering.{nat_cmp, is_lt}
use Rattle.std.specs.Cmp.Lexicographic.{slice_cmp}
use lib.Pointwise.{pointwise}
use Rattle.toml.specs.Data.{Data, Members, no_members, member, get_member}
use Rattle.toml.specs.Parse.{parse_document}
use Rattle.sipl_names.specs.Labels.{Octets}
use Rattle.sipl_choice.specs.declared.transport.Transport.TheVariants.{Udp, Tcp}
use Rattle.sipl_choice.specs.declared.families.Families.TheVariants.{V4}
use Rattle.sipl_outages.specs.declared.held.Held.TheVariants.{Out}
use Rattle.sipl_book.specs.declared.limits.Limits.{Limits}
use Rattle.sipl_lines.specs.declared.settings.Settings.{Settings}
use Rattle.sipl_lines.specs.SettingsFault.{Fault, not_toml, unknown_key, bad_value, key_fault}
use Rattle.sipl_lines.specs.declared.settings.fault.Refusal.{Refusal}
use Rattle.sipl_lines.specs.Values.{number_in, number_from, transports_in, families_in, held_in, listen_in, socket}

-- what the value of a key may be: a list of transports, families, the policy on held endpoints, a
-- number from low to high, or an address in 127.0.0.0/8 with a port
pub data Allowed : Type 0 where
  transports : Allowed
  families : Allowed
  held : Allowed
  numbers : (low high : ℕ) → Allowed
  loopback : Allowed

-- each key, and what its value may be
abbrev pub keys : List (Octets × Allowed)
keys =
    (codes "transports", transports)
    ∷ (codes "families", families)
    ∷ (codes "held", held)
    ∷ (codes "records", numbers 0 1048576)
    ∷ (codes "entries", numbers 0 65536)
    ∷ (codes "journal", numbers 1 1048576)
    ∷ (codes "holds", numbers 0 4096)
    ∷ (codes "tries", numbers 1 16)
    ∷ (codes "workers", numbers 0 64)
    ∷ (codes "sessions", numbers 1 1000000)
    ∷ (codes "listen", loopback)
    ∷ []

-- the settings of an empty document
abbrev pub defaults : Settings
defaults = record {
  abilities = record { preference = Udp ∷ Tcp ∷ []; families = V4 };
  held = Out;
  records = 1048576;
  entries = 65536;
  journal = 1048576;
  holds = 4096;
  tries = 4;
  workers = 1;
  sessions = 1;
  listen = socket (127 ∷ 0 ∷ 0 ∷ 1 ∷ []) 5099;
}

-- the maxima of what is kept are at most the greatest ones
pub record IsWithinLimits (settings : Settings) : Type 0 where
  pub records : settings.records ≤ 1048576
  pub entries : settings.entries ≤ 65536
  pub journal : settings.journal ≤ 1048576
  pub holds : settings.holds ≤ 4096
  pub once : 1 ≤ settings.tries
  pub tries : settings.tries ≤ 16

-- what a book with these settings keeps at most; its sets are numbered from 1, its events from 0
abbrev pub limits_of : Settings → Limits
limits_of settings = record {
  records = settings.records;
  entries = settings.entries;
  journal = settings.journal;
  holds = settings.holds;
  next = 1;
  first = 0;
}

-- whether a value is as it may be
abbrev pub allows : Allowed → Data → Bool
allows transports d = is_some (transports_in d)
allows families d = is_some (families_in d)
allows held d = is_some (held_in d)
allows (numbers low high) d = is_some (number_from low high d)
allows loopback d = is_some (listen_in d)

-- why a key with this value is refused
abbrev pub member_fault : Octets → Data → Option Fault
member_fault key d =
    option_map_or (λ allowed. if allows allowed d then None else Some (bad_value key))
    (lookup (pointwise nat_eq key) keys) (Some (unknown_key key))

-- of two faults with their keys, the one whose key is first by its octets
abbrev pub earlier : Option (Octets × Fault) → Option (Octets × Fault) → Option (Octets × Fault)
earlier None b = b
earlier (Some a) None = Some a
earlier (Some a) (Some b) = if is_lt (slice_cmp nat_cmp b.0 a.0) then Some b else Some a

-- the fault of the first key, by the keys' octets, that has one
abbrev pub first_fault : Members → Option (Octets × Fault)
first_fault no_members = None
first_fault (member key d ms) =
    earlier (option_map (λ fault. (key, fault)) (member_fault key d)) (first_fault ms)

-- the value at a key as it is read, or the base where the key is missing
abbrev pub value_at : {A : Type 0} → Octets → (Data → Option A) → Members → A → A
value_at key reads ms base = unwrap_or (option_and_then reads (get_member key ms)) base

-- the settings of the document, and those of the base for the keys that it does not have
abbrev pub settings_over : Members → Settings → Settings
settings_over ms base = record {
  abilities = record {
    preference = value_at (codes "transports") transports_in ms base.abilities.preference;
    families = value_at (codes "families") families_in ms base.abilities.families;
  };
  held = value_at (codes "held") held_in ms base.held;
  records = value_at (codes "records") number_in ms base.records;
  entries = value_at (codes "entries") number_in ms base.entries;
  journal = value_at (codes "journal") number_in ms base.journal;
  holds = value_at (codes "holds") number_in ms base.holds;
  tries = value_at (codes "tries") number_in ms base.tries;
  workers = value_at (codes "workers") number_in ms base.workers;
  sessions = value_at (codes "sessions") number_in ms base.sessions;
  listen = value_at (codes "listen") listen_in ms base.listen;
}

-- the settings of a document, or the first fault
abbrev pub settings_of_members : Members → Result Settings Fault
settings_of_members ms =
    option_map_or (λ fault. Err fault.1) (first_fault ms) (Ok (settings_over ms defaults))

-- the settings of a text: a TOML document (TOML 1.1)
abbrev pub settings_of : List ℕ → Result Settings Fault
settings_of text = option_map_or settings_of_members (parse_document text) (Err not_toml)

-- what one key leaves of the settings, or why it is refused; an allocation failure says nothing
abbrev pub SetsKey : Octets → Data → Settings → Result (Unit {0}) Refusal → Settings → Type 0
SetsKey key d old (Ok _) new =
    (member_fault key d ≡ None) × (new ≡ settings_over (member key d no_members) old)
SetsKey key d old (Err refusal) new =
    IfSome (key_fault refusal key) (λ fault. member_fault key d ≡ Some fault)
