-- Small texts, and the settings or the fault that each of them has.
use Rattle.std.proofs.Common.{◌≡◌, [], ◌∷◌, Ok, Err, codes, refl}
use Rattle.toml.proofs.OnLiterals.{toml_on_literals}
use Rattle.sipl_choice.specs.declared.transport.Transport.TheVariants.{Tcp, Sctp}
use Rattle.sipl_choice.specs.declared.families.Families.TheVariants.{V6ThenV4}
use Rattle.sipl_lines.specs.SettingsFault.{not_toml, unknown_key, bad_value}
use Rattle.sipl_lines.specs.Settings.{defaults, settings_of}
use Rattle.sipl_lines.specs.Values.{socket}

empty : settings_of (codes "") ≡ Ok defaults
unfolding toml_on_literals
empty = refl

unknown : settings_of (codes "x = 1") ≡ Err (unknown_key (codes "x"))
unfolding toml_on_literals
unknown = refl

tries_17 : settings_of (codes "tries = 17") ≡ Err (bad_value (codes "tries"))
unfolding toml_on_literals
tries_17 = refl

tries_16 : settings_of (codes "tries = 16") ≡ Ok (record defaults { tries = 16 })
unfolding toml_on_literals
tries_16 = refl

no_toml : settings_of (codes "[") ≡ Err not_toml
unfolding toml_on_literals
no_toml = refl

-- the keys' order is that of their octets, and not that of the text
first_by_octets : settings_of (codes "zzz = 1\ntries = 0") ≡ Err (bad_value (codes "tries"))
unfolding toml_on_literals
first_by_octets = refl

transports_repeated : settings_of (codes "transports = ['udp', 'udp']") ≡ Err (bad_value (codes "transports"))
unfolding toml_on_literals
transports_repeated = refl

several : settings_of (codes "transports = ['sctp', 'tcp']\nlisten = '127.0.1.0:080'\nfamilies = 'v6v4'")
    ≡ Ok (record defaults { abilities = record { preference = Sctp ∷ Tcp ∷ []; families = V6ThenV4 }; listen = socket (127 ∷ 0 ∷ 1 ∷ 0 ∷ []) 80 })
unfolding toml_on_literals
several = refl

listen_elsewhere : settings_of (codes "listen = '128.0.0.1:80'") ≡ Err (bad_value (codes "listen"))
unfolding toml_on_literals
listen_elsewhere = refl
