-- Where clients connect, and the texts that name it.
use Rattle.std.specs.Prelude.{◌≡◌, ◌<◌, ◌≤◌, ℕ, List, ◌++◌, codes, length, Contains, string_bytes}
use Rattle.std.specs.Net.Addr.{IsLoopbackV4, IsLoopbackV6, MatchIp}
use Rattle.std.specs.Net.Grammar.{IsSocketText}
use Rattle.std.specs.Net.Socket.{socket_ip}
use Rattle.std.specs.Net.Text.{socket_text}
use Rattle.std.specs.declared.net.socket_addr.SocketAddr.{SocketAddr}
use Rattle.sipl_listen.specs.declared.address.Address.{Address}
use Rattle.sipl_listen.specs.declared.address.Address.TheVariants.{Tcp, Unix}

-- the text of an address: that of a socket address, or `unix:` and a path
abbrev pub address_text : Address → List ℕ
address_text (Tcp address) = socket_text address
address_text (Unix path) = codes "unix:" ++ string_bytes path

-- the machine itself: 127.0.0.0/8 or ::1
abbrev pub IsOwn : SocketAddr → Type 0
IsOwn address = MatchIp (socket_ip address) IsLoopbackV4 IsLoopbackV6

-- a path of 1 to 107 octets, of which none is NUL
pub record IsSocketPath (path : List ℕ) : Type 0 where
  pub some : 0 < length path
  pub fits : length path ≤ 107
  pub no_nul : ¬ (Contains path 0)

-- the text names this address
abbrev pub IsAddressText : List ℕ → Address → Type 0
IsAddressText text (Tcp address) =
    ((path : List ℕ) → ¬ (text ≡ codes "unix:" ++ path)) × IsSocketText text address × IsOwn address
IsAddressText text (Unix path) =
    (text ≡ codes "unix:" ++ string_bytes path) × IsSocketPath (string_bytes path)

-- how many descriptors a listener has: a socket and its copy, a connection, and the lock of a path
abbrev pub descriptors_of : Address → ℕ
descriptors_of (Tcp _) = 3
descriptors_of (Unix _) = 4
