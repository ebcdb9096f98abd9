-- A list that has no transport twice has at most four.
use Rattle.std.proofs.Common.{◌≡◌, ℕ, ◌+◌, ◌≤◌, Bool, true, false, ◌||◌, List, [], ◌∷◌, length, refl, ap, arith}
use Rattle.sipl_choice.specs.Abilities.{supports, repeats_transport}
use Rattle.sipl_choice.specs.declared.transport.Transport.{Transport}
use Rattle.sipl_choice.specs.declared.transport.Transport.TheVariants.{Udp, Tcp, Tls, Sctp}

-- 1 where it is so, else 0
abbrev pub one_if : Bool → ℕ
one_if true = 1
one_if false = 0

pub one_if-le : (b : Bool) → one_if b ≤ 1
one_if-le true = omega arith
one_if-le false = omega arith

-- neither of two facts holds
pub or-left : (a b : Bool) → (a || b) ≡ false → a ≡ false
or-left false b neither = refl
or-left true b neither = neither

pub or-right : (a b : Bool) → (a || b) ≡ false → b ≡ false
or-right false b neither = neither
or-right true b neither = let never : true ≡ false = neither in cc

-- how many of the four transports are in a list
abbrev count_of : List Transport → ℕ
count_of transports =
    one_if (supports transports Udp) + one_if (supports transports Tcp) + one_if (supports transports Tls) + one_if (supports transports Sctp)

length-count : (transports : List Transport) → repeats_transport transports ≡ false → length transports ≤ count_of transports
length-count [] once = omega arith
length-count (Udp ∷ others) once = omega (arith, length-count others (or-right (supports others Udp) (repeats_transport others) once), ap one_if (or-left (supports others Udp) (repeats_transport others) once))
length-count (Tcp ∷ others) once = omega (arith, length-count others (or-right (supports others Tcp) (repeats_transport others) once), ap one_if (or-left (supports others Tcp) (repeats_transport others) once))
length-count (Tls ∷ others) once = omega (arith, length-count others (or-right (supports others Tls) (repeats_transport others) once), ap one_if (or-left (supports others Tls) (repeats_transport others) once))
length-count (Sctp ∷ others) once = omega (arith, length-count others (or-right (supports others Sctp) (repeats_transport others) once), ap one_if (or-left (supports others Sctp) (repeats_transport others) once))

pub length_few : (transports : List Transport) → repeats_transport transports ≡ false → length transports ≤ 4
length_few transports once =
    omega (arith, length-count transports once, one_if-le (supports transports Udp), one_if-le (supports transports Tcp), one_if-le (supports transports Tls), one_if-le (supports transports Sctp))
