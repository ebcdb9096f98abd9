-- The codes of `UriFault`.
use Rattle.std.specs.Prelude.{ℕ, List, codes}
use Rattle.sipl_uri.specs.declared.fault.UriFault.{UriFault}
use Rattle.sipl_uri.specs.declared.fault.UriFault.TheVariants.{Scheme, Host, Port, Transport, Repeated, SipsTransport, Characters, Memory}

-- the error's code in replies
abbrev pub code_of : UriFault → List ℕ
code_of Scheme = codes "U1"
code_of Host = codes "U2"
code_of Port = codes "U3"
code_of Transport = codes "U4"
code_of Repeated = codes "U5"
code_of SipsTransport = codes "U6"
code_of Characters = codes "U7"
code_of Memory = codes "Memory"
