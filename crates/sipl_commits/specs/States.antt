-- The text of a state, and why one is not read.
use Rattle.std.specs.Prelude.{◌≡◌, ◌≢◌, ◌++◌, codes}
use Rattle.sha2.specs.Sha256.{sha256}
use Rattle.sipl_commits.specs.Seals.{Octets, Begins, sealed}
use Rattle.sipl_commits.specs.declared.state.State.{State}
use Rattle.sipl_commits.specs.declared.fault.StateFault.{StateFault}
use Rattle.sipl_commits.specs.declared.fault.StateFault.TheVariants.{Memory, FirstFormat, Format, Digest}

-- the first line of a state
abbrev pub state_line : Octets
state_line = codes "siplocd state 2\n"

-- the octets of a state: its format, its lines, and the digest of all that
abbrev pub state_text : Octets → Octets
state_text body = sealed (state_line ++ body)

-- the digest of a state
abbrev pub state_digest : Octets → Octets
state_digest body = sha256 (state_line ++ body)

-- what was read of a state
pub record IsState (octets : Octets) (state : State) : Type 0 where
  pub is : octets ≡ state_text state.body.now
  pub digest_is : state.digest ≡ state_digest state.body.now

-- how files of the first format begin, which names none
abbrev pub checkpoint_start : Octets
checkpoint_start = codes "# page "

-- why octets are no state, the first that applies
abbrev pub StateFails : StateFault → Octets → Type 0
StateFails FirstFormat octets = Begins octets checkpoint_start
StateFails Format octets = (Begins octets checkpoint_start → ⊥) × (Begins octets state_line → ⊥)
StateFails Digest octets =
    Begins octets state_line × ((body : Octets) → octets ≢ state_text body)
StateFails Memory octets = Unit {0}
