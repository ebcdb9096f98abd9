-- Whether two states are the same, where it is known whether their holds are.
use Rattle.std.proofs.Common.{◌≡◌, false, sym, ap, true≢false}
use Rattle.std.proofs.lemmas.Bool.Decides.{Decides-like, same_from_decides}
use Rattle.sipl_zonestore.specs.SameZones.{same_zones, same_zones_decides}
use Rattle.sipl_book.specs.Machine.{State}
use Rattle.sipl_book.specs.SameState.{same_state, same_state_decides}

pub with_same_holds : (a b : State) → a.holds ≡ b.holds → same_zones a.zones b.zones ≡ same_state a b
with_same_holds a b same =
    same_from_decides _ _
    (Decides-like _ (λ e i. record { zones = e i; holds = same i }) (λ e. ap (λ s. s.zones) e) (same_zones_decides a.zones b.zones))
    (same_state_decides a b)

pub with_other_holds : (a b : State) → (a.holds ≡ b.holds → ⊥) → false ≡ same_state a b
with_other_holds a b other =
    same_from_decides _ _ (λ e. absurd (true≢false (sym e)), λ e. absurd (other (ap (λ s. s.holds) e))) (same_state_decides a b)
