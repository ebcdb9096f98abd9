-- The laws of `==` on states: it is true exactly where the values are equal.
use Rattle.std.proofs.Common.{◌≡◌, ℕ, Bool, ◌&&◌, ap}
use Rattle.std.specs.Bool.{Decides, ◌==◌}
use Rattle.std.specs.Cmp.{IsEquivalence, decided}
use Rattle.std.proofs.lemmas.Bool.Decides.{Decides-eqb, Decides-like, Decides-and}
use lib.Pointwise.{pointwise, pointwise_decides}
use Rattle.sipl_choice.specs.declared.endpoint.Endpoint.{Endpoint}
use Rattle.sipl_choice.specs.Endpoints.{same_endpoint}
use Rattle.sipl_choice.proofs.Public.{same_endpoint_decides}
use Rattle.sipl_zonestore.specs.SameZones.{same_zones, same_zones_decides}
use Rattle.sipl_book.specs.Machine.{State}

-- whether two holds are the same: of the same endpoint, with the same end
abbrev pub same_hold : Endpoint × ℕ → Endpoint × ℕ → Bool
same_hold a b = same_endpoint a.0 b.0 && a.1 == b.1

-- whether two states are the same: the same zones, the same time, the same holds in their order
abbrev pub same_state : State → State → Bool
same_state a b =
    same_zones a.zones b.zones && a.holds.now == b.holds.now
    && pointwise same_hold a.holds.ends b.holds.ends

same_hold_decides : (a b : Endpoint × ℕ) → Decides (same_hold a b) (a ≡ b)
same_hold_decides a b =
    Decides-like _ (λ e i. (e.0 i, e.1 i)) (λ e. (ap (λ h. h.0) e, ap (λ h. h.1) e))
    (Decides-and _ _ (same_endpoint_decides a.0 b.0) (Decides-eqb a.1 b.1))

pub same_state_decides : (a b : State) → Decides (same_state a b) (a ≡ b)
same_state_decides a b =
    Decides-like _
    (λ e i. record { zones = e.0.0 i; holds = record { now = e.0.1 i; ends = e.1 i } })
    (λ e. ((ap (λ s. s.zones) e, ap (λ s. s.holds.now) e), ap (λ s. s.holds.ends) e))
    (Decides-and _ _
    (Decides-and _ _ (same_zones_decides a.zones b.zones) (Decides-eqb a.holds.now b.holds.now))
    (pointwise_decides same_hold_decides a.holds.ends b.holds.ends))

pub same_state-equivalence : IsEquivalence same_state
same_state-equivalence = decided same_state same_state_decides
