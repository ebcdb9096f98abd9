-- Holds at one time, compared pair by pair.
use Rattle.std.proofs.Common.{◌≡◌, ℕ, ◌==◌, ◌&&◌, Bool, sym, ap, subst}
use Rattle.std.specs.Bool.{Decides}
use Rattle.std.proofs.lemmas.Bool.Decides.{Decides-eqb, Decides-like, Decides-and}
use lib.Pointwise.{pointwise, pointwise_decides}
use Rattle.sipl_choice.specs.declared.endpoint.Endpoint.{Endpoint}
use Rattle.sipl_choice.specs.Endpoints.{same_endpoint}
use Rattle.sipl_choice.proofs.Public.{same_endpoint_decides}
use Rattle.sipl_outages.specs.Holds.{Holds}

-- whether two holds are of one endpoint, to one end
abbrev pub same_hold : Endpoint × ℕ → Endpoint × ℕ → Bool
same_hold a b = same_endpoint a.0 b.0 && a.1 == b.1

same_hold_decides : (a b : Endpoint × ℕ) → Decides (same_hold a b) (a ≡ b)
same_hold_decides a b =
    Decides-like _
    (λ e i. (e.0 i, e.1 i))
    (λ e. (ap (λ h. h.0) e, ap (λ h. h.1) e))
    (Decides-and _ _ (same_endpoint_decides a.0 b.0) (Decides-eqb a.1 b.1))

-- at one time the holds are the same where the ends are
pub same_holds_decides : (a b : Holds) (result : Bool) → a.now ≡ b.now → result ≡ pointwise same_hold a.ends b.ends → Decides result (a ≡ b)
same_holds_decides a b result now is =
    Decides-like _
    (λ e i. record { now = now i; ends = e i })
    (λ e. ap (λ h. h.ends) e)
    (subst (λ same. Decides same (a.ends ≡ b.ends)) (sym is) (pointwise_decides same_hold_decides a.ends b.ends))
