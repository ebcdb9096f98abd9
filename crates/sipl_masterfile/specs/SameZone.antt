-- The laws of `==` on zones: it is true exactly where the values are equal.
use Rattle.std.proofs.Common.{◌≡◌, Bool, ◌&&◌, ap}
use Rattle.std.specs.Bool.{Decides, ◌==◌}
use Rattle.std.specs.Cmp.{IsEquivalence, decided}
use Rattle.std.proofs.lemmas.Bool.Decides.{Decides-eqb, Decides-like, Decides-and}
use lib.Pointwise.{pointwise, pointwise_decides}
use Rattle.sipl_names.specs.Labels.{same_name}
use Rattle.sipl_names.proofs.Public.{same_name_decides}
use Rattle.sipl_records.specs.Sets.{same_record}
use Rattle.sipl_records.proofs.Public.{same_record-Decides}
use Rattle.sipl_masterfile.specs.Zones.{Zone}

-- whether two zones are the same: the same apex, the same records in their order, the same counts
abbrev pub same_zone : Zone → Zone → Bool
same_zone a b =
    same_name a.apex b.apex && pointwise same_record a.records b.records && a.outside == b.outside
    && a.repeated == b.repeated

pub same_zone_decides : (a b : Zone) → Decides (same_zone a b) (a ≡ b)
same_zone_decides a b =
    Decides-like _
    (λ e i. record { apex = e.0.0.0 i; records = e.0.0.1 i; outside = e.0.1 i; repeated = e.1 i })
    (λ e. (((ap (λ z. z.apex) e, ap (λ z. z.records) e), ap (λ z. z.outside) e), ap (λ z. z.repeated) e))
    (Decides-and _ _
    (Decides-and _ _
    (Decides-and _ _ (same_name_decides a.apex b.apex)
    (pointwise_decides same_record-Decides a.records b.records))
    (Decides-eqb a.outside b.outside))
    (Decides-eqb a.repeated b.repeated))

pub same_zone-equivalence : IsEquivalence same_zone
same_zone-equivalence = decided same_zone same_zone_decides
