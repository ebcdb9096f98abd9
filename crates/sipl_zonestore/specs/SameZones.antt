-- The laws of `==` on the zones of a store: it is true exactly where the values are equal.
use Rattle.std.proofs.Common.{◌≡◌, Bool, ◌&&◌, ap}
use Rattle.std.specs.Bool.{Decides}
use Rattle.std.specs.Cmp.{IsEquivalence, decided}
use Rattle.std.proofs.lemmas.Bool.Decides.{Decides-like, Decides-and}
use lib.Pointwise.{pointwise, pointwise_decides}
use Rattle.sipl_names.specs.Labels.{same_name}
use Rattle.sipl_names.proofs.Public.{same_name_decides}
use Rattle.sipl_records.specs.Sets.{same_record}
use Rattle.sipl_records.proofs.Public.{same_record-Decides}
use Rattle.sipl_zonestore.specs.Store.{Zones}

-- whether two lists of zones are the same: the same apexes and the same records, each in their order
abbrev pub same_zones : Zones → Zones → Bool
same_zones a b =
    pointwise same_name a.apexes b.apexes && pointwise same_record a.records b.records

pub same_zones_decides : (a b : Zones) → Decides (same_zones a b) (a ≡ b)
same_zones_decides a b =
    Decides-like _
    (λ e i. record { apexes = e.0 i; records = e.1 i })
    (λ e. (ap (λ z. z.apexes) e, ap (λ z. z.records) e))
    (Decides-and _ _
    (pointwise_decides same_name_decides a.apexes b.apexes)
    (pointwise_decides same_record-Decides a.records b.records))

pub same_zones-equivalence : IsEquivalence same_zones
same_zones-equivalence = decided same_zones same_zones_decides
