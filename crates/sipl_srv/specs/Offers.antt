-- What a set of SRV records offers (RFC 2782).
use Rattle.std.specs.Prelude.{Bool, true, false, not, List, [], ◌∷◌, filter, Option, None, Some, if◌then◌else◌}
use Rattle.std.specs.List.{filter_map, list_all}
use Rattle.sipl_records.specs.declared.data.Data.{Data}
use Rattle.sipl_records.specs.declared.data.Data.TheVariants.{Service}
use Rattle.sipl_srv.specs.declared.pick.Pick.{Pick}
use Rattle.sipl_srv.specs.declared.pick.Offer.{Offer}
use Rattle.sipl_srv.specs.declared.pick.Offer.TheVariants.{Nothing, Closed, Picks}

-- the pick of SRV data; data of other types are none
abbrev pub pick_of : Data → Option Pick
pick_of (Service priority weight port target) =
    Some (record { priority = priority; weight = weight; port = port; target = target })
pick_of _ = None

-- RFC 2782, "Target": the root, "." in text, says that the service is not available at this domain
abbrev pub is_unavailable : Pick → Bool
is_unavailable pick = elim pick.target [ [] ↦ true | label ∷ labels ↦ false ]

-- nothing without SRV data; closed where each target is the root; else those of other targets
abbrev pub offer_of_picks : List Pick → Offer
offer_of_picks [] = Nothing
offer_of_picks (pick ∷ picks) =
    if list_all is_unavailable (pick ∷ picks) then Closed
    else Picks (filter (λ p. not (is_unavailable p)) (pick ∷ picks))

-- what a set offers, by the SRV data in it
abbrev pub offer_of : List Data → Offer
offer_of set = offer_of_picks (filter_map pick_of set)
