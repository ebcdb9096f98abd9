-- What the laws speak of is there.
use Rattle.std.proofs.Common.{List, [], ◌∷◌, refl, arith}
use Rattle.std.specs.List.{AllByRecursion}
use Rattle.sipl_names.specs.Labels.{IsName}
use Rattle.sipl_records.specs.declared.data.Data.TheVariants.{Address4}
use Rattle.sipl_masterfile.specs.Zones.{Zone}
use Rattle.sipl_choice.specs.Abilities.{Client}
use Rattle.sipl_outages.specs.Holds.{no_holds}
use Rattle.sipl_outages.specs.declared.held.Held.{Held}
use Rattle.sipl_plans.specs.Policies.{HoldsNone}
use Rattle.sipl_book.specs.declared.edit.Edit.TheVariants.{Load}
use Rattle.sipl_book.specs.declared.event.Event.{Event}
use Rattle.sipl_book.specs.declared.event.Event.TheVariants.{Advance, Change}
use Rattle.sipl_archive.specs.Plain.{new_plain}
use Rattle.sipl_laws.specs.Carried.{AcceptsAll, LoadsZone}
use Rattle.sipl_laws.specs.Events.{IsEvent}

-- nothing is held in a new board
nothing-held : HoldsNone no_holds
nothing-held endpoint = refl

-- a new machine accepts that a zone is loaded, and then that the clock goes on

abbrev zone_of_one : Zone
zone_of_one = record { apex = []; records = record { owner = []; value = Address4 1 } ∷ []; outside = 2; repeated = 3 }

abbrev events : List Event
events = Change (Load zone_of_one) ∷ Advance 5 ∷ []

root-is : IsName []
root-is = record { each = tt; short = omega arith }

events-fit : AllByRecursion IsEvent events
events-fit = (record { apex = root-is; records = (record { owner = root-is; value = omega arith }, tt); few = omega arith }, (omega arith, tt))

zone-is : AllByRecursion LoadsZone events
zone-is = (record { within = refl; distinct = refl; aliases = λ i j d before inside. absurd (omega (arith, before, inside)); fits = refl }, (tt, tt))

events-accepted : (client : Client) (held : Held) → AcceptsAll (new_plain client held) events
events-accepted client held = (refl, (refl, tt))
