use Rattle.sipl_outages.proofs.Lasting.{held_has_lasting_hold, lasting_hold_holds}
use Rattle.sipl_outages.proofs.laws.held_exactly_while_a_hold_lasts.Goals as goal

pub returns : goal.returns
returns c = λ max_holds events accepted endpoint.
    (held_has_lasting_hold max_holds events accepted endpoint, lasting_hold_holds max_holds events accepted endpoint)
