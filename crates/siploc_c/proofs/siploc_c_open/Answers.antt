use Rattle.std.proofs.Common.{inl, inr, refl}
use Rattle.siploc_c.proofs.siploc_c_open.Goals as goal

pub returns-in-Ok : goal.returns-in-Ok
returns-in-Ok c = inl (c.in-Ok.settings, c.in-Ok.ensures.read, c.open_session.result, c.open_session.ensures, c.number.ensures)

pub returns-in-Err : goal.returns-in-Err
returns-in-Err c = inr (c.in-Err.status, c.in-Err.ensures.refused, c.number-in-Err.ensures, refl)
