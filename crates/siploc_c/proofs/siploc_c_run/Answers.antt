use Rattle.std.proofs.Common.{inl, inr, refl}
use Rattle.siploc_c.proofs.siploc_c_run.Goals as goal

pub returns-in-Ok : goal.returns-in-Ok
returns-in-Ok c = inl (c.in-Ok.settings, c.in-Ok.ensures.read, c.run_lines.ensures)

pub returns-in-Err : goal.returns-in-Err
returns-in-Err c =
    inr (record {
      refusal = c.in-Err.status;
      refused = c.in-Err.ensures.refused;
      number_is = c.number.ensures;
      written_is = refl;
      count_is = refl;
    })
