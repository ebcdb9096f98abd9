-- How the fields of a `Told` represent what a caller receives.
use Rattle.std.specs.Arc.{arc_value}
use Rattle.sipl_service.specs.Telling.{IsDecided, ToldState}
use Rattle.sipl_service.specs.declared.told.Told.TheInside.{Inside}

-- each field by its name
abbrev pub told_of : Inside → ToldState
told_of t =
    record {
      number = t.number;
      question = t.asked.value.question;
      client = t.asked.value.abilities;
      held = t.asked.value.held;
      words = t.asked.value.draws;
      answer = t.answer;
      items = arc_value t.evidence;
      board = t.holds;
    }

-- the evidence and the holds decide the answer
abbrev pub IsValidTold : Inside → Type 0
IsValidTold t = IsDecided (told_of t)
