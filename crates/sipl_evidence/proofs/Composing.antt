-- One computation after another.
use Rattle.std.proofs.Common.{◌≡◌, ◌∷◌, ◌++◌, refl, ap}
use Rattle.sipl_evidence.specs.Looks.{Look, Asking, done, ask, and_then, result_of, asked}

pub result_of-and_then : {A B : Type 0} (look : Look) (first : Asking A) (next : A → Asking B) → result_of look (and_then first next) ≡ result_of look (next (result_of look first))
result_of-and_then look (done value) next = refl
result_of-and_then look (ask k more) next = result_of-and_then look (more (look k)) next

pub asked-and_then : {A B : Type 0} (look : Look) (first : Asking A) (next : A → Asking B) → asked look (and_then first next) ≡ asked look first ++ asked look (next (result_of look first))
asked-and_then look (done value) next = refl
asked-and_then look (ask k more) next = ap (λ keys. k ∷ keys) (asked-and_then look (more (look k)) next)
