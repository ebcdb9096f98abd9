-- What a legal journal says of its answers, and where an event is.
use Rattle.std.proofs.Common.{◌≡◌, ℕ, List, [], ◌∷◌, ◌++◌, length, Some, refl}
use Rattle.std.specs.List.{slice_get}
use Rattle.sipl_choice.specs.Abilities.{Client}
use Rattle.sipl_uri.specs.declared.question.Question.{Question}
use Rattle.sipl_outages.specs.declared.held.Held.{Held}
use Rattle.sipl_plans.specs.declared.answer.Answer.{Answer as Targets}
use Rattle.sipl_book.specs.Machine.{State, IsLegal, after, answer_in, replay}
use Rattle.sipl_book.specs.declared.event.Event.{Event}
use Rattle.sipl_book.specs.declared.event.Event.TheVariants.{Answer}

pub answers_are_plans : (client : Client) (held : Held) (before later : List Event) (state : State) (question : Question) (words : List ℕ) (answer : Targets)
    → IsLegal client held (before ++ Answer question words answer ∷ later) state → answer ≡ answer_in (replay before state) question client held words
answers_are_plans client held [] later state question words answer legal = legal.0
answers_are_plans client held (event ∷ before) later state question words answer legal =
    answers_are_plans client held before later (after event state) question words answer legal.1

pub last_place : (events : List Event) (event : Event) → slice_get (events ++ event ∷ []) (length events) ≡ Some event
last_place [] event = refl
last_place (first ∷ events) event = last_place events event
