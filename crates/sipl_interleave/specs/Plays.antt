-- The steps of a world in their order: each answer is right by the plain machine.
use Rattle.std.specs.Prelude.{◌≡◌, ℕ, ◌==◌, List, [], ◌∷◌, ◌++◌, if◌then◌else◌, Option, None, Some, option_map}
use Rattle.sipl_choice.specs.Abilities.{Client}
use Rattle.sipl_uri.specs.declared.question.Question.{Question}
use Rattle.sipl_outages.specs.declared.held.Held.{Held}
use Rattle.sipl_interleave.specs.Jobs.{Job, job_at}
use Rattle.sipl_book.specs.Machine.{State, after, answer_in}
use Rattle.sipl_interleave.specs.Steps.{IsStep}
use Rattle.sipl_interleave.specs.World.{IsWorld, WorldState}
use Rattle.sipl_book.specs.declared.event.Event.{Event}
use Rattle.sipl_book.specs.declared.event.Event.TheVariants.{Change as Changes, Hold as Holds, Release as Releases, Advance as Advances, Answer as Answers}
use Rattle.sipl_interleave.specs.declared.reply.Reply.{Reply}
use Rattle.sipl_interleave.specs.declared.reply.Reply.TheVariants.{Changed, Moved, Answered, Started, Paged}
use Rattle.sipl_interleave.specs.declared.step.Step.{Step}
use Rattle.sipl_interleave.specs.declared.step.Step.TheVariants.{Change, Hold, Release, Advance, Hand, Start, Commit}

-- the steps are made one after the other, each with its reply; what always holds of a world holds
-- after each
abbrev pub Plays : List Step → WorldState → List Reply → WorldState → Type 0
Plays [] old [] new = new ≡ old
Plays [] old (reply ∷ replies) new = ⊥
Plays (step ∷ steps) old [] new = ⊥
Plays (step ∷ steps) old (reply ∷ replies) new =
    (next : WorldState) × IsStep step old next reply × IsWorld next × Plays steps next replies new

-- the question that each worker looks up, by the worker's number
abbrev pub Asked : Type 0
Asked = ℕ → Option Question

-- after a worker began to look up the question of a step
abbrev pub after_start : Step → Asked → Asked
after_start (Start w question) asked = λ v. if v == w then Some question else asked v
after_start step asked = asked

-- after a step with its reply
abbrev pub asked_after : Step → Reply → Asked → Asked
asked_after step Started asked = after_start step asked
asked_after step reply asked = asked

-- the question and the random words of a step that returns an answer: a worker commits the answer
-- to the question of its last run
abbrev pub asks : Asked → Step → Option (Question × List ℕ)
asks asked (Hand question words) = Some (question, words)
asks asked (Commit w words) = option_map (λ question. (question, words)) (asked w)
asks asked step = None

-- the event of an edit
abbrev pub edit_of : Step → Option Event
edit_of (Change edit) = Some (Changes edit)
edit_of step = None

-- the event of a hold, a release or a move of the clock
abbrev pub move_of : Step → Option Event
move_of (Hold endpoint ms) = Some (Holds endpoint ms)
move_of (Release endpoint) = Some (Releases endpoint)
move_of (Advance to) = Some (Advances to)
move_of step = None

-- the event of a step with its reply: an edit, a hold, a release or a move of the clock that was
-- accepted, or an answer that was returned
abbrev pub event_of : Asked → Step → Reply → Option Event
event_of asked step (Changed done) = edit_of step
event_of asked step (Moved number) = move_of step
event_of asked step (Answered handed) =
    option_map (λ question. Answers question.0 question.1 handed.answer) (asks asked step)
event_of asked step reply = None

-- the state of the plain machine after an event, if there is one
abbrev pub after_event : Option Event → State → State
after_event (Some event) state = after event state
after_event None state = state

-- a journal with one more event, if there is one
abbrev pub with_event : Option Event → List Event → List Event
with_event (Some event) journal = journal ++ event ∷ []
with_event None journal = journal

-- the journal after a step with its reply: it is empty where the page was turned, and else has the
-- step's event, if there is one, as its last
abbrev pub journal_with : Asked → Step → Reply → List Event → List Event
journal_with asked step (Paged extent) journal = []
journal_with asked step reply journal = with_event (event_of asked step reply) journal

-- an answer that is returned is that of the plain machine in this state, for the step's question
-- and random words, by the policy on held endpoints
abbrev pub IsRightAnswer : Client → Held → State → Asked → Step → Reply → Type 0
IsRightAnswer client held state asked step (Answered handed) =
    option_map (λ question. answer_in state question.0 client held question.1) (asks asked step)
    ≡ Some handed.answer
IsRightAnswer client held state asked step reply = Unit {0}

-- each answer that is returned is that of the plain machine in the state to which the edits, holds,
-- releases and moves of the clock that were accepted before it lead (RFC 3263, 4)
abbrev pub AnswersAreRight : Client → Held → State → Asked → List Step → List Reply → Type 0
AnswersAreRight client held state asked (step ∷ steps) (reply ∷ replies) =
    IsRightAnswer client held state asked step reply
    × AnswersAreRight client held (after_event (event_of asked step reply) state)
    (asked_after step reply asked) steps replies
AnswersAreRight client held state asked steps replies = Unit {0}

-- the journal after the steps with their replies: the events since the last page, in their order
abbrev pub journal_after : Asked → List Step → List Reply → List Event → List Event
journal_after asked (step ∷ steps) (reply ∷ replies) journal =
    journal_after (asked_after step reply asked) steps replies (journal_with asked step reply journal)
journal_after asked steps replies journal = journal

-- the questions that the workers look up
abbrev pub asked_by : List (Option Job) → Asked
asked_by workers w = option_map (λ job. job.run.question) (job_at workers w)
