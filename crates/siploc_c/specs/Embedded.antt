-- A session at a book of its own, with the replies that wait, as its caller sees it.
use Rattle.std.specs.Prelude.{◌≡◌, ◌⊎◌, ◌++◌, ℕ, [], length, min, take, drop, Option, Some, Ok}
use Rattle.sipl_names.specs.Labels.{Octets}
use Rattle.sipl_book.specs.Book.{BookState, new_book}
use Rattle.sipl_lines.specs.Desk.{DeskRules}
use Rattle.sipl_lines.specs.Session.{SessionState, at_desk, session_protocol}
use Rattle.sipl_lines.specs.Settings.{limits_of, settings_of}
use Rattle.sipl_lines.specs.Takes.{Takes, TakesFirst}
use Rattle.sipl_lines.specs.Talk.{TalkState, new_talk}
use Rattle.sipl_lines.specs.declared.settings.Settings.{Settings}
use Rattle.siploc_c.specs.Status.{number_of}
use Rattle.siploc_c.specs.Whole.{RefusesSettings}
use Rattle.siploc_c.specs.declared.status.Status.{Status}
use Rattle.siploc_c.specs.declared.status.Status.TheVariants.{Done, Memory}

-- the book, the talk and the replies that were not taken yet
pub record EmbeddedState : Type 0 where
  pub book : BookState
  pub talk : TalkState
  pub replies : Octets

-- a session that had no octets, at a new book with these settings
abbrev pub new_embedded : Settings → EmbeddedState
new_embedded settings =
    record {
      book = new_book settings.abilities settings.held (limits_of settings);
      talk = new_talk;
      replies = [];
    }

-- the session, at the book as it is seen
abbrev pub session_of : {D : Type 0} → (BookState → D) → EmbeddedState → SessionState D
session_of seen state = at_desk (seen state.book) state.talk.session

-- a session that had no octets is opened; or an allocation failed, and all is as it was
abbrev pub OpensWith : Settings → Option EmbeddedState → Status → Option EmbeddedState → Type 0
OpensWith settings before status after =
    ((status ≡ Done) × (after ≡ Some (new_embedded settings)))
    ⊎ ((status ≡ Memory) × (after ≡ before))

-- a session is opened with the settings of a text; or these are refused, and all is as it was
abbrev pub Opens : Octets → Option EmbeddedState → ℕ → Option EmbeddedState → Type 0
Opens text before number after =
    ((settings : Settings) × (settings_of text ≡ Ok settings) × (status : Status)
    × OpensWith settings before status after × (number ≡ number_of status))
    ⊎ ((refusal : Status) × RefusesSettings text refusal × (number ≡ number_of refusal)
    × (after ≡ before))

-- The octets are put: the replies of a session, by the rules of a desk that the book is seen as, follow
-- those that wait. They are the replies to the lines that end in the octets.
abbrev pub Puts : {D F : Type 0} → DeskRules D F → (BookState → D) → EmbeddedState → Octets
    → EmbeddedState → Type 0
Puts rules seen before octets after =
    Takes (session_protocol rules) (session_of seen before) before.talk.pending octets before.replies
    (session_of seen after) after.talk.pending after.replies

-- so many of the octets are put, and no others: all lines before one that ends in the others
abbrev pub PutsFirst : {D F : Type 0} → DeskRules D F → (BookState → D) → ℕ → EmbeddedState → Octets
    → EmbeddedState → Type 0
PutsFirst rules seen count before octets after =
    TakesFirst (session_protocol rules) count (session_of seen before) before.talk.pending octets
    before.replies (session_of seen after) after.talk.pending after.replies

-- all octets are put, or where the space for a reply could not be reserved so many
abbrev pub PutsCounted : {D F : Type 0} → DeskRules D F → (BookState → D) → EmbeddedState → Octets
    → EmbeddedState → ℕ → ℕ → Type 0
PutsCounted rules seen before octets after number count =
    ((number ≡ number_of Done) × (count ≡ length octets) × Puts rules seen before octets after)
    ⊎ ((number ≡ number_of Memory) × PutsFirst rules seen count before octets after)

-- the book as it is
abbrev pub whole : BookState → BookState
whole book = book

-- The next octets of the replies are written over the first ones of a room, so many as there are and as
-- it has. The others wait, and nothing else changes.
pub record TakesReplies (before : EmbeddedState) (room : Octets) (after : EmbeddedState)
    (written : Octets) (count : ℕ) : Type 0 where
  pub count_is : count ≡ min (length before.replies) (length room)
  pub written_is : written ≡ take count before.replies ++ drop count room
  pub rest : after ≡ record before { replies = drop count before.replies }
