-- A whole session on octets.
use Rattle.std.specs.Prelude.{◌≡◌, ◌⊎◌, ◌≤◌, ◌<◌, ◌++◌, ℕ, [], length, drop, Some, Result, Ok, Err, OnOk, OnErr}
use Rattle.std.specs.Str.{IsUtf8}
use Rattle.sipl_names.specs.Labels.{Octets}
use Rattle.sipl_book.specs.Book.{new_book}
use Rattle.sipl_lines.specs.Items.{items_of}
use Rattle.sipl_lines.specs.PlainDesk.{PlainState, plain_of, plain_rules}
use Rattle.sipl_lines.specs.Replies.{Serves}
use Rattle.sipl_lines.specs.Session.{SessionState, new_session, session_protocol}
use Rattle.sipl_lines.specs.Settings.{limits_of, settings_of}
use Rattle.sipl_lines.specs.SettingsFault.{Fault}
use Rattle.sipl_lines.specs.Streams.{ServesFirst}
use Rattle.sipl_lines.specs.declared.server.Ended.{Ended}
use Rattle.sipl_lines.specs.declared.server.ServeFault.{ServeFault}
use Rattle.sipl_lines.specs.declared.settings.Settings.{Settings}
use Rattle.siploc_c.specs.Status.{number_of, status_of}
use Rattle.siploc_c.specs.declared.status.Status.{Status}
use Rattle.siploc_c.specs.declared.status.Status.TheVariants as status

-- the settings of a text are refused: it is not UTF-8, or has no settings; or an allocation failed
abbrev pub RefusesSettings : Octets → Status → Type 0
RefusesSettings text refusal =
    ((refusal ≡ status.Settings)
    × ((¬ IsUtf8 text) ⊎ ((fault : Fault) × (settings_of text ≡ Err fault))))
    ⊎ (refusal ≡ status.Memory)

-- From the first state the plain machine gives this text for an input: all replies where the session has
-- ended, else a prefix of them. The other state is the last.
pub record HasReplies (before after : PlainState) (input : Octets) (ending : Result Ended ServeFault)
    (text : Octets) : Type 0 where
  pub session : SessionState PlainState
  pub desk : session.desk ≡ after
  pub served : OnOk ending (Serves (session_protocol plain_rules) (new_session before) (items_of input)
      text session)
  pub prefix : OnErr ending (ServesFirst (session_protocol plain_rules) (new_session before)
      (items_of input) (Some []) session (Some text))

-- A text is written over the first octets of a room where it fits, else nothing is: the status of a call
-- that then ends so.
pub record WritesText (text room written : Octets) (ending result : Status) : Type 0 where
  pub fits : length text ≤ length room
      → (result ≡ ending) × (written ≡ text ++ drop (length text) room)
  pub too_long : length room < length text → (result ≡ status.NoRoom) × (written ≡ room)

-- The lines of an input are served at a new book with these settings. The replies, whose length is the
-- count, are written where they fit.
pub record RunsWith (settings : Settings) (input room : Octets) (number : ℕ) (written : Octets)
    (count : ℕ) : Type 0 where
  pub after : PlainState
  pub ending : Result Ended ServeFault
  pub text : Octets
  pub result : Status
  pub replies : HasReplies (plain_of (new_book settings.abilities settings.held (limits_of settings)))
      after input ending text
  pub counted : count ≡ length text
  pub writes : WritesText text room written (status_of ending) result
  pub number_is : number ≡ number_of result

-- nothing is written, since the settings are refused
pub record RunsNothing (text room : Octets) (number : ℕ) (written : Octets) (count : ℕ) : Type 0 where
  pub refusal : Status
  pub refused : RefusesSettings text refusal
  pub number_is : number ≡ number_of refusal
  pub written_is : written ≡ room
  pub count_is : count ≡ 0

-- the lines are served at a new book with the settings of the text, or these are refused
abbrev pub RunsLines : Octets → Octets → Octets → ℕ → Octets → ℕ → Type 0
RunsLines text input room number written count =
    ((settings : Settings) × (settings_of text ≡ Ok settings)
    × RunsWith settings input room number written count)
    ⊎ RunsNothing text room number written count
