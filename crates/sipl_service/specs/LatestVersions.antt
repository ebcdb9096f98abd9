-- Where the latest versions of record sets are.
use Rattle.std.specs.Prelude.{◌≡◌, ◌≢◌, ℕ, Bool, false, ◌||◌, nat_eq, List, [], Option, None, Some, IfSome, if◌then◌else◌}
use Rattle.std.specs.Coded.{Coded, codes}
use Rattle.std.specs.Map.{lookup}
use Rattle.sipl_records.specs.Sets.{is_existence, key_of, same_key, set_of}
use Rattle.sipl_records.specs.declared.data.Data.{Data}
use Rattle.sipl_records.specs.declared.record.Key.{Key}
use Rattle.sipl_zonestore.specs.Store.{Store, number_in}
use Rattle.sipl_repair.specs.Codes.{queue_state_code}
use Rattle.sipl_book.specs.Book.{BookState}
use Rattle.sipl_book.specs.Calls.{after_look}
use Rattle.sipl_book.specs.declared.edit.Edit.{Edit}
use Rattle.sipl_book.specs.declared.edit.Edit.TheVariants.{Load, Unload, Add, Remove}
use Rattle.sipl_service.specs.declared.latest_versions.Latest.{Latest}

-- the latest version of a key's set: it has the set's number, and the set is one of records, and not empty
pub record IsLatestOf (key : Key) (n : ℕ) (content : List Data) (latest : Latest) : Type 0 where
  pub of_records : is_existence key ≡ false
  pub number : latest.number ≡ n
  pub taken : n ≢ 0
  pub filled : content ≢ []

-- each latest version is that of its key's set; sets of existence have none, since their numbers tell them
abbrev pub AreLatestOf : Store → (Key → Option Latest) → Type 0
AreLatestOf store latest_versions = (key : Key)
    → IfSome (latest_versions key) (IsLatestOf key (number_in store key) (set_of store.zones.records key))

-- what is under the lock: a book, the latest versions of its sets by their keys, and whether the
-- service was stopped
pub record SharedState : Type 0 where
  pub book : BookState
  pub latest_versions : List (Key × Latest)
  pub is_stopped : Bool

pub shared_code : Coded SharedState
shared_code = hlevel (codes, queue_state_code)

-- the latest version of a key's set
abbrev pub latest_of : List (Key × Latest) → Key → Option Latest
latest_of latest_versions key = lookup (same_key key) latest_versions

-- the key of the set of records that an edit of one record may change; none for an edit of a zone, and
-- for a record that is in no set
abbrev pub key_edited : Edit → Option Key
key_edited (Add r) = key_of r
key_edited (Remove r) = key_of r
key_edited (Load zone) = None
key_edited (Unload apex) = None

-- whether there is a latest version, and of this number
abbrev pub is_latest : ℕ → Option Latest → Bool
is_latest number None = false
is_latest number (Some latest) = nat_eq latest.number number

-- the latest version, where it is of this number
abbrev pub latest_at : ℕ → Option Latest → Option Latest
latest_at number latest = if is_latest number latest then latest else None

-- a book after a call for the latest version of its set of this number: a look more, where the set is not
-- empty and has no version yet
abbrev pub book_after_latest : ℕ → Option Latest → BookState → BookState
book_after_latest number latest book = if nat_eq number 0 || is_latest number latest then book else after_look book
