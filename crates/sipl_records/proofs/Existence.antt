-- Sets of existence, and the others.
use Rattle.std.proofs.Common.{◌≡◌, ◌≤◌, Bool, true, false, ◌&&◌, ◌||◌, List, [], ◌∷◌, ◌++◌, map, length, Some, refl, ap, sym, ◌∙◌, if◌then◌else◌, arith, IsTrue, ◌↔◌, append_assoc}
use Rattle.std.specs.List.{Any, count_by, filter}
use Rattle.std.proofs.lemmas.List.Folds.{Any-from_list_any, list_any-append, list_any-from_Any}
use Rattle.sipl_names.specs.Labels.{Labels, is_within, same_name}
use Rattle.sipl_names.proofs.Public.{is_within-suffix}
use Rattle.sipl_records.specs.declared.data.Data.{Data}
use Rattle.sipl_records.specs.declared.data.Data.TheVariants.{Bare as data_bare}
use Rattle.sipl_records.specs.declared.kind.Kind.{Kind}
use Rattle.sipl_records.specs.declared.kind.Kind.TheVariants.{Exists}
use Rattle.sipl_records.specs.declared.record.Record.{Record}
use Rattle.sipl_records.specs.declared.record.Key.{Key}
use Rattle.sipl_records.specs.Sets.{data_of, exists_in, existence_of, has_key, has_kind, has_own_kind, is_existence, key_of, same_kind, set_of}
use Rattle.sipl_records.proofs.Sets.{data_of-is, data_of-append, data_of-filter_kept, data_of-filter_dropped, data_of-filter_owner}
use Rattle.sipl_records.proofs.Keys.{has_key-Decides, length-data_of}

-- the set of a key that is not of existence
pub set_of-data : (records : List Record) (key : Key) → is_existence key ≡ false → set_of records key ≡ data_of records key
set_of-data records key other = rw other refl

-- the set of a name's existence
pub set_of-existence : (records : List Record) (key : Key) → is_existence key ≡ true → set_of records key ≡ existence_of (exists_in records key.name)
set_of-existence records key of = rw of refl

both_true : (a b : Bool) → (a && b) ≡ true → b ≡ true
both_true true b h = h
both_true false b h = let never : false ≡ true = h in cc

-- no data are in a set of existence
pub own_kind-no_existence : (kind : Kind) (value : Data) → has_own_kind kind value ≡ true → same_kind kind Exists ≡ false
own_kind-no_existence Exists data_bare own = let never : false ≡ true = own in cc
own_kind-no_existence Exists _ own = let never : false ≡ true = own in cc
own_kind-no_existence _ value own = refl

pub has_key-no_existence : (key : Key) (r : Record) → has_key key r ≡ true → is_existence key ≡ false
has_key-no_existence key r has =
    own_kind-no_existence key.kind r.value (both_true (same_name r.owner key.name) (has_own_kind key.kind r.value) has)

not_false : (b : Bool) → (b ≡ true → ⊥) → b ≡ false
not_false true h = absurd (h refl)
not_false false h = refl

-- no record is in a set of existence
pub has_key-existence : (key : Key) (r : Record) → is_existence key ≡ true → has_key key r ≡ false
has_key-existence key r of = not_false (has_key key r) (λ has. let never : true ≡ false = sym of ∙ has_key-no_existence key r has in cc)

pub data_of-existence : (records : List Record) (key : Key) → is_existence key ≡ true → data_of records key ≡ []
data_of-existence [] key of = refl
data_of-existence (r ∷ records) key of = rw (has_key-existence key r of) (data_of-existence records key of)

-- nor is a record's key one of existence
pub key_of-no_existence : (r : Record) (key : Key) → key_of r ≡ Some key → is_existence key ≡ false
key_of-no_existence r key own = has_key-no_existence key r ((has_key-Decides key r).1 own)

-- a name exists in two lists of records joined where it does in one of them
pub exists_in-append : (a b : List Record) (name : Labels) → exists_in (a ++ b) name ≡ (exists_in a name || exists_in b name)
exists_in-append a b name = list_any-append (λ r. is_within r.owner name) a b

pub Any-weaken : {X : Type 0} (P Q : X → Type 0) → ((x : X) → P x → Q x) → (xs : List X) → Any P xs → Any Q xs
Any-weaken P Q weaker xs some = (some.0, some.1, some.2, some.3, weaker some.1 some.4)

-- a name exists where it or a name below it is the owner of a record
pub exists_in-owners : (records : List Record) (name : Labels) → IsTrue (exists_in records name) ↔ Any (λ r. (first : Labels) × (r.owner ≡ first ++ name)) records
exists_in-owners records name =
    (λ exists. Any-weaken (λ r. is_within r.owner name ≡ true) (λ r. (first : Labels) × (r.owner ≡ first ++ name)) (λ r within. (is_within-suffix r.owner name).0 within) records (Any-from_list_any (λ r. is_within r.owner name) records exists), λ some. list_any-from_Any (λ r. is_within r.owner name) records (Any-weaken (λ r. (first : Labels) × (r.owner ≡ first ++ name)) (λ r. is_within r.owner name ≡ true) (λ r below. (is_within-suffix r.owner name).1 below) records some))

within_above : (owner first name : Labels) → is_within owner (first ++ name) ≡ true → is_within owner name ≡ true
within_above owner first name within =
    let some = (is_within-suffix owner (first ++ name)).0 within in
    (is_within-suffix owner name).1 (some.0 ++ first, some.1 ∙ sym (append_assoc some.0 first name))

-- a name above one that exists does too
pub exists_in-above : (records : List Record) (first name : Labels) → exists_in records (first ++ name) ≡ true → exists_in records name ≡ true
exists_in-above records first name exists =
    list_any-from_Any (λ r. is_within r.owner name) records (Any-weaken (λ r. is_within r.owner (first ++ name) ≡ true) (λ r. is_within r.owner name ≡ true) (λ r within. within_above r.owner first name within) records (Any-from_list_any (λ r. is_within r.owner (first ++ name)) records exists))

-- a set by a filter, where it is not of existence
pub set_of-is : (records : List Record) (key : Key) → is_existence key ≡ false → set_of records key ≡ map (λ r. r.value) (filter (has_key key) records)
set_of-is records key other = set_of-data records key other ∙ data_of-is records key

pub length-set_of : (records : List Record) (key : Key) → is_existence key ≡ false → length (set_of records key) ≡ count_by (has_key key) records
length-set_of records key other = ap length (set_of-data records key other) ∙ length-data_of records key

-- a set of existence has at most one datum
few_existence : (exists : Bool) → length (existence_of exists) ≤ 1
few_existence true = omega arith
few_existence false = omega arith

pub length-existence : (records : List Record) (key : Key) → is_existence key ≡ true → length (set_of records key) ≤ 1
length-existence records key of = rw of (few_existence (exists_in records key.name))

pub set_of-append : (a b : List Record) (key : Key) → is_existence key ≡ false → set_of (a ++ b) key ≡ set_of a key ++ set_of b key
set_of-append a b key other = rw other (data_of-append a b key)

pub set_of-filter_kept : (p : Record → Bool) (key : Key) → is_existence key ≡ false → ((r : Record) → has_key key r ≡ true → p r ≡ true) → (records : List Record) → set_of (filter p records) key ≡ set_of records key
set_of-filter_kept p key other keeps records = rw other (data_of-filter_kept p key keeps records)

pub set_of-filter_dropped : (p : Record → Bool) (key : Key) → is_existence key ≡ false → ((r : Record) → has_key key r ≡ true → p r ≡ false) → (records : List Record) → set_of (filter p records) key ≡ []
set_of-filter_dropped p key other drops records = rw other (data_of-filter_dropped p key drops records)

pub set_of-filter_owner : (p : Labels → Bool) (records : List Record) (key : Key) → is_existence key ≡ false → set_of (filter (λ r. p r.owner) records) key ≡ (if p key.name then set_of records key else [])
set_of-filter_owner p records key other = rw other (data_of-filter_owner p records key)

-- the data of a set are of its key's kind
pub has_kind-own : (kind : Kind) (value : Data) → has_own_kind kind value ≡ true → has_kind kind value ≡ true
has_kind-own kind data_bare own = let never : false ≡ true = own in cc
has_kind-own kind _ own = own
