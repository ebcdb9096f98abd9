-- The records of a zone are taken in, one after another.
use Rattle.std.proofs.Common.{◌≡◌, ℕ, suc, ◌+◌, ◌<◌, Bool, true, false, ◌&&◌, ◌||◌, List, [], ◌∷◌, ◌++◌, Option, Some, Result, Ok, Err, ◌⊎◌, inl, inr, length, get_or, nat_le, refl, sym, ap, subst, ◌∙◌, arith, append_assoc, append-nil}
use Rattle.std.specs.Prelude.{count_by, if◌then◌else◌}
use Rattle.std.specs.List.{AllByRecursion, AllPairs, list_all, list_any}
use Rattle.std.proofs.lemmas.Bool.Decides.{nat_tests}
use Rattle.std.proofs.lemmas.List.Folds.{list_all-append, list_any-append}
use Rattle.std.proofs.lemmas.List.Sums.{sum_by-append, sum_by-cons}
use Rattle.sipl_names.specs.Labels.{Labels, is_within, same_name}
use Rattle.sipl_names.proofs.Public.{same_name_decides}
use Rattle.sipl_records.specs.Sets.{conflicts, has_same_kind, same_record, shares_set}
use Rattle.sipl_records.specs.declared.data.Data.{Data}
use Rattle.sipl_records.specs.declared.data.Data.TheVariants.{Bare}
use Rattle.sipl_records.specs.declared.record.Record.{Record}
use Rattle.sipl_records.proofs.Public.{same_record-sym}
use Rattle.sipl_masterfile.specs.Entries.{Entry}
use Rattle.sipl_masterfile.specs.RecordPrint.{IsRecord, record_fields}
use Rattle.sipl_masterfile.specs.Readers.{◌>>=◌}
use Rattle.sipl_masterfile.specs.ZoneText.{zone_with}
use Rattle.sipl_masterfile.specs.Zones.{IsZone, Reading, after_entries, after_entry, after_fields, has_repeats, take_in}
use Rattle.sipl_masterfile.specs.declared.fault.ZoneCause.{ZoneCause}
use Rattle.sipl_masterfile.specs.declared.fault.ZoneFault.{ZoneFault}
use Rattle.sipl_laws.proofs.LineEntries.{AreOf, Printing}

first_false : (a b : Bool) → (a || b) ≡ false → a ≡ false
first_false true b none = none
first_false false b none = refl

second_false : (a b : Bool) → (a || b) ≡ false → b ≡ false
second_false true b none = absurd (cc none)
second_false false b none = none

first_true : (a b : Bool) → (a && b) ≡ true → a ≡ true
first_true true b both = refl
first_true false b both = both

second_true : (a b : Bool) → (a && b) ≡ true → b ≡ true
second_true true b both = both
second_true false b both = absurd (cc both)

-- a record that is among others passes a test that no record or each one passes

none-among : (p : Record → Bool) (before : List Record) (r : Record) (others : List Record) → list_any p (before ++ r ∷ others) ≡ false → p r ≡ false
none-among p before r others none =
    first_false (p r) (list_any p others) (second_false (list_any p before) (list_any p (r ∷ others)) (sym (list_any-append p before (r ∷ others)) ∙ none))

all-among : (p : Record → Bool) (before : List Record) (r : Record) (others : List Record) → list_all p (before ++ r ∷ others) ≡ true → p r ≡ true
all-among p before r others all =
    first_true (p r) (list_all p others) (second_true (list_all p before) (list_all p (r ∷ others)) (sym (list_all-append p before (r ∷ others)) ∙ all))

-- a test fails for each record and each later one
abbrev Apart : (Record → Record → Bool) → List Record → Type 0
Apart p [] = Unit {0}
Apart p (r ∷ records) = (list_any (p r) records ≡ false) × Apart p records

apart-before : (p : Record → Record → Bool) → ((a b : Record) → p a b ≡ p b a) → (before : List Record) (r : Record) (others : List Record) → Apart p (before ++ r ∷ others) → list_any (p r) before ≡ false
apart-before p swapped [] r others apart = refl
apart-before p swapped (first ∷ before) r others apart =
    let here : p r first ≡ false = swapped r first ∙ none-among (p first) before r others apart.0 in
    rw here (apart-before p swapped before r others apart.1)

apart-repeats : (records : List Record) → has_repeats records ≡ false → Apart same_record records
apart-repeats [] distinct = tt
apart-repeats (r ∷ records) distinct =
    (first_false (list_any (same_record r) records) (has_repeats records) distinct, apart-repeats records (second_false (list_any (same_record r) records) (has_repeats records) distinct))

none-at : (p : Record → Bool) (records : List Record) → ((k : ℕ) (d : Record) → k < length records → p (get_or records k d) ≡ false) → list_any p records ≡ false
none-at p [] each = refl
none-at p (r ∷ records) each =
    let here : p r ≡ false = each 0 r (omega arith) in
    rw here (none-at p records (λ k d inside. each (suc k) d (omega (arith, inside))))

apart-aliases : (records : List Record) → AllPairs (λ a b. conflicts a b ≡ false) records → Apart conflicts records
apart-aliases [] pairs = tt
apart-aliases (r ∷ records) pairs = (
  none-at (conflicts r) records (λ k d inside. pairs 0 (suc k) d (omega arith) (omega (arith, inside))),
  apart-aliases records (λ i j d before inside. pairs (suc i) (suc j) d (omega (arith, before)) (omega (arith, inside))),
)

-- a record shares a set with itself, or with none
own-kind : (value : Data) → (has_same_kind value value ≡ true) ⊎ ((other : Data) → has_same_kind value other ≡ false)
own-kind Bare = inr (λ other. refl)
own-kind _ = inl refl

and-false : (a : Bool) → (a && false) ≡ false
and-false true = refl
and-false false = refl

none-counted : (p : Record → Bool) → ((r : Record) → p r ≡ false) → (records : List Record) → count_by p records ≡ 0
none-counted p none [] = refl
none-counted p none (r ∷ records) = rw (none r) (none-counted p none records)

-- one more record is in a set that has less than 32
has-space : (before : List Record) (r : Record) (others : List Record) → nat_le (count_by (shares_set r) (before ++ r ∷ others)) 32 ≡ true → nat_le 32 (count_by (shares_set r) before) ≡ false
has-space before r others fits =
    elim (own-kind r.value) [
      | inl kind_is ↦
          let own : shares_set r r ≡ true = ap (λ (b : Bool). b && has_same_kind r.value r.value) ((same_name_decides r.owner r.owner).1 refl) ∙ kind_is in
          let whole : count_by (shares_set r) (before ++ r ∷ others) ≡ count_by (shares_set r) before + count_by (shares_set r) (r ∷ others) = sum_by-append (λ x. if shares_set r x then 1 else 0) before (r ∷ others) in
          let one : count_by (shares_set r) (r ∷ others) ≡ 1 + count_by (shares_set r) others = sum_by-cons (λ x. if shares_set r x then 1 else 0) r others ∙ ap (λ (b : Bool). (if b then 1 else 0) + count_by (shares_set r) others) own in
          grind (arith, nat_tests)
      | inr none ↦
          let zero_is : count_by (shares_set r) before ≡ 0 = none-counted (shares_set r) (λ x. ap (λ (b : Bool). same_name r.owner x.owner && b) (none x.value) ∙ and-false (same_name r.owner x.owner)) before in
          rw zero_is refl
    ]

-- a record of a zone is taken in after those before it
taken : Printing → (apex : Labels) (before : List Record) (r : Record) (others : List Record) → IsZone (zone_with apex (before ++ r ∷ others) 0 0) → take_in r (zone_with apex before 0 0) ≡ Ok (zone_with apex (before ++ r ∷ []) 0 0)
taken printing apex before r others is =
    let inside : is_within r.owner apex ≡ true = all-among (λ x. is_within x.owner apex) before r others is.within in
    let new : list_any (same_record r) before ≡ false = apart-before same_record same_record-sym before r others (apart-repeats (before ++ r ∷ others) is.distinct) in
    let apart : list_any (conflicts r) before ≡ false = apart-before conflicts printing.conflicts_swapped before r others (apart-aliases (before ++ r ∷ others) is.aliases) in
    let space : nat_le 32 (count_by (shares_set r) before) ≡ false = has-space before r others (all-among (λ x. nat_le (count_by (shares_set x) (before ++ r ∷ others)) 32) before r others is.fits) in
    rw (inside, new, apart, space) refl

abbrev reading_of : Labels → Labels → Option Labels → List Record → Reading
reading_of apex origin owner records = record { origin = origin; owner = owner; zone = zone_with apex records 0 0 }

one-entry : Printing → (apex origin : Labels) (owner : Option Labels) (before : List Record) (r : Record) (others : List Record) (entry : Entry) → IsRecord r → entry.is_indented ≡ false → entry.content ≡ Ok (record_fields r) → IsZone (zone_with apex (before ++ r ∷ others) 0 0) → after_entry entry (reading_of apex origin owner before) ≡ Ok (reading_of apex origin (Some r.owner) (before ++ r ∷ []))
one-entry printing apex origin owner before r others entry fit plain content is =
    let reading : Reading = reading_of apex origin owner before in
    ap (λ given. given >>= (λ fields. after_fields entry.is_indented fields reading)) content
    ∙ ap (λ (b : Bool). after_fields b (record_fields r) reading) plain
    ∙ printing.fields r reading fit
    ∙ ap (λ zone. zone >>= (λ it. Ok (record { origin = origin; owner = Some r.owner; zone = it }))) (taken printing apex before r others is)

abbrev after_one : Entry → List Entry → Result Reading ZoneCause → Result Reading ZoneFault
after_one entry entries given = elim given [
  | Ok next ↦ after_entries entries next
  | Err cause ↦ Err (record { line = entry.line; cause = cause })
]

-- the entries of a zone's records are read as these, whatever origin and owner were before them
pub entries-taken : Printing → (apex origin : Labels) (owner : Option Labels) (before records : List Record) (entries : List Entry) → AllByRecursion IsRecord records → AreOf records entries → IsZone (zone_with apex (before ++ records) 0 0) → (last : Option Labels) × (after_entries entries (reading_of apex origin owner before) ≡ Ok (reading_of apex origin last (before ++ records)))
entries-taken printing apex origin owner before [] [] all are is =
    (owner, ap (λ (rs : List Record). Ok (reading_of apex origin owner rs)) (sym (append-nil before)))
entries-taken printing apex origin owner before [] (entry ∷ entries) all are is = absurd are
entries-taken printing apex origin owner before (r ∷ records) [] all are is = absurd are
entries-taken printing apex origin owner before (r ∷ records) (entry ∷ entries) all are is =
    let first = one-entry printing apex origin owner before r records entry all.0 are.0 are.1 is in
    let joins : (before ++ r ∷ []) ++ records ≡ before ++ r ∷ records = append_assoc before (r ∷ []) records in
    let rest = entries-taken printing apex origin (Some r.owner) (before ++ r ∷ []) records entries all.1 are.2 (subst (λ (rs : List Record). IsZone (zone_with apex rs 0 0)) (sym joins) is) in (
      rest.0,
      ap (λ given. after_one entry entries given) first ∙ rest.1 ∙ ap (λ (rs : List Record). Ok (reading_of apex origin rest.0 rs)) joins,
    )
