-- The records of a zone are those that its entries state.
use Rattle.std.proofs.Common.{◌≡◌, ◌+◌, Bool, true, false, not, List, [], ◌∷◌, ◌++◌, Option, None, Some, Result, Ok, Err, IfOk, length, refl, sym, ap, ◌∙◌, subst, arith, append_assoc, append-nil, length-append, if◌then◌else◌, nat_le, filter, ◌||◌}
use Rattle.std.specs.Prelude.{count_by}
use Rattle.std.specs.List.{list_any}
use Rattle.std.proofs.lemmas.List.Elements.{filter-append}
use Rattle.std.proofs.lemmas.List.Sums.{sum_by-append}
use Rattle.sipl_names.specs.Labels.{Octets, Labels, is_within}
use Rattle.sipl_records.specs.Sets.{same_record, conflicts, shares_set}
use Rattle.sipl_records.specs.Unique.{unique}
use Rattle.sipl_records.specs.declared.record.Record.{Record}
use Rattle.sipl_records.proofs.Public.{unique-append, equivalence_from_decides, transitive_from_equivalence, same_record-Decides, same_record-sym}
use Rattle.sipl_masterfile.specs.Entries.{Entry, entries_of}
use Rattle.sipl_masterfile.specs.Readers.{◌>>=◌}
use Rattle.sipl_masterfile.specs.StatedRecords.{records_stated, records_in}
use Rattle.sipl_masterfile.specs.Statements.{statement_of}
use Rattle.sipl_masterfile.specs.Zones.{Zone, Reading, take_in, after_statement, after_entries, first_reading, zone_of}
use Rattle.sipl_masterfile.specs.declared.fault.ZoneCause.{ZoneCause}
use Rattle.sipl_masterfile.specs.declared.fault.ZoneCause.TheVariants.{AliasBesideData, SetFull}
use Rattle.sipl_masterfile.specs.declared.fault.ZoneFault.{ZoneFault}
use Rattle.sipl_masterfile.specs.declared.statement.Statement.{Statement}
use Rattle.sipl_masterfile.specs.declared.statement.Statement.TheVariants as statement

-- the records whose owner is within the apex
abbrev pub within : Labels → List Record → List Record
within apex records = filter (λ r. is_within r.owner apex) records

-- the zone of these stated records
pub record IsOf (apex : Labels) (stated : List Record) (zone : Zone) : Type 0 where
  pub apex_is : zone.apex ≡ apex
  pub records : zone.records ≡ unique same_record (within apex stated)
  pub outside : zone.outside ≡ count_by (λ r. not (is_within r.owner apex)) stated
  pub repeated : length zone.records + zone.repeated ≡ length (within apex stated)

-- one more record within the apex, or outside
within-more : (apex : Labels) (stated : List Record) (r : Record) (b : Bool) → is_within r.owner apex ≡ b → within apex (stated ++ r ∷ []) ≡ (if b then within apex stated ++ r ∷ [] else within apex stated)
within-more apex stated r true is = filter-append (λ r. is_within r.owner apex) stated (r ∷ []) ∙ rw is refl
within-more apex stated r false is = filter-append (λ r. is_within r.owner apex) stated (r ∷ []) ∙ rw is (append-nil (within apex stated))

outside-more : (apex : Labels) (stated : List Record) (r : Record) (b : Bool) → is_within r.owner apex ≡ b → count_by (λ r. not (is_within r.owner apex)) (stated ++ r ∷ []) ≡ count_by (λ r. not (is_within r.owner apex)) stated + (if b then 0 else 1)
outside-more apex stated r true is = sum_by-append (λ r. if not (is_within r.owner apex) then 1 else 0) stated (r ∷ []) ∙ rw is refl
outside-more apex stated r false is = sum_by-append (λ r. if not (is_within r.owner apex) then 1 else 0) stated (r ∷ []) ∙ rw is refl

same-either_way : (records : List Record) (r : Record) → list_any (λ x. same_record x r) records ≡ list_any (same_record r) records
same-either_way [] r = refl
same-either_way (x ∷ records) r = λ i. same_record-sym x r i || same-either_way records r i

unique-more : (records : List Record) (r : Record) (b : Bool) → list_any (same_record r) (unique same_record records) ≡ b → unique same_record (records ++ r ∷ []) ≡ (if b then unique same_record records else unique same_record records ++ r ∷ [])
unique-more records r b is =
    unique-append same_record (transitive_from_equivalence same_record (equivalence_from_decides same_record same_record-Decides)) records r
    ∙ ap (λ b. if b then unique same_record records else unique same_record records ++ r ∷ []) (same-either_way (unique same_record records) r ∙ is)

-- one more record is taken in, or left out and counted
pub taken-more : (apex : Labels) (stated : List Record) (zone : Zone) (r : Record) → IsOf apex stated zone → IfOk (take_in r zone) (λ next. IsOf apex (stated ++ r ∷ []) next)
taken-more apex stated zone r so =
    at (is_within r.owner zone.apex) (list_any (same_record r) zone.records) (list_any (conflicts r) zone.records) (nat_le 32 (count_by (shares_set r) zone.records)) (ap (λ a. is_within r.owner a) (sym so.apex_is)) (ap (list_any (same_record r)) (sym so.records))
  where
    at : (w b c n : Bool) → is_within r.owner apex ≡ w → list_any (same_record r) (unique same_record (within apex stated)) ≡ b → IfOk (if not w then Ok (record zone { outside = zone.outside + 1 }) else (if b then Ok (record zone { repeated = zone.repeated + 1 }) else (if c then Err AliasBesideData else (if n then Err SetFull else Ok (record zone { records = zone.records ++ r ∷ [] }))))) (λ next. IsOf apex (stated ++ r ∷ []) next)
    at false b c n here again = record {
      apex_is = so.apex_is;
      records = so.records ∙ ap (unique same_record) (sym (within-more apex stated r false here));
      outside = omega (arith, so.outside, outside-more apex stated r false here);
      repeated = so.repeated ∙ ap length (sym (within-more apex stated r false here));
    }
    at true true c n here again = record {
      apex_is = so.apex_is;
      records = so.records ∙ sym (unique-more (within apex stated) r true again) ∙ ap (unique same_record) (sym (within-more apex stated r true here));
      outside = omega (arith, so.outside, outside-more apex stated r true here);
      repeated = omega (arith, so.repeated, ap length (within-more apex stated r true here), length-append (within apex stated) (r ∷ []));
    }
    at true false true n here again = tt
    at true false false true here again = tt
    at true false false false here again = record {
      apex_is = so.apex_is;
      records = ap (λ records. records ++ r ∷ []) so.records ∙ sym (unique-more (within apex stated) r false again) ∙ ap (unique same_record) (sym (within-more apex stated r true here));
      outside = omega (arith, so.outside, outside-more apex stated r true here);
      repeated = omega (arith, so.repeated, ap length (within-more apex stated r true here), length-append (within apex stated) (r ∷ []), length-append zone.records (r ∷ []));
    }

-- what a text leaves that is read on from here
abbrev read_on : Entry → List Entry → Result Reading ZoneCause → Result Reading ZoneFault
read_on entry entries read = elim read [
  | Ok next ↦ after_entries entries next
  | Err cause ↦ Err (record { line = entry.line; cause = cause })
]

-- the records of the entries are taken in one after another
pub entries-more : (apex : Labels) (entries : List Entry) (origin : Labels) (owner : Option Labels) (zone : Zone) (stated : List Record) → IsOf apex stated zone → IfOk (after_entries entries (record { origin = origin; owner = owner; zone = zone })) (λ final. IsOf apex (stated ++ records_stated origin owner entries) final.zone)
entries-more apex [] origin owner zone stated so = subst (λ records. IsOf apex records zone) (sym (append-nil stated)) so
entries-more apex (entry ∷ entries) origin owner zone stated so = at_content (λ origin owner zone stated so. entries-more apex entries origin owner zone stated so) entry.content
  where
    More : Type 0
    More = (origin : Labels) (owner : Option Labels) (zone : Zone) (stated : List Record) → IsOf apex stated zone → IfOk (after_entries entries (record { origin = origin; owner = owner; zone = zone })) (λ final. IsOf apex (stated ++ records_stated origin owner entries) final.zone)

    reading : Reading
    reading = record { origin = origin; owner = owner; zone = zone }

    stated_then : Result Statement ZoneCause → List Record
    stated_then found = elim found [
      | Ok told ↦ elim told [
        | statement.Record r ↦ r ∷ records_stated origin (Some r.owner) entries
        | statement.Origin name ↦ records_stated name owner entries
        | statement.Ttl ↦ records_stated origin owner entries
      ]
      | Err cause ↦ []
    ]

    at_taken : More → (r : Record) (taken : Result Zone ZoneCause) → IfOk taken (λ next. IsOf apex (stated ++ r ∷ []) next) → IfOk (read_on entry entries (taken >>= (λ next. Ok (record { origin = origin; owner = Some r.owner; zone = next })))) (λ final. IsOf apex (stated ++ r ∷ records_stated origin (Some r.owner) entries) final.zone)
    at_taken more r (Err cause) next_so = tt
    at_taken more r (Ok next) next_so =
        subst (λ all. IfOk (after_entries entries (record { origin = origin; owner = Some r.owner; zone = next })) (λ final. IsOf apex all final.zone)) (append_assoc stated (r ∷ []) (records_stated origin (Some r.owner) entries))
        (more origin (Some r.owner) next (stated ++ r ∷ []) next_so)

    at_statement : More → (found : Result Statement ZoneCause) → IfOk (read_on entry entries (found >>= (λ told. after_statement told reading))) (λ final. IsOf apex (stated ++ stated_then found) final.zone)
    at_statement more (Err cause) = tt
    at_statement more (Ok (statement.Record r)) = at_taken more r (take_in r zone) (taken-more apex stated zone r so)
    at_statement more (Ok (statement.Origin name)) = more name owner zone stated so
    at_statement more (Ok statement.Ttl) = more origin owner zone stated so

    at_content : More → (content : Result (List Octets) ZoneCause) → IfOk (read_on entry entries (content >>= (λ fields. statement_of entry.is_indented fields origin owner >>= (λ told. after_statement told reading)))) (λ final. IsOf apex (stated ++ stated_then (content >>= (λ fields. statement_of entry.is_indented fields origin owner))) final.zone)
    at_content more (Err cause) = tt
    at_content more (Ok fields) = at_statement more (statement_of entry.is_indented fields origin owner)

-- the records of a text that is read as a whole
pub zone-stated : (apex : Labels) (entries : List Entry) → IfOk (after_entries entries (first_reading apex)) (λ final. IsOf apex (records_stated apex None entries) final.zone)
zone-stated apex entries =
    entries-more apex entries apex None (first_reading apex).zone [] (record { apex_is = refl; records = refl; outside = refl; repeated = refl })

pub zone_of-stated : (text : Octets) (apex : Labels) (zone : Zone) → zone_of text apex ≡ Ok zone → IsOf apex (records_in text apex) zone
zone_of-stated text apex zone is = at (after_entries (entries_of text) (first_reading apex)) (zone-stated apex (entries_of text)) is
  where
    at : (read : Result Reading ZoneFault) → IfOk read (λ final. IsOf apex (records_in text apex) final.zone) → ◌≡◌ {A = Result Zone ZoneFault} (elim read [ Ok reading ↦ Ok reading.zone | Err fault ↦ Err fault ]) (Ok zone) → IsOf apex (records_in text apex) zone
    at (Ok reading) so is = let same : reading.zone ≡ zone = cc is in subst (λ found. IsOf apex (records_in text apex) found) same so
    at (Err fault) so is = absurd (cc is)
