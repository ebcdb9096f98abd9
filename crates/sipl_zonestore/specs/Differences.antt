-- Where two lists of records differ.
use Rattle.std.specs.Prelude.{◌≡◌, Bool, true, not, List, filter}
use Rattle.sipl_names.specs.Labels.{Labels, is_within}
use Rattle.sipl_records.specs.declared.record.Record.{Record}
use Rattle.sipl_zonestore.specs.Store.{records_within}

-- the records of these owners
abbrev pub records_of : (Labels → Bool) → List Record → List Record
records_of owners records = filter (λ r. owners r.owner) records

-- the records of other owners
abbrev pub records_besides : (Labels → Bool) → List Record → List Record
records_besides owners records = filter (λ r. not (owners r.owner)) records

-- each of the owners is within the apex
abbrev pub AreWithin : Labels → (Labels → Bool) → Type 0
AreWithin apex owners = (name : Labels) → owners name ≡ true → is_within name apex ≡ true

-- the records within the apex are those of a text, but for these owners, which are within it too
pub record DifferAt (apex : Labels) (owners : Labels → Bool) (records text : List Record) : Type 0 where
  pub within : AreWithin apex owners
  pub same : records_besides owners (records_within apex records) ≡ records_besides owners text
