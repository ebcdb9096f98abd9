-- Searches for a key.
use Rattle.std.proofs.Common.{◌≡◌, true, ◌||◌, List, [], ◌∷◌, Option, None, Some, refl, sym, ◌∙◌}
use Rattle.std.specs.List.{list_any, filter_map}
use Rattle.std.proofs.lemmas.Bool.Decides.{same_from_decides}
use Rattle.sipl_records.specs.declared.record.Record.{Record}
use Rattle.sipl_records.specs.declared.record.Key.{Key}
use Rattle.sipl_records.specs.contracts.record.KeyPartialEq.TheImpl.{eq-value}
use Rattle.sipl_records.specs.Sets.{has_key, same_key, key_of}
use Rattle.sipl_records.proofs.Public.{same_key-Decides, is_key, has_key-key_of, same_key_decides}

pub same_key-trans : (a b c : Key) → same_key a b ≡ true → same_key b c ≡ true → same_key a c ≡ true
same_key-trans a b c ab bc = (same_key-Decides a c).1 ((same_key-Decides a b).0 ab ∙ (same_key-Decides b c).0 bc)

pub derived : (a b : Key) → eq-value.it a b ≡ same_key a b
derived a b = same_from_decides (eq-value.it a b) (same_key a b) (same_key_decides a b) (same_key-Decides a b)

-- a search by `==`
pub contains-is : (keys : List Key) (key : Key) → list_any (λ other. eq-value.it other key) keys ≡ list_any (λ other. same_key other key) keys
contains-is [] key = refl
contains-is (first ∷ keys) key = λ i. derived first key i || contains-is keys key i

among_step : (key : Key) (own : Option Key) (r : Record) (records : List Record) → key_of r ≡ own → list_any (λ other. same_key other key) (filter_map key_of (r ∷ records)) ≡ (is_key key own || list_any (λ other. same_key other key) (filter_map key_of records))
among_step key None r records is = rw is refl
among_step key (Some own) r records is = rw is refl

-- a key is among those of a list of records where a record is in its set
pub list_any-filter_map : (key : Key) (records : List Record) → list_any (λ other. same_key other key) (filter_map key_of records) ≡ list_any (has_key key) records
list_any-filter_map key [] = refl
list_any-filter_map key (r ∷ records) =
    among_step key (key_of r) r records refl ∙ (λ i. sym (has_key-key_of key r) i || list_any-filter_map key records i)
