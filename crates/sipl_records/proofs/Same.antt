-- `==` is true exactly where the values are equal: for data, records, keys and addresses.
use Rattle.std.specs.Prelude.{◌≡◌}
use Rattle.std.specs.Bool.{Decides, ◌==◌}
use Rattle.std.proofs.Common.{Bool, true, false, ◌&&◌, refl, ap, sym, rules}
use Rattle.sipl_names.specs.Labels.{same_name}
use Rattle.sipl_names.proofs.Public.{same_name_decides}
use Rattle.sipl_records.specs.declared.address.Address.{Address}
use Rattle.sipl_records.specs.declared.data.Data.{Data}
use Rattle.sipl_records.specs.declared.data.Data.TheVariants.{Address4, Address6, Alias, Service, Pointer, Bare}
use Rattle.sipl_records.specs.declared.record.Record.{Record}
use Rattle.sipl_records.specs.declared.record.Key.{Key}
use Rattle.sipl_records.specs.contracts.address.AddressPartialEq.TheImpl.{eq-value as address_eq}
use Rattle.sipl_records.specs.contracts.data.DataPartialEq.TheImpl.{eq-value as data_eq}
use Rattle.sipl_records.specs.contracts.record.RecordPartialEq.TheImpl.{eq-value as record_eq}
use Rattle.sipl_records.specs.contracts.record.KeyPartialEq.TheImpl.{eq-value as key_eq}
use Rattle.sipl_records.specs.Sets.{same_data, same_record, same_octets}
use Rattle.sipl_records.proofs.SameData.{same_data-Decides, same_record-Decides}
use Rattle.std.proofs.Math.Bool.{and_assoc}

nested_4 : (a b c d : Bool) → (a && (b && (c && d))) ≡ (a && b && c && d)
nested_4 true b c d = sym (and_assoc b c d)
nested_4 false b c d = refl

nested_5 : (a b c d e : Bool) → (a && (b && (c && (d && e)))) ≡ (a && b && c && d && e)
nested_5 true b c d e = nested_4 b c d e
nested_5 false b c d e = refl

nested_6 : (a b c d e f : Bool) → (a && (b && (c && (d && (e && f))))) ≡ (a && b && c && d && e && f)
nested_6 true b c d e f = nested_5 b c d e f
nested_6 false b c d e f = refl

-- `==` of two data
pub same_data_is : (a b : Data) → data_eq.it a b ≡ same_data a b
same_data_is (Address4 m) (Address4 n) = refl
same_data_is (Address6 m) (Address6 n) = refl
same_data_is (Alias a) (Alias b) = refl
same_data_is (Service p w o t) (Service p' w' o' t') = nested_4 (p == p') (w == w') (o == o') (same_name t t')
same_data_is (Pointer o p f s r t) (Pointer o' p' f' s' r' t') =
    nested_6 (o == o') (p == p') (same_octets f f') (same_octets s s') (same_octets r r') (same_name t t')
same_data_is Bare Bare = refl
same_data_is _ _ = refl

pub same_data_decides : (a b : Data) → Decides (data_eq.it a b) (a ≡ b)
same_data_decides a b = rw (same_data_is a b) (same_data-Decides a b)

-- `==` of two records
pub same_record_is : (a b : Record) → record_eq.it a b ≡ same_record a b
same_record_is a b = ap (λ same. same_name a.owner b.owner && same) (same_data_is a.value b.value)

pub same_record_decides : (a b : Record) → Decides (record_eq.it a b) (a ≡ b)
same_record_decides a b = rw (same_record_is a b) (same_record-Decides a b)

-- `==` of two keys
pub same_key_decides : (a b : Key) → Decides (key_eq.it a b) (a ≡ b)
same_key_decides a b = search (rules, same_name_decides)

-- `==` of two addresses
pub same_address_decides : (a b : Address) → Decides (address_eq.it a b) (a ≡ b)
same_address_decides a b = search rules
