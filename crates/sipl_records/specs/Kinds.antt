-- The kinds of record sets: their mnemonics in master files (RFC 1035, 3.2.2 and 5.1), and their places among all.
use Rattle.std.specs.Prelude.{ℕ, List, codes}
use Rattle.sipl_records.specs.declared.kind.Kind.{Kind}
use Rattle.sipl_records.specs.declared.kind.Kind.TheVariants.{Address4, Address6, Alias, Service, Pointer, Exists}

-- the mnemonic of a record's type; existence, which is no type, has a word of its own
abbrev pub text_of_kind : Kind → List ℕ
text_of_kind Address4 = codes "A"
text_of_kind Address6 = codes "AAAA"
text_of_kind Alias = codes "CNAME"
text_of_kind Service = codes "SRV"
text_of_kind Pointer = codes "NAPTR"
text_of_kind Exists = codes "EXISTS"

-- the place of a kind among all
abbrev pub index_of : Kind → ℕ
index_of Address4 = 0
index_of Address6 = 1
index_of Alias = 2
index_of Service = 3
index_of Pointer = 4
index_of Exists = 5

-- how many kinds there are
abbrev pub kind_count : ℕ
kind_count = 6
