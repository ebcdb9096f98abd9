-- Equal keys, and the key of a record's set.
use Rattle.std.proofs.Common.{◌≡◌, ℕ, nat_eq, Bool, true, false, ◌&&◌, List, Option, None, Some, option_map, refl, ap, sym, ◌∙◌, length}
use Rattle.std.specs.Option.{option_map_or}
use Rattle.std.specs.List.{count_by, filter}
use Rattle.std.specs.Bool.{Decides}
use Rattle.std.specs.Cmp.{IsEquivalence, unsigned_Decides}
use Rattle.std.proofs.Math.Bool.{and-false}
use Rattle.std.proofs.lemmas.Bool.Decides.{Decides-and, Decides-like, same_from_decides}
use Rattle.sipl_names.specs.Labels.{same_name}
use Rattle.sipl_names.proofs.Public.{same_name_decides}
use Rattle.sipl_records.specs.declared.kind.Kind.{Kind}
use Rattle.sipl_records.specs.declared.kind.Kind.TheVariants.{Exists}
use Rattle.sipl_records.specs.declared.record.Record.{Record}
use Rattle.sipl_records.specs.declared.record.Key.{Key}
use Rattle.sipl_records.specs.Kinds.{index_of}
use Rattle.sipl_records.specs.Sets.{has_own_kind, has_key, kind_of, same_kind, same_key, key_of, shares_set, data_of}
use Rattle.sipl_records.proofs.Unique.{equivalence_from_decides}
use Rattle.sipl_records.proofs.Sets.{data_of-is}
use Rattle.std.proofs.lemmas.List.{length-map}
use Rattle.std.proofs.lemmas.List.Sums.{length-filter}

pub same_kind-Decides : (a b : Kind) → Decides (same_kind a b) (a ≡ b)
same_kind-Decides Exists Exists = (λ _. refl, λ _. refl)
same_kind-Decides _ Exists = (λ h. cc, λ h. cc)
same_kind-Decides _ _ = (λ h. cc, λ h. cc)

same_index : (a b : Kind) → index_of a ≡ index_of b → a ≡ b
same_index Exists Exists e = refl
same_index _ Exists e = cc
same_index _ _ e = cc

-- two kinds are one where their places among all are
pub same_kind-index : (a b : Kind) → same_kind a b ≡ nat_eq (index_of a) (index_of b)
same_kind-index a b =
    same_from_decides (same_kind a b) (nat_eq (index_of a) (index_of b)) (same_kind-Decides a b)
    (Decides-like (nat_eq (index_of a) (index_of b)) (λ e. same_index a b e) (λ e. ap index_of e) (unsigned_Decides (index_of a) (index_of b)))

pub same_key-Decides : (a b : Key) → Decides (same_key a b) (a ≡ b)
same_key-Decides a b =
    Decides-like (same_key a b) (λ both. λ i. record { name = both.0 i; kind = both.1 i }) (λ e. (ap (λ (key : Key). key.name) e, ap (λ (key : Key). key.kind) e)) (Decides-and (same_name a.name b.name) (same_kind a.kind b.kind) (same_name_decides a.name b.name) (same_kind-Decides a.kind b.kind))

pub same_key-equivalence : IsEquivalence same_key
same_key-equivalence = equivalence_from_decides same_key same_key-Decides

pub same_key-refl : (a : Key) → same_key a a ≡ true
same_key-refl a = (same_key-Decides a a).1 refl

pub same_key-sym : (a b : Key) → same_key a b ≡ same_key b a
same_key-sym a b =
    same_from_decides (same_key a b) (same_key b a) (same_key-Decides a b) (Decides-like (same_key b a) (λ e. sym e) (λ e. sym e) (same_key-Decides b a))

-- whether the key is the one, if there is one
abbrev pub is_key : Key → Option Key → Bool
is_key key own = option_map_or (λ own. same_key own key) own false

of_kind : (key : Key) (r : Record) (own : Option Kind) → (same_name r.owner key.name && option_map_or (λ kind. same_kind kind key.kind) own false) ≡ is_key key (option_map (λ kind. record { name = r.owner; kind = kind }) own)
of_kind key r None = and-false (same_name r.owner key.name)
of_kind key r (Some kind) = refl

-- a record is in a key's set where the key is its own
pub has_key-key_of : (key : Key) (r : Record) → has_key key r ≡ is_key key (key_of r)
has_key-key_of key r = of_kind key r (kind_of r.value)

own_Decides : (key : Key) (own : Option Key) → Decides (is_key key own) (own ≡ Some key)
own_Decides key None = (λ e. let never : false ≡ true = e in cc, λ e. cc)
own_Decides key (Some own) = Decides-like (same_key own key) (λ e. ap (λ (k : Key). Some k) e) (λ e. let same : own ≡ key = cc in same) (same_key-Decides own key)

pub has_key-Decides : (key : Key) (r : Record) → Decides (has_key key r) (key_of r ≡ Some key)
has_key-Decides key r =
    let own = own_Decides key (key_of r) in
    (λ e. own.0 (sym (has_key-key_of key r) ∙ e), λ e. has_key-key_of key r ∙ own.1 e)

-- a record's key has its owner
named : (r : Record) (key : Key) (own : Option Kind) → option_map (λ kind. record { name = r.owner; kind = kind }) own ≡ Some key → r.owner ≡ key.name
named r key None e = cc
named r key (Some kind) e =
    let own : Key = record { name = r.owner; kind = kind } in
    let same : own ≡ key = cc in
    ap (λ (k : Key). k.name) same

pub key_of-name : (r : Record) (key : Key) → key_of r ≡ Some key → r.owner ≡ key.name
key_of-name r key e = named r key (kind_of r.value) e

pub same_name-sym : (a b : List (List ℕ)) → same_name a b ≡ same_name b a
same_name-sym a b =
    same_from_decides (same_name a b) (same_name b a) (same_name_decides a b) (Decides-like (same_name b a) (λ e. sym e) (λ e. sym e) (same_name_decides b a))

shared : (a b : Record) (own : Option Kind) → (same_name a.owner b.owner && option_map_or (λ kind. has_own_kind kind b.value) own false) ≡ option_map_or (λ key. has_key key b) (option_map (λ kind. record { name = a.owner; kind = kind }) own) false
shared a b None = and-false (same_name a.owner b.owner)
shared a b (Some kind) = ap (λ same. same && has_own_kind kind b.value) (same_name-sym a.owner b.owner)

-- a record shares a set with those that have its key
pub shares_set-key_of : (a b : Record) → shares_set a b ≡ option_map_or (λ key. has_key key b) (key_of a) false
shares_set-key_of a b = shared a b (kind_of a.value)

pub shares_set-Some : (a : Record) (key : Key) → key_of a ≡ Some key → (b : Record) → shares_set a b ≡ has_key key b
shares_set-Some a key own b = shares_set-key_of a b ∙ ap (λ own. option_map_or (λ key. has_key key b) own false) own

-- the records of one set are those of one key
by_own : (a b : Record) (own : Option Key) → key_of a ≡ own → Decides (option_map_or (λ key. has_key key b) own false) ((key : Key) × (key_of a ≡ Some key) × (key_of b ≡ Some key))
by_own a b None is = (λ e. let never : false ≡ true = e in cc, λ both. let never : None ≡ Some both.0 = sym is ∙ both.1 in cc)
by_own a b (Some own) is =
    Decides-like (has_key own b) (λ e. (own, is, e)) (λ both. let same : own ≡ both.0 = let some : Some own ≡ Some both.0 = sym is ∙ both.1 in cc in both.2 ∙ ap (λ (k : Key). Some k) (sym same)) (has_key-Decides own b)

pub shares_set-Decides : (a b : Record) → Decides (shares_set a b) ((key : Key) × (key_of a ≡ Some key) × (key_of b ≡ Some key))
shares_set-Decides a b =
    let own = by_own a b (key_of a) refl in
    (λ e. own.0 (sym (shares_set-key_of a b) ∙ e), λ both. shares_set-key_of a b ∙ own.1 both)

-- a set has as many data as records have its key
pub length-data_of : (records : List Record) (key : Key) → length (data_of records key) ≡ count_by (has_key key) records
length-data_of records key = ap length (data_of-is records key) ∙ length-map (filter (has_key key) records) (λ r. r.value) ∙ length-filter (has_key key) records
