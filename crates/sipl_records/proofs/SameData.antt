-- Data and records that are found the same are the same.
use Rattle.std.proofs.Common.{◌≡◌, true, List, refl, ap}
use Rattle.std.specs.Bool.{Decides}
use Rattle.std.specs.Cmp.{IsEquivalence}
use Rattle.std.proofs.lemmas.Bool.Decides.{Decides-and, Decides-eqb, Decides-like}
use lib.Pointwise.{pointwise, pointwise_decides, bytes_decides}
use Rattle.sipl_names.proofs.Public.{same_name_decides}
use Rattle.sipl_records.specs.declared.data.Data.{Data}
use Rattle.sipl_records.specs.declared.data.Data.TheVariants.{Address4, Address6, Alias, Service, Pointer, Bare}
use Rattle.sipl_records.specs.declared.record.Record.{Record}
use Rattle.sipl_records.specs.Sets.{same_data, same_record}
use Rattle.sipl_records.proofs.Unique.{equivalence_from_decides}

pub same_data-Decides : (a b : Data) → Decides (same_data a b) (a ≡ b)
same_data-Decides (Address4 m) (Address4 n) =
    Decides-like _ (λ e. ap (λ k. Address4 k) e) (λ e. let same : m ≡ n = cc in same) (Decides-eqb m n)
same_data-Decides (Address6 m) (Address6 n) =
    Decides-like _ (λ e. ap (λ k. Address6 k) e) (λ e. let same : m ≡ n = cc in same) (Decides-eqb m n)
same_data-Decides (Alias a) (Alias b) =
    Decides-like _ (λ e. ap (λ k. Alias k) e) (λ e. let same : a ≡ b = cc in same) (same_name_decides a b)
same_data-Decides (Service p w o t) (Service p' w' o' t') =
    Decides-like _ (λ all. λ i. Service (all.0.0.0 i) (all.0.0.1 i) (all.0.1 i) (all.1 i)) (λ e. let a : p ≡ p' = cc in let b : w ≡ w' = cc in let c : o ≡ o' = cc in let d : t ≡ t' = cc in (((a, b), c), d)) (Decides-and _ _ (Decides-and _ _ (Decides-and _ _ (Decides-eqb p p') (Decides-eqb w w')) (Decides-eqb o o')) (same_name_decides t t'))
same_data-Decides (Pointer o p f s r t) (Pointer o' p' f' s' r' t') =
    Decides-like _ (λ all. λ i. Pointer (all.0.0.0.0.0 i) (all.0.0.0.0.1 i) (all.0.0.0.1 i) (all.0.0.1 i) (all.0.1 i) (all.1 i)) (λ e. let a : o ≡ o' = cc in let b : p ≡ p' = cc in let c : f ≡ f' = cc in let d : s ≡ s' = cc in let g : r ≡ r' = cc in let h : t ≡ t' = cc in (((((a, b), c), d), g), h)) (Decides-and _ _ (Decides-and _ _ (Decides-and _ _ (Decides-and _ _ (Decides-and _ _ (Decides-eqb o o') (Decides-eqb p p')) (bytes_decides f f')) (bytes_decides s s')) (bytes_decides r r')) (same_name_decides t t'))
same_data-Decides Bare Bare = (λ _. refl, λ _. refl)
same_data-Decides _ _ = (λ h. cc, λ h. cc)

pub same_data-equivalence : IsEquivalence same_data
same_data-equivalence = equivalence_from_decides same_data same_data-Decides

pub same_data-refl : (a : Data) → same_data a a ≡ true
same_data-refl = same_data-equivalence.refl

pub same_data-sym : (a b : Data) → same_data a b ≡ same_data b a
same_data-sym = same_data-equivalence.symm

-- sets of data, compared datum by datum
pub same_set-Decides : (a b : List Data) → Decides (pointwise same_data a b) (a ≡ b)
same_set-Decides = pointwise_decides same_data-Decides

pub same_record-Decides : (a b : Record) → Decides (same_record a b) (a ≡ b)
same_record-Decides a b =
    Decides-like _ (λ all. λ i. record { owner = all.0 i; value = all.1 i }) (λ e. (ap (λ (r : Record). r.owner) e, ap (λ (r : Record). r.value) e)) (Decides-and _ _ (same_name_decides a.owner b.owner) (same_data-Decides a.value b.value))

pub same_record-equivalence : IsEquivalence same_record
same_record-equivalence = equivalence_from_decides same_record same_record-Decides

pub same_record-refl : (a : Record) → same_record a a ≡ true
same_record-refl = same_record-equivalence.refl

pub same_record-sym : (a b : Record) → same_record a b ≡ same_record b a
same_record-sym = same_record-equivalence.symm
