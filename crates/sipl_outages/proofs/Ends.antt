-- The table of ends: what a change of it leaves, and what lasts.
use Rattle.std.proofs.Common.{◌≡◌, ℕ, ◌^◌, ◌<◌, ◌≤◌, max, Bool, true, false, cond, not, ltb, List, [], ◌∷◌, ◌++◌, map, length, filter, is_some, unwrap_or, Some, refl, sym, ap, subst, ◌∙◌, arith, rules, append_assoc}
use Rattle.std.specs.List.{list_all, IsDistinct, AllByRecursion}
use Rattle.std.specs.Map.{keys_of, lookup, remove_entry}
use Rattle.std.specs.Borrow.{Bor}
use Rattle.std.specs.Iterator.{Drains}
use Rattle.std.specs.Map.Iter.{deref_pair, TakesFirst, ShowsInOrder}
use Rattle.std.proofs.iter.runs.Made.{run, to_end}
use Rattle.std.proofs.lemmas.Bool.{and_parts, and_from, cond-true, cond-false, cond_both, lt-ltb, le-leb, le-ltb, ltb-true, leb-true}
use Rattle.std.proofs.lemmas.List.{append-nil}
use Rattle.std.proofs.lemmas.Map.Keys.{IsDistinct-head, IsDistinct-tail}
use Rattle.indexmap.specs.IndexMap.{insert_entry, insert_all}
use Rattle.indexmap.proofs.MapLemmas.{absent_before, absent_from_lookup, insert_entry-absent}
use Rattle.sipl_choice.specs.declared.endpoint.Endpoint.{Endpoint}
use Rattle.sipl_choice.specs.contracts.endpoint.EndpointPartialEq.TheImpl.{eq-value}
use Rattle.sipl_choice.specs.Endpoints.{same_endpoint}
use Rattle.sipl_choice.proofs.Public.{same_endpoint-equivalence}
use Rattle.sipl_outages.specs.Holds.{extended}
use Rattle.sipl_outages.specs.Board.{is_lasting}

-- the derived equality of endpoints is that of the definitions
pub derived_eq : eq-value.it ≡ same_endpoint
derived_eq = λ i a b. at a b i
  where
    at : (a b : Endpoint) → eq-value.it a b ≡ same_endpoint a b
    at a b = search rules

abbrev pub Ends : Type 0
Ends = List (Endpoint × ℕ)

-- no hold is of the endpoint
abbrev pub IsAbsentFrom : Endpoint → Ends → Type 0
IsAbsentFrom k es = AllByRecursion (λ y. same_endpoint k y ≡ false) (keys_of es)

-- an endpoint that equals the first of distinct ones is not among the others
pub absent_after : (k x : Endpoint) (es : Ends) → same_endpoint k x ≡ true → IsAbsentFrom x es → IsAbsentFrom k es
absent_after k x [] same h = tt
absent_after k x (e ∷ es) same h =
    (same_endpoint-equivalence.congr k x e.0 same ∙ h.0, absent_after k x es same h.1)

-- ---- a hold

-- a hold changes nothing of other endpoints
pub map-extended_absent : (k : Endpoint) (end : ℕ) (es : Ends) → IsAbsentFrom k es → map (extended k end) es ≡ es
map-extended_absent k end [] h = refl
map-extended_absent k end (e ∷ es) h =
    λ i. cond-false (same_endpoint k e.0) (e.0, max e.1 end) e h.0 i ∷ map-extended_absent k end es h.1 i

-- the insertion of the later end extends the hold
pub insert_entry-held : (k : Endpoint) (end old : ℕ) (es : Ends) → lookup (same_endpoint k) es ≡ Some old → IsDistinct same_endpoint (keys_of es)
    → insert_entry same_endpoint es k (max old end) ≡ map (extended k end) es
insert_entry-held k end old [] found apart = cc
insert_entry-held k end old (e ∷ es) found apart =
    elim (same_endpoint k e.0) as (λ b. same_endpoint k e.0 ≡ b → cond b (Some e.1) (lookup (same_endpoint k) es) ≡ Some old
    → cond b ((e.0, max old end) ∷ es) (e ∷ insert_entry same_endpoint es k (max old end)) ≡ cond b (e.0, max e.1 end) e ∷ map (extended k end) es) [
      | true ↦ λ same first.
          let is_old : old ≡ e.1 = cc in
          let rest = map-extended_absent k end es (absent_after k e.0 es same (IsDistinct-head same_endpoint e.0 (keys_of es) apart)) in
          λ i. (e.0, max (is_old i) end) ∷ sym rest i
      | false ↦ λ other later. ap (λ xs. e ∷ xs) (insert_entry-held k end old es later (IsDistinct-tail same_endpoint e.0 (keys_of es) apart))
    ] refl found

-- ---- what lasts

pub is_lasting-from : (now : ℕ) (k : Endpoint) (end : ℕ) → now < end → end ≤ 2 ^ 52 → is_lasting now (k, end) ≡ true
is_lasting-from now k end after fits = and_from _ _ (lt-ltb now end after) (le-leb end (2 ^ 52) fits)

pub is_lasting-parts : (now : ℕ) (k : Endpoint) (end : ℕ) → is_lasting now (k, end) ≡ true → (now < end) × (end ≤ 2 ^ 52)
is_lasting-parts now k end h = let p = and_parts _ _ h in (ltb-true _ _ p.0, leb-true _ _ p.1)

-- an endpoint has an end exactly where that is after the present time
pub is_some-lookup_lasting : (now : ℕ) (test : Endpoint → Bool) (es : Ends) → list_all (is_lasting now) es ≡ true
    → is_some (lookup test es) ≡ ltb now (unwrap_or (lookup test es) 0)
is_some-lookup_lasting now test [] h = sym (le-ltb now 0 (omega arith))
is_some-lookup_lasting now test (e ∷ es) h =
    let parts = and_parts _ _ h in
    elim (test e.0) as (λ b. is_some (cond b (Some e.1) (lookup test es)) ≡ ltb now (unwrap_or (cond b (Some e.1) (lookup test es)) 0)) [
      | true ↦ sym (lt-ltb now e.1 (is_lasting-parts now e.0 e.1 parts.0).0)
      | false ↦ is_some-lookup_lasting now test es parts.1
    ]

-- extended holds last
pub lasting-extended : (now : ℕ) (k : Endpoint) (end : ℕ) (es : Ends) → end ≤ 2 ^ 52 → list_all (is_lasting now) es ≡ true
    → list_all (is_lasting now) (map (extended k end) es) ≡ true
lasting-extended now k end [] fits h = refl
lasting-extended now k end (e ∷ es) fits h =
    let parts = and_parts _ _ h in
    let first = is_lasting-parts now e.0 e.1 parts.0 in
    and_from _ _
    (cond_both (same_endpoint k e.0) (e.0, max e.1 end) e (λ hold. is_lasting now hold ≡ true) (λ _. is_lasting-from now e.0 (max e.1 end) (omega arith) (omega arith)) (λ _. parts.0))
    (lasting-extended now k end es fits parts.1)

pub lasting-push : (now : ℕ) (k : Endpoint) (end : ℕ) (es : Ends) → now < end → end ≤ 2 ^ 52 → list_all (is_lasting now) es ≡ true
    → list_all (is_lasting now) (es ++ (k, end) ∷ []) ≡ true
lasting-push now k end [] after fits h = and_from _ _ (is_lasting-from now k end after fits) refl
lasting-push now k end (e ∷ es) after fits h =
    let parts = and_parts _ _ h in and_from _ _ parts.0 (lasting-push now k end es after fits parts.1)

-- what is filtered lasts
pub lasting-filter : (now : ℕ) (keep : Endpoint × ℕ → Bool) (es : Ends) → list_all (is_lasting now) es ≡ true → list_all (is_lasting now) (filter keep es) ≡ true
lasting-filter now keep [] h = refl
lasting-filter now keep (e ∷ es) h =
    let parts = and_parts _ _ h in
    let rest = lasting-filter now keep es parts.1 in
    cond_both (keep e) (e ∷ filter keep es) (filter keep es) (λ xs. list_all (is_lasting now) xs ≡ true) (λ _. and_from _ _ parts.0 rest) (λ _. rest)

-- what ends after a time lasts then
pub lasting-later : (now to : ℕ) (es : Ends) → list_all (is_lasting now) es ≡ true → list_all (is_lasting to) (filter (λ hold. ltb to hold.1) es) ≡ true
lasting-later now to [] h = refl
lasting-later now to (e ∷ es) h =
    let parts = and_parts _ _ h in
    let rest = lasting-later now to es parts.1 in
    cond_both (ltb to e.1) (e ∷ filter (λ hold. ltb to hold.1) es) (filter (λ hold. ltb to hold.1) es) (λ xs. list_all (is_lasting to) xs ≡ true)
    (λ after. and_from _ _ (and_from _ _ after (and_parts _ _ parts.0).1) rest) (λ _. rest)

pub length-filter_le : (keep : Endpoint × ℕ → Bool) (es : Ends) → length (filter keep es) ≤ length es
length-filter_le keep [] = omega arith
length-filter_le keep (e ∷ es) =
    let rest = length-filter_le keep es in
    cond_both (keep e) (e ∷ filter keep es) (filter keep es) (λ xs. length xs ≤ length (e ∷ es)) (λ _. omega arith) (λ _. omega arith)

-- ---- a release

pub filter_absent : (k : Endpoint) (es : Ends) → IsAbsentFrom k es → filter (λ hold. not (same_endpoint k hold.0)) es ≡ es
filter_absent k [] h = refl
filter_absent k (e ∷ es) h =
    cond-true _ _ _ (ap not h.0) ∙ ap (λ xs. e ∷ xs) (filter_absent k es h.1)

-- the removal of the first hold of an endpoint leaves those of the others
pub remove_entry-filter : (k : Endpoint) (es : Ends) → IsDistinct same_endpoint (keys_of es) → remove_entry (same_endpoint k) es ≡ filter (λ hold. not (same_endpoint k hold.0)) es
remove_entry-filter k [] apart = refl
remove_entry-filter k (e ∷ es) apart =
    elim (same_endpoint k e.0) as (λ b. same_endpoint k e.0 ≡ b → cond b es (e ∷ remove_entry (same_endpoint k) es)
    ≡ cond (not b) (e ∷ filter (λ hold. not (same_endpoint k hold.0)) es) (filter (λ hold. not (same_endpoint k hold.0)) es)) [
      | true ↦ λ same. sym (filter_absent k es (absent_after k e.0 es same (IsDistinct-head same_endpoint e.0 (keys_of es) apart)))
      | false ↦ λ other. ap (λ xs. e ∷ xs) (remove_entry-filter k es (IsDistinct-tail same_endpoint e.0 (keys_of es) apart))
    ] refl

-- ---- a copy

-- what was taken of a map's entries until there were none left is all of them
pub map-deref_pair : {K X : Type 0} (es : List (K × X)) (taken : List (Bor K × Bor X)) → ShowsInOrder (deref_pair {K = K} {X = X}) → Drains (TakesFirst deref_pair) es taken → map deref_pair taken ≡ es
map-deref_pair es taken shows all =
    let p = run (TakesFirst deref_pair) es taken true (to_end (TakesFirst deref_pair) es taken all) in
    (shows p p.seen).4 refl

-- holds of distinct endpoints, inserted in turn, are appended
pub insert_all-distinct : (done xs : Ends) → IsDistinct same_endpoint (keys_of (done ++ xs)) → insert_all same_endpoint done xs ≡ done ++ xs
insert_all-distinct done [] apart = sym (append-nil done)
insert_all-distinct done (x ∷ xs) apart =
    let absent = absent_from_lookup (same_endpoint x.0) done (absent_before same_endpoint-equivalence done xs x apart) in
    ap (λ es. insert_all same_endpoint es xs) (insert_entry-absent same_endpoint x.0 x.1 done absent)
    ∙ insert_all-distinct (done ++ x ∷ []) xs (subst (λ es. IsDistinct same_endpoint (keys_of es)) (sym (append_assoc done (x ∷ []) xs)) apart)
    ∙ append_assoc done (x ∷ []) xs
