-- The names above an owner, of which the first ones have one count.
use Rattle.std.proofs.Common.{◌≡◌, ◌≢◌, ℕ, ◌<◌, ◌≤◌, true, false, List, [], ◌∷◌, ◌++◌, cond, Option, None, Some, IfSome, nat_eq, refl, ap, sym, ◌∙◌, inl, inr, arith, append-nil}
use Rattle.std.specs.List.{count_by, filter, list_any, list_all}
use Rattle.std.specs.Option.{unwrap_or}
use Rattle.std.proofs.lemmas.Bool.{cases_Bool}
use Rattle.std.proofs.lemmas.Bool.Decides.{nat_tests}
use Rattle.std.proofs.lemmas.List.Elements.{filter-append}
use Rattle.std.proofs.lemmas.List.Folds.{list_any-append}
use Rattle.sipl_names.specs.Labels.{Labels, is_within, parent_of, same_name}
use Rattle.sipl_names.proofs.Public.{is_within-refl, is_within-trans}
use Rattle.sipl_records.specs.Sets.{same_record}
use Rattle.sipl_records.specs.declared.record.Record.{Record}
use Rattle.sipl_records.proofs.Public.{filter-all}
use Rattle.sipl_masterfile.specs.Zones.{has_repeats}
use Rattle.sipl_zonestore.specs.Changes.{changed_names, with_ancestors}
use Rattle.sipl_zonestore.specs.Edits.{records_without}
use Rattle.sipl_zonestore.specs.NameTable.{NameTable, HasNames, ancestors_from, count_at, count_within}
use Rattle.sipl_zonestore.proofs.AncestorCounts.{any-ancestors, count-ancestors, count-cons}
use Rattle.sipl_zonestore.proofs.ChangedNames.{all-any, filter-fails}
use Rattle.sipl_zonestore.proofs.Elements.{or_second}
use Rattle.sipl_zonestore.proofs.NameTables.{count-within_without, existence-add, existence-remove}

-- what is within a name is within those above it
count-above : (records : List Record) (lower upper : Labels) → is_within lower upper ≡ true → count_within records lower ≤ count_within records upper
count-above [] lower upper above = omega arith
count-above (r ∷ records) lower upper above =
    let one : cond (is_within r.owner lower) 1 0 ≤ cond (is_within r.owner upper) 1 0 = elim (cases_Bool (is_within r.owner lower)) [
      | inl within ↦ rw (within, is_within-trans r.owner lower upper within above) (omega arith)
      | inr apart ↦ rw apart (omega arith)
    ] in
    omega (arith, count-cons (λ r. is_within r.owner lower) r records, count-cons (λ r. is_within r.owner upper) r records, count-above records lower upper above, one)

pub count_at-above : (names : NameTable) (records : List Record) (lower upper : Labels) → HasNames names records → is_within lower upper ≡ true → count_at names lower ≤ count_at names upper
count_at-above names records lower upper has above = omega (arith, has lower, has upper, count-above records lower upper above)

pub ancestors-next : (name parent : Labels) → parent_of name ≡ Some parent → with_ancestors name ≡ name ∷ with_ancestors parent
ancestors-next [] parent is = cc
ancestors-next (label ∷ labels) parent is = ap (λ above. (label ∷ labels) ∷ with_ancestors (unwrap_or above [])) is

-- a name is within its parent
pub within-parent : (name parent other : Labels) → parent_of name ≡ Some parent → is_within parent other ≡ true → is_within name other ≡ true
within-parent [] parent other is within = cc
within-parent (label ∷ labels) parent other is within =
    or_second (same_name (label ∷ labels) other) (is_within labels other) (ap (λ above. is_within (unwrap_or above []) other) is ∙ within)

-- a name is once among itself and its ancestors
pub own-count : (name : Labels) → count_by (λ other. same_name other name) (with_ancestors name) ≡ 1
own-count name = count-ancestors name name ∙ ap (λ b. cond b 1 0) (is_within-refl name)

more_than : (n m : ℕ) → n < m → nat_eq m n ≡ false
more_than n m more = grind (arith, nat_tests)

all-within : (owner : Labels) → list_all (is_within owner) (with_ancestors owner) ≡ true
all-within owner = all-any (with_ancestors owner) (is_within owner) (λ name some. sym (any-ancestors owner name) ∙ some)

-- the first ones that have a count are all that have it, where the first of the rest has more
filter-counted : (names : NameTable) (records : List Record) (n : ℕ) (owner : Labels) (counted : List Labels) (rest : Option Labels) → HasNames names records → counted ++ ancestors_from rest ≡ with_ancestors owner → list_all (λ other. nat_eq (count_at names other) n) counted ≡ true → IfSome rest (λ other. n < count_at names other) → filter (λ other. nat_eq (count_at names other) n) (with_ancestors owner) ≡ counted
filter-counted names records n owner counted rest has whole all more =
    ap (filter (λ other. nat_eq (count_at names other) n)) (sym whole)
    ∙ filter-append (λ other. nat_eq (count_at names other) n) counted (ancestors_from rest)
    ∙ (λ i. filter-all (λ other. nat_eq (count_at names other) n) counted all i ++ none rest more i)
    ∙ append-nil counted where
      none : (rest : Option Labels) → IfSome rest (λ other. n < count_at names other) → filter (λ other. nat_eq (count_at names other) n) (ancestors_from rest) ≡ []
      none None more = refl
      none (Some name) more =
          filter-fails (is_within name) (λ other. nat_eq (count_at names other) n) (λ other above. more_than n (count_at names other) (omega (arith, more, count_at-above names records name other has above))) (with_ancestors name) (all-within name)

-- the names that an added record makes exist
pub absent-names : (names : NameTable) (old : List Record) (r : Record) (counted : List Labels) (rest : Option Labels) → HasNames names old → counted ++ ancestors_from rest ≡ with_ancestors r.owner → list_all (λ other. nat_eq (count_at names other) 0) counted ≡ true → IfSome rest (λ other. count_at names other ≢ 0) → counted ≡ changed_names old (old ++ r ∷ [])
absent-names names old r counted rest has whole all some =
    sym (filter-counted names old 0 r.owner counted rest has whole all (more rest some)) ∙ existence-add old r names has where
      more : (rest : Option Labels) → IfSome rest (λ other. count_at names other ≢ 0) → IfSome rest (λ other. 0 < count_at names other)
      more None some = some
      more (Some name) some = omega (arith, some)

-- the first of the rest exists, and all above it
pub rest-exists : (names : NameTable) (records : List Record) (rest : Option Labels) → HasNames names records → IfSome rest (λ other. count_at names other ≢ 0) → (name : Labels) → IfSome rest (λ other. is_within other name ≡ true → 0 < count_at names name)
rest-exists names records None has some name = some
rest-exists names records (Some first) has some name = λ above. omega (arith, some, count_at-above names records first name has above)

-- the first of the rest is above the owner
rest-above : (owner : Labels) (counted : List Labels) (rest : Labels) → counted ++ with_ancestors rest ≡ with_ancestors owner → is_within owner rest ≡ true
rest-above owner counted rest whole =
    sym (any-ancestors owner rest)
    ∙ ap (list_any (λ other. same_name other rest)) (sym whole)
    ∙ list_any-append (λ other. same_name other rest) counted (with_ancestors rest)
    ∙ or_second (list_any (λ other. same_name other rest) counted) (list_any (λ other. same_name other rest) (with_ancestors rest)) (any-ancestors rest rest ∙ is_within-refl rest)

-- the names that cease to exist with a record
pub left-names : (names : NameTable) (old : List Record) (r : Record) (counted : List Labels) (rest : Option Labels) → HasNames names old → has_repeats old ≡ false → list_any (same_record r) old ≡ true → counted ++ ancestors_from rest ≡ with_ancestors r.owner → list_all (λ other. nat_eq (count_at names other) 1) counted ≡ true → IfSome rest (λ other. count_at names other ≢ 1) → counted ≡ changed_names old (records_without r old)
left-names names old r counted rest has distinct present whole all some =
    sym (filter-counted names old 1 r.owner counted rest has whole all (more rest whole some)) ∙ existence-remove old r names has distinct present where
      more : (rest : Option Labels) → counted ++ ancestors_from rest ≡ with_ancestors r.owner → IfSome rest (λ other. count_at names other ≢ 1) → IfSome rest (λ other. 1 < count_at names other)
      more None whole some = some
      more (Some name) whole some =
          let one : ◌≡◌ {A = ℕ} (cond (is_within r.owner name) 1 0) 1 = rw (rest-above r.owner counted name whole) refl in
          omega (arith, some, has name, count-within_without old r name distinct present, one)
