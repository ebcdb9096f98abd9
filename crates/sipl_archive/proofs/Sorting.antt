-- Records that are sorted by their zones.
use Rattle.std.proofs.Common.{◌≡◌, ℕ, suc, ◌+◌, ◌<◌, ◌≤◌, Bool, true, false, not, cond, ◌||◌, if◌then◌else◌, List, [], ◌∷◌, ◌++◌, length, get_or, set, take, drop, map, filter, Some, None, nat_lt, refl, sym, ap, ◌∙◌, arith, append-nil, length-append}
use Rattle.std.proofs.lemmas.List.{drop_more, get_or-map, length-map, map-append, map-set, take_more}
use Rattle.std.proofs.lemmas.List.Elements.{filter-append}
use Rattle.std.specs.List.{AllByRecursion, IsDistinct, position, position_or_len}
use Rattle.std.proofs.lemmas.Bool.{ltb-true, ltb-false}
use Rattle.sipl_names.specs.Labels.{Labels, same_name, is_within, parent_of}
use Rattle.sipl_names.proofs.Public.{same_name_decides, is_within-suffix}
use Rattle.sipl_records.specs.declared.record.Record.{Record}
use Rattle.sipl_zonestore.specs.Store.{records_within}
use Rattle.sipl_archive.specs.Sorting.{paired, with_record, zones_of}

-- no apex passes the test
untouched : (apexes : List Labels) (test : Labels → Bool) (r : Record) (lists : List (List Record))
    → AllByRecursion (λ apex. test apex ≡ false) apexes → with_record apexes test r lists ≡ lists
untouched [] test r lists none = refl
untouched (apex ∷ apexes) test r [] none = refl
untouched (apex ∷ apexes) test r (list ∷ lists) none =
    rw none.0 (ap (λ others. list ∷ others) (untouched apexes test r lists none.1))

-- the others of an apex that is the name are not the name
others_differ : (name apex : Labels) (apexes : List Labels) → same_name name apex ≡ true
    → AllByRecursion (λ y. same_name apex y ≡ false) apexes → AllByRecursion (λ y. same_name name y ≡ false) apexes
others_differ name apex apexes same differ = rw ((same_name_decides name apex).0 same) differ

at_first : (same : Bool) (n : ℕ) (r : Record) (list : List Record) (lists rest : List (List Record)) (d : List Record)
    → cond (not same) (1 + n) 0 < length (list ∷ lists)
    → (same ≡ true → rest ≡ lists)
    → (same ≡ false → n < length lists → set lists n (get_or lists n d ++ r ∷ []) ≡ rest)
    → set (list ∷ lists) (cond (not same) (1 + n) 0) (get_or (list ∷ lists) (cond (not same) (1 + n) 0) d ++ r ∷ [])
    ≡ (if same then list ++ r ∷ [] else list) ∷ rest
at_first true n r list lists rest d within here others = ap (λ ls. (list ++ r ∷ []) ∷ ls) (sym (here refl))
at_first false n r list lists rest d within here others =
    let e : 1 + n ≡ suc n = omega arith in
    rw e (ap (λ ls. list ∷ ls) (others refl (omega arith)))

pub sets_first : (apexes : List Labels) (name : Labels) (r : Record) (lists : List (List Record)) (d : List Record)
    → IsDistinct same_name apexes → length lists ≡ length apexes → position_or_len (same_name name) apexes < length apexes
    → set lists (position_or_len (same_name name) apexes) (get_or lists (position_or_len (same_name name) apexes) d ++ r ∷ [])
    ≡ with_record apexes (same_name name) r lists
unfolding IsDistinct
sets_first [] name r lists d distinct as_long within = absurd (omega arith)
sets_first (apex ∷ apexes) name r [] d distinct as_long within = absurd (omega arith)
sets_first (apex ∷ apexes) name r (list ∷ lists) d distinct as_long within =
    at_first (same_name name apex) (position_or_len (same_name name) apexes) r list lists (with_record apexes (same_name name) r lists) d (omega arith)
    (λ same. untouched apexes (same_name name) r lists (others_differ name apex apexes same distinct.0))
    (λ other below. sets_first apexes name r lists d distinct.1 (omega arith) (omega arith))

at_none : (same : Bool) (n count : ℕ) (r : Record) (list : List Record) (lists rest : List (List Record))
    → count + 1 ≤ cond (not same) (1 + n) 0 → (count ≤ n → rest ≡ lists)
    → (if same then list ++ r ∷ [] else list) ∷ rest ≡ list ∷ lists
at_none true n count r list lists rest none others = absurd (omega arith)
at_none false n count r list lists rest none others = ap (λ ls. list ∷ ls) (others (omega arith))

misses : (apexes : List Labels) (name : Labels) (r : Record) (lists : List (List Record))
    → length apexes ≤ position_or_len (same_name name) apexes → with_record apexes (same_name name) r lists ≡ lists
misses [] name r lists none = refl
misses (apex ∷ apexes) name r [] none = refl
misses (apex ∷ apexes) name r (list ∷ lists) none =
    at_none (same_name name apex) (position_or_len (same_name name) apexes) (length apexes) r list lists (with_record apexes (same_name name) r lists) (omega arith)
    (λ others. misses apexes name r lists others)

-- what a test says of a choice
chosen : (is_there : Bool) (at place : ℕ) → Some place ≡ cond is_there (Some at) None → (is_there ≡ true) × (place ≡ at)
chosen true at place e = (refl, cc)
chosen false at place e = cc

not_chosen : (is_there : Bool) (at : ℕ) → None ≡ cond is_there (Some at) None → is_there ≡ false
not_chosen true at e = cc
not_chosen false at e = refl

-- the record is appended to the list of the apex that is the name
pub put_at : (apexes : List Labels) (name : Labels) (r : Record) (lists : List (List Record)) (place : ℕ) (list : List Record)
    → IsDistinct same_name apexes → length lists ≡ length apexes → Some place ≡ position (same_name name) apexes
    → list ≡ get_or lists place list
    → set lists place (list ++ r ∷ []) ≡ with_record apexes (same_name name) r lists
put_at apexes name r lists place list distinct as_long found is_list =
    let at = position_or_len (same_name name) apexes in
    let place_is = chosen (nat_lt at (length apexes)) at place found in
    ap (λ (l : List Record). set lists place (l ++ r ∷ [])) is_list
    ∙ ap (λ (i : ℕ). set lists i (get_or lists i list ++ r ∷ [])) place_is.1
    ∙ sets_first apexes name r lists list distinct as_long (ltb-true at (length apexes) place_is.0)

-- no apex is the name
pub put_nowhere : (apexes : List Labels) (name : Labels) (r : Record) (lists : List (List Record))
    → None ≡ position (same_name name) apexes → lists ≡ with_record apexes (same_name name) r lists
put_nowhere apexes name r lists none =
    let at = position_or_len (same_name name) apexes in
    sym (misses apexes name r lists (ltb-false at (length apexes) (not_chosen (nat_lt at (length apexes)) at none)))

-- a name that is the apex has none above it that are within it
above_is_outside : (label : List ℕ) (labels apex : Labels) → same_name (label ∷ labels) apex ≡ true → is_within labels apex ≡ false
above_is_outside label labels apex same =
    elim (is_within labels apex) as (λ within. is_within labels apex ≡ within → within ≡ false) [
      | true ↦ λ e.
          let suffix = (is_within-suffix labels apex).0 e in
          let apex_is = (same_name_decides (label ∷ labels) apex).0 same in
          absurd (omega (arith, simp length-append at (ap length suffix.1), ap length apex_is))
      | false ↦ λ e. refl
    ] refl

one_of_two : (a b : Bool) (r : Record) (list : List Record) → (a ≡ true → b ≡ false)
    → (if b then (if a then list ++ r ∷ [] else list) ++ r ∷ [] else (if a then list ++ r ∷ [] else list))
    ≡ (if a || b then list ++ r ∷ [] else list)
one_of_two true b r list apart = rw (apart refl) refl
one_of_two false true r list apart = refl
one_of_two false false r list apart = refl

-- first the name, then those above it
pub name_first : (apexes : List Labels) (label : List ℕ) (labels : Labels) (r : Record) (lists : List (List Record))
    → with_record apexes (is_within labels) r (with_record apexes (same_name (label ∷ labels)) r lists)
    ≡ with_record apexes (is_within (label ∷ labels)) r lists
name_first [] label labels r lists = refl
name_first (apex ∷ apexes) label labels r [] = refl
name_first (apex ∷ apexes) label labels r (list ∷ lists) =
    ap (λ (l : List Record). l ∷ with_record apexes (is_within labels) r (with_record apexes (same_name (label ∷ labels)) r lists))
    (one_of_two (same_name (label ∷ labels) apex) (is_within labels apex) r list (above_is_outside label labels apex))
    ∙ ap (λ (ls : List (List Record)). (if is_within (label ∷ labels) apex then list ++ r ∷ [] else list) ∷ ls) (name_first apexes label labels r lists)

root_only : (apexes : List Labels) (r : Record) (lists : List (List Record))
    → with_record apexes (same_name []) r lists ≡ with_record apexes (is_within []) r lists
root_only [] r lists = refl
root_only (apex ∷ apexes) r [] = refl
root_only (apex ∷ apexes) r (list ∷ lists) =
    ap (λ (ls : List (List Record)). (if is_within [] apex then list ++ r ∷ [] else list) ∷ ls) (root_only apexes r lists)

-- what is left to do after a name, for those above it
abbrev pub left : List Labels → Labels → Record → List (List Record) → List (List Record)
left apexes [] r lists = lists
left apexes (label ∷ labels) r lists = with_record apexes (is_within labels) r lists

pub after_name : (apexes : List Labels) (name : Labels) (r : Record) (lists new : List (List Record))
    → new ≡ with_record apexes (same_name name) r lists → left apexes name r new ≡ with_record apexes (is_within name) r lists
after_name apexes [] r lists new is_new = is_new ∙ root_only apexes r lists
after_name apexes (label ∷ labels) r lists new is_new =
    ap (with_record apexes (is_within labels) r) is_new ∙ name_first apexes label labels r lists

pub left_above : (apexes : List Labels) (name above : Labels) (r : Record) (lists : List (List Record))
    → parent_of name ≡ Some above → left apexes name r lists ≡ with_record apexes (is_within above) r lists
left_above apexes [] above r lists parent = cc
left_above apexes (label ∷ labels) above r lists parent =
    let same : labels ≡ above = cc in
    ap (λ (name : Labels). with_record apexes (is_within name) r lists) same

pub left_root : (apexes : List Labels) (name : Labels) (r : Record) (lists : List (List Record)) → name ≡ [] → left apexes name r lists ≡ lists
left_root apexes name r lists root = ap (λ (n : Labels). left apexes n r lists) root

one_more : (a : Bool) (r : Record) (list : List Record) → (if a then list ++ r ∷ [] else list) ≡ list ++ (if a then r ∷ [] else [])
one_more true r list = refl
one_more false r list = sym (append-nil list)

-- the records within each apex, one more
pub within_more : (apexes : List Labels) (records : List Record) (r : Record)
    → with_record apexes (is_within r.owner) r (map (λ apex. records_within apex records) apexes)
    ≡ map (λ apex. records_within apex (records ++ r ∷ [])) apexes
within_more [] records r = refl
within_more (apex ∷ apexes) records r =
    let test : Record → Bool = λ other. is_within other.owner apex in
    ap (λ (l : List Record). l ∷ with_record apexes (is_within r.owner) r (map (λ a. records_within a records) apexes))
    (one_more (test r) r (filter test records) ∙ sym (filter-append test records (r ∷ [])))
    ∙ ap (λ (ls : List (List Record)). records_within apex (records ++ r ∷ []) ∷ ls) (within_more apexes records r)

pub paired_zones : (apexes : List Labels) (records : List Record)
    → paired apexes (map (λ apex. records_within apex records) apexes) ≡ zones_of apexes records
paired_zones [] records = refl
paired_zones (apex ∷ apexes) records = ap (λ zones. (apex, records_within apex records) ∷ zones) (paired_zones apexes records)

-- a record is appended to the list of the apex that is the name
pub put_to : {X : Type 0} (f : X → List Record) (apexes : List Labels) (name : Labels) (r : Record) (lists : List X) (place : ℕ) (old new : X)
    → IsDistinct same_name apexes → length lists ≡ length apexes → Some place ≡ position (same_name name) apexes → place < length lists
    → old ≡ get_or lists place old → f new ≡ f old ++ r ∷ []
    → map f (set lists place new) ≡ with_record apexes (same_name name) r (map f lists)
put_to f apexes name r lists place old new distinct as_long found within is_old appended =
    map-set f lists place new ∙ ap (set (map f lists) place) appended
    ∙ put_at apexes name r (map f lists) place (f old) distinct (length-map lists f ∙ as_long) found
    (ap f is_old ∙ sym (get_or-map f lists place old (f old) within))

-- lists of two lists are as many as they are
pub same_count : {X Y : Type 0} (f : X → List Record) (g : Y → List Record) (lists : List X) (others : List Y) → map f lists ≡ map g others → length lists ≡ length others
same_count f g lists others same = sym (length-map lists f) ∙ ap length same ∙ length-map others g

-- the zones from a place on: the one there, and the others
pub paired_more : {X : Type 0} (f : X → List Record) (apexes : List Labels) (lists : List X) (i : ℕ) (apex : Labels) (list : X)
    → i < length apexes → i < length lists → apex ≡ get_or apexes i apex → list ≡ get_or lists i list
    → paired (drop i apexes) (map f (drop i lists)) ≡ (apex, f list) ∷ paired (drop (i + 1) apexes) (map f (drop (i + 1) lists))
paired_more f apexes lists i apex list below within is_apex is_list =
    ap (λ (names : List Labels). paired names (map f (drop i lists))) (drop_more apexes i apex below ∙ ap (λ (a : Labels). a ∷ drop (i + 1) apexes) (sym is_apex))
    ∙ ap (λ (ls : List _). paired (apex ∷ drop (i + 1) apexes) (map f ls)) (drop_more lists i list within ∙ ap (λ (l : _). l ∷ drop (i + 1) lists) (sym is_list))

-- an empty list for one more apex
pub one_empty : {X : Type 0} (f : X → List Record) (apexes : List Labels) (lists new : List X) (list : X)
    → map f lists ≡ map (λ apex. records_within apex []) (take (length lists) apexes) → length lists < length apexes
    → new ≡ lists ++ list ∷ [] → f list ≡ [] → map f new ≡ map (λ apex. records_within apex []) (take (length new) apexes)
one_empty f apexes lists new list same below is_new empty =
    let g : Labels → List Record = λ apex. records_within apex [] in
    let n = length lists in
    let len : n + 1 ≡ length new = omega (arith, ap length is_new ∙ length-append lists (list ∷ [])) in
    ap (map f) is_new ∙ map-append f lists (list ∷ []) ∙ ap (λ (e : List Record). map f lists ++ e ∷ []) empty
    ∙ ap (λ (ls : List (List Record)). ls ++ [] ∷ []) same
    ∙ sym (map-append g (take n apexes) (get_or apexes n [] ∷ [])) ∙ ap (map g) (sym (take_more apexes n [] below))
    ∙ ap (λ (m : ℕ). map g (take m apexes)) len
