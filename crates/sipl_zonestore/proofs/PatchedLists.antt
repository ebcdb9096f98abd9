-- How a text comes into a list in which the records of its zone are last.
use Rattle.std.proofs.Common.{◌≡◌, ℕ, ◌+◌, ◌-◌, ◌<◌, ◌≤◌, Bool, true, false, ◌&&◌, List, [], ◌∷◌, ◌++◌, length, take, drop, get_or, refl, ap, subst, sym, ◌∙◌, arith, append-nil, append_assoc, length-append, length-take}
use Rattle.std.specs.List.{list_any, list_all, slice_range}
use Rattle.std.proofs.lemmas.List.{drop-append-le, drop-drop, drop_at, drop_more, length-drop, take-append-drop, take-append-le, take_all, take_at}
use Rattle.std.proofs.lemmas.List.Elements.{filter-append}
use Rattle.std.proofs.lemmas.List.Folds.{drop_split, list_all-append}
use Rattle.std.proofs.Math.Seq.{drop-length, take-add}
use Rattle.sipl_names.specs.Labels.{Labels, is_within}
use Rattle.sipl_records.specs.declared.record.Record.{Record}
use Rattle.sipl_records.proofs.Public.{filter-all}
use Rattle.sipl_zonestore.specs.Patches.{IsPatch}
use Rattle.sipl_zonestore.specs.Store.{records_outside, records_within}
use Rattle.sipl_zonestore.specs.declared.patches.Patch.{Patch}
use Rattle.sipl_zonestore.proofs.DifferingRecords.{next-is}
use Rattle.sipl_zonestore.proofs.Elements.{and_first, and_second}
use Rattle.sipl_zonestore.proofs.NameTables.{filter-nothing}
use Rattle.sipl_zonestore.proofs.SameRecords.{none_outside, outside}

-- records of which the first are outside an apex, and the others within it
outside-first : (apex : Labels) (others zone : List Record) → list_any (λ r. is_within r.owner apex) others ≡ false → list_all (λ r. is_within r.owner apex) zone ≡ true → records_outside apex (others ++ zone) ≡ others
outside-first apex others zone none all =
    outside apex others zone none ∙ ap (λ rs. others ++ rs) (none_outside apex zone all) ∙ append-nil others

-- a zone that begins and ends as a text is within its apex, where what is between is
all-parts : (p : Record → Bool) (first old new last : List Record) → list_all p (first ++ (new ++ last)) ≡ true → list_all p old ≡ true → list_all p (first ++ (old ++ last)) ≡ true
all-parts p first old new last all olds =
    let both : (list_all p first && list_all p (new ++ last)) ≡ true = sym (list_all-append p first (new ++ last)) ∙ all in
    let rest : (list_all p new && list_all p last) ≡ true = sym (list_all-append p new last) ∙ and_second (list_all p first) (list_all p (new ++ last)) both in
    list_all-append p first (old ++ last)
    ∙ (λ i. and_first (list_all p first) (list_all p (new ++ last)) both i && (list_all-append p old last ∙ (λ j. olds j && and_second (list_all p new) (list_all p last) rest j)) i)

within-first : (apex : Labels) (others zone : List Record) → list_any (λ r. is_within r.owner apex) others ≡ false → records_within apex (others ++ zone) ≡ records_within apex zone
within-first apex others zone none =
    filter-append (λ r. is_within r.owner apex) others zone ∙ ap (λ rs. rs ++ records_within apex zone) (filter-nothing (λ r. is_within r.owner apex) others none)

-- Of the records the first are outside an apex, and the others, which are the zone, begin and end as a text.
pub record IsLast (apex : Labels) (records text others : List Record) (start end first last : ℕ) : Type 0 where
  pub order : start ≤ end
  pub text_order : first ≤ last
  pub all : list_all (λ r. is_within r.owner apex) text ≡ true
  pub none : list_any (λ r. is_within r.owner apex) others ≡ false
  pub olds : list_all (λ r. is_within r.owner apex) (slice_range records start end) ≡ true
  pub starts : take start records ≡ others ++ take first text
  pub ends : drop end records ≡ drop last text

pub text-parts : (text : List Record) (first last : ℕ) → first ≤ last → take first text ++ (slice_range text first last ++ drop last text) ≡ text
text-parts text first last order = ap (λ rs. take first text ++ rs) (sym (drop_split text first last order)) ∙ take-append-drop first text

records-parts : (apex : Labels) (records text others : List Record) (start end first last : ℕ) → IsLast apex records text others start end first last → others ++ (take first text ++ (slice_range records start end ++ drop last text)) ≡ records
records-parts apex records text others start end first last is =
    sym (append_assoc others (take first text) (slice_range records start end ++ drop last text))
    ∙ (λ i. sym is.starts i ++ (slice_range records start end ++ sym is.ends i))
    ∙ text-parts records start end is.order

whole-text : (apex : Labels) (records text others : List Record) (start end first last : ℕ) → IsLast apex records text others start end first last → list_all (λ r. is_within r.owner apex) (take first text ++ (slice_range text first last ++ drop last text)) ≡ true
whole-text apex records text others start end first last is =
    ap (list_all (λ r. is_within r.owner apex)) (text-parts text first last is.text_order) ∙ is.all

-- so the records of the text are in place of the zone's
pub last-replaced : (apex : Labels) (records text others : List Record) (start end first last : ℕ) → IsLast apex records text others start end first last → take start records ++ (slice_range text first last ++ drop end records) ≡ records_outside apex records ++ text
last-replaced apex records text others start end first last is =
    let zone : list_all (λ r. is_within r.owner apex) (take first text ++ (slice_range records start end ++ drop last text)) ≡ true = all-parts (λ r. is_within r.owner apex) (take first text) (slice_range records start end) (slice_range text first last) (drop last text) (whole-text apex records text others start end first last is) is.olds in
    (λ i. is.starts i ++ (slice_range text first last ++ is.ends i))
    ∙ append_assoc others (take first text) (slice_range text first last ++ drop last text)
    ∙ ap (λ rs. others ++ rs) (text-parts text first last is.text_order)
    ∙ ap (λ rs. rs ++ text) (sym (ap (records_outside apex) (sym (records-parts apex records text others start end first last is)) ∙ outside-first apex others (take first text ++ (slice_range records start end ++ drop last text)) is.none zone))

-- and the zone is the text but for the part
pub last-zone : (apex : Labels) (records text others : List Record) (start end first last : ℕ) → IsLast apex records text others start end first last → records_within apex records ≡ take first text ++ (records_within apex (slice_range records start end) ++ drop last text)
last-zone apex records text others start end first last is =
    let within : Record → Bool = λ r. is_within r.owner apex in
    let both : (list_all within (take first text) && list_all within (slice_range text first last ++ drop last text)) ≡ true = sym (list_all-append within (take first text) (slice_range text first last ++ drop last text)) ∙ whole-text apex records text others start end first last is in
    let rest : (list_all within (slice_range text first last) && list_all within (drop last text)) ≡ true = sym (list_all-append within (slice_range text first last) (drop last text)) ∙ and_second (list_all within (take first text)) (list_all within (slice_range text first last ++ drop last text)) both in
    ap (records_within apex) (sym (records-parts apex records text others start end first last is))
    ∙ within-first apex others (take first text ++ (slice_range records start end ++ drop last text)) is.none
    ∙ filter-append within (take first text) (slice_range records start end ++ drop last text)
    ∙ (λ i. filter-all within (take first text) (and_first (list_all within (take first text)) (list_all within (slice_range text first last ++ drop last text)) both) i ++ (filter-append within (slice_range records start end) (drop last text) ∙ ap (λ rs. records_within apex (slice_range records start end) ++ rs) (filter-all within (drop last text) (and_second (list_all within (slice_range text first last)) (list_all within (drop last text)) rest))) i)

-- so that is what the text changes
pub last-patch : (apex : Labels) (records text others : List Record) (patch : Patch) → patch.is_last ≡ true → patch.end ≤ length records → patch.last ≤ length text → IsLast apex records text others patch.start patch.end patch.first patch.last → IsPatch apex records text patch
last-patch apex records text others patch last limit text_limit is =
    record {
      order = is.order;
      limit = limit;
      text_order = is.text_order;
      text_limit = text_limit;
      replaced = rw last (last-replaced apex records text others patch.start patch.end patch.first patch.last is);
      zone = last-zone apex records text others patch.start patch.end patch.first patch.last is;
    }

whole-range : (xs : List Record) → slice_range xs 0 (length xs) ≡ xs
whole-range xs = take_all (length xs - 0) xs (omega arith)

-- or else all of it
pub whole-patch : (apex : Labels) (records text : List Record) (patch : Patch) → patch ≡ record { start = 0; end = length records; first = 0; last = length text; is_last = false } → IsPatch apex records text patch
whole-patch apex records text patch is =
    subst (IsPatch apex records text) (sym is) record {
      order = omega arith;
      limit = omega arith;
      text_order = omega arith;
      text_limit = omega arith;
      replaced = ap (λ rs. records_outside apex records ++ rs) (whole-range text);
      zone = ap (records_within apex) (sym (whole-range records)) ∙ sym (append-nil (records_within apex (slice_range records 0 (length records)))) ∙ ap (λ rs. records_within apex (slice_range records 0 (length records)) ++ rs) (sym (drop-length text));
    }

-- a patch that changes nothing
pub nothing-patched : (apex : Labels) (records text : List Record) (patch : Patch) → IsPatch apex records text patch → patch.is_last ≡ true → patch.start ≡ patch.end → patch.first ≡ patch.last → records_outside apex records ++ text ≡ records
nothing-patched apex records text patch is last old new =
    let none : slice_range text patch.first patch.last ≡ [] = no_part text patch.first patch.last new in
    sym is.replaced ∙ rw last (ap (λ rs. take patch.start records ++ (rs ++ drop patch.end records)) none ∙ ap (λ n. take patch.start records ++ drop n records) (sym old) ∙ take-append-drop patch.start records) where
      no_part : (xs : List Record) (first last : ℕ) → first ≡ last → slice_range xs first last ≡ []
      no_part xs first last same =
          let none : last - first ≡ 0 = omega (arith, same) in ap (λ n. take n (drop first xs)) none

-- the place of the end
pub end-is : (xs : List Record) (start rest : ℕ) → start ≤ length xs → rest ≤ length (drop start xs) → drop (length (drop start xs) - rest) (drop start xs) ≡ drop (length xs - rest) xs
end-is xs start rest within few =
    drop-drop (length (drop start xs) - rest) start xs ∙ ap (λ n. drop n xs) (omega (arith, length-drop start xs, within, few))

-- what the lists have in common, and what is between
pub found-patch : (apex : Labels) (records text zone a b old : List Record) (place same ends : ℕ) → zone ≡ drop place records → a ≡ drop same zone → b ≡ drop same text → old ≡ slice_range zone same (length zone - ends) → place ≤ length records → list_any (λ r. is_within r.owner apex) (take place records) ≡ false → same ≤ length zone → same ≤ length text → take same zone ≡ take same text → ends ≤ length a → ends ≤ length b → drop (length a - ends) a ≡ drop (length b - ends) b → list_all (λ r. is_within r.owner apex) old ≡ true → list_all (λ r. is_within r.owner apex) text ≡ true → IsPatch apex records text (record { start = place + same; end = length records - ends; first = same; last = length text - ends; is_last = true })
found-patch apex records text zone a b old place same ends zone_is a_is b_is old_is limit none fits text_fits starts few text_few last olds all =
    let a_at : a ≡ drop (place + same) records = a_is ∙ ap (drop same) zone_is ∙ drop-drop same place records in
    let count : length zone ≡ length records - place = ap length zone_is ∙ length-drop place records in
    let long : length a ≡ length records - (place + same) = ap length a_at ∙ length-drop (place + same) records in
    let text_long : length b ≡ length text - same = ap length b_is ∙ length-drop same text in
    let within : place + same ≤ length records = omega (arith, count, limit, fits) in
    last-patch apex records text (take place records) (record { start = place + same; end = length records - ends; first = same; last = length text - ends; is_last = true }) refl (omega arith) (omega arith) record {
      order = omega (arith, long, few, within);
      text_order = omega (arith, text_long, text_few, text_fits);
      all = all;
      none = none;
      olds = ap (list_all (λ r. is_within r.owner apex)) ((λ i. take (between (length records) (length zone) place same ends count limit i) (sym (ap (drop same) zone_is ∙ drop-drop same place records) i)) ∙ sym old_is) ∙ olds;
      starts = take-add place same records ∙ ap (λ rs. take place records ++ rs) (ap (take same) (sym zone_is) ∙ starts);
      ends = sym (end-is records (place + same) ends within (subst (λ rs. ends ≤ length rs) a_at few)) ∙ ap (λ rs. drop (length rs - ends) rs) (sym a_at) ∙ last ∙ ap (λ rs. drop (length rs - ends) rs) b_is ∙ end-is text same ends text_fits (subst (λ rs. ends ≤ length rs) b_is text_few);
    }
  where
    between : (n zone place same ends : ℕ) → zone ≡ n - place → place ≤ n → (n - ends) - (place + same) ≡ (zone - ends) - same
    between n zone place same ends count limit = omega (arith, count, limit)

-- one record more that lists have in common at their starts
pub take-both : (a b : List Record) (count : ℕ) (x y : Record) → count < length a → count < length b → x ≡ get_or a count x → y ≡ get_or b count y → x ≡ y → take count a ≡ take count b → take (count + 1) a ≡ take (count + 1) b
take-both a b count x y in_a in_b x_is y_is equal same = next-is a count x in_a x_is ∙ (λ i. same i ++ equal i ∷ []) ∙ sym (next-is b count y in_b y_is)

-- or at their ends
end-more : (a : List Record) (count : ℕ) (x : Record) → count < length a → x ≡ get_or a (length a - 1 - count) x → drop (length a - (count + 1)) a ≡ x ∷ drop (length a - count) a
end-more a count x inside here =
    ap (λ n. drop n a) (omega (arith, inside)) ∙ drop_more a (length a - 1 - count) x (omega (arith, inside)) ∙ (λ i. sym here i ∷ drop (next i) a) where
      next : (length a - 1 - count) + 1 ≡ length a - count
      next = omega (arith, inside)

pub drop-both : (a b : List Record) (count : ℕ) (x y : Record) → count < length a → count < length b → x ≡ get_or a (length a - 1 - count) x → y ≡ get_or b (length b - 1 - count) y → x ≡ y → drop (length a - count) a ≡ drop (length b - count) b → drop (length a - (count + 1)) a ≡ drop (length b - (count + 1)) b
drop-both a b count x y in_a in_b x_is y_is equal same = end-more a count x in_a x_is ∙ (λ i. equal i ∷ same i) ∙ sym (end-more b count y in_b y_is)

-- ---- a list that is changed in place

-- the new records are appended, moved before those after the place, and the old ones moved last and left out
pub spliced : {X : Type 0} (xs ys zs us vs : List X) (start end added removed : ℕ) → start ≤ end → end ≤ length xs → added ≡ length ys → removed ≡ end - start → zs ≡ xs ++ ys → us ≡ take end zs ++ (drop (length (drop end zs) - added) (drop end zs) ++ take (length (drop end zs) - added) (drop end zs)) → vs ≡ take start us ++ (drop removed (drop start us) ++ take removed (drop start us)) → take (length vs - removed) vs ≡ take start xs ++ (ys ++ drop end xs)
spliced xs ys zs us vs start end added removed order limit added_is removed_is zs_is us_is vs_is =
    let front : take end zs ≡ take end xs = ap (take end) zs_is ∙ take-append-le end xs ys limit in
    let back : drop end zs ≡ drop end xs ++ ys = ap (drop end) zs_is ∙ drop-append-le end xs ys limit in
    let rest : length (drop end zs) - added ≡ length (drop end xs) = omega (arith, ap length back, length-append (drop end xs) ys, added_is) in
    let us_are : us ≡ take end xs ++ (ys ++ drop end xs) = us_is ∙ (λ i. front i ++ (drop (rest i) (back i) ++ take (rest i) (back i))) ∙ (λ i. take end xs ++ (drop_at (drop end xs) ys (length (drop end xs)) refl i ++ take_at (drop end xs) ys (length (drop end xs)) refl i)) in
    let shorter : start ≤ length (take end xs) = omega (arith, order, limit, length-take end xs) in
    let first : take start us ≡ take start xs = ap (take start) us_are ∙ take-append-le start (take end xs) (ys ++ drop end xs) shorter ∙ sym (take-append-le start (take end xs) (drop end xs) shorter) ∙ ap (take start) (take-append-drop end xs) in
    let behind : drop start us ≡ drop start (take end xs) ++ (ys ++ drop end xs) = ap (drop start) us_are ∙ drop-append-le start (take end xs) (ys ++ drop end xs) shorter in
    let cut : length (drop start (take end xs)) ≡ removed = omega (arith, length-drop start (take end xs), length-take end xs, order, limit, removed_is) in
    let vs_are : vs ≡ (take start xs ++ (ys ++ drop end xs)) ++ drop start (take end xs) =
    vs_is ∙ (λ i. first i ++ ((ap (drop removed) behind ∙ drop_at (drop start (take end xs)) (ys ++ drop end xs) removed cut) i ++ (ap (take removed) behind ∙ take_at (drop start (take end xs)) (ys ++ drop end xs) removed cut) i)) ∙ sym (append_assoc (take start xs) (ys ++ drop end xs) (drop start (take end xs)))
    in
    let kept : length vs - removed ≡ length (take start xs ++ (ys ++ drop end xs)) = omega (arith, ap length vs_are, length-append (take start xs ++ (ys ++ drop end xs)) (drop start (take end xs)), cut) in
    (λ i. take (kept i) (vs_are i)) ∙ take_at (take start xs ++ (ys ++ drop end xs)) (drop start (take end xs)) (length (take start xs ++ (ys ++ drop end xs))) refl

-- a patch that changes nothing leaves the records as they are
pub empty-patch : (apex : Labels) (records text : List Record) (patch : Patch) → patch.is_last ≡ true → patch.start ≡ patch.end → patch.first ≡ patch.last → IsPatch apex records text patch → records_outside apex records ++ text ≡ records
empty-patch apex records text patch is_last old new is =
    sym is.replaced ∙ rw is_last (ap (λ rs. take patch.start records ++ (rs ++ drop patch.end records)) (no-part patch.first patch.last new) ∙ ap (λ n. take patch.start records ++ drop n records) (sym old) ∙ take-append-drop patch.start records) where
      no-part : (first last : ℕ) → first ≡ last → slice_range text first last ≡ []
      no-part first last same = let none : last - first ≡ 0 = omega (arith, same) in ap (λ n. take n (drop first text)) none
