use Rattle.std.proofs.Common.{◌≡◌, ◌-◌, ℕ, Bool, true, List, Option, None, Some, Result, Ok, Err, IfOk, IfSome, ap, sym, ◌∙◌, take, drop}
use Rattle.std.specs.List.{list_all, slice_range}
use Rattle.std.proofs.lemmas.List.{take-append-drop}
use Rattle.std.proofs.lemmas.List.Folds.{list_all-append}
use Rattle.indexmap.specs.IndexSet.{contains}
use Rattle.sipl_names.specs.Labels.{is_within, same_name}
use Rattle.sipl_records.specs.declared.record.Record.{Record}
use Rattle.sipl_zonestore.specs.Differences.{DifferAt}
use Rattle.sipl_zonestore.proofs.DifferingRecords.{drop-all}
use Rattle.sipl_zonestore.proofs.Elements.{and_first}
use Rattle.sipl_zonestore.proofs.Parts.{part-differ}
use Rattle.sipl_zonestore.proofs.PatchedLists.{text-parts}
use Rattle.sipl_zonestore.proofs.differences.owners_of_patch.Goals as goal

if_both : {O E : Type 0} (P Q : O → Type 0) (found : Result (Option O) E) → ((owners : O) → P owners → Q owners) → IfOk found (λ some. IfSome some P) → IfOk found (λ some. IfSome some Q)
if_both P Q (Ok (Some owners)) more is = more owners is
if_both P Q (Ok None) more is = tt
if_both P Q (Err fault) more is = tt

take-all : {X : Type 0} (p : X → Bool) (n : ℕ) (xs : List X) → list_all p xs ≡ true → list_all p (take n xs) ≡ true
take-all p n xs all =
    and_first (list_all p (take n xs)) (list_all p (drop n xs)) (sym (list_all-append p (take n xs) (drop n xs)) ∙ ap (list_all p) (take-append-drop n xs) ∙ all)

pub changed_owners-requires : goal.changed_owners-requires
changed_owners-requires c =
    let within : Record → Bool = λ r. is_within r.owner c.args.apex.now in
    record { within = take-all within (c.args.patch.last - c.args.patch.first) (drop c.args.patch.first c.args.text.now) (drop-all within c.args.patch.first c.args.text.now c.requires.within) }

pub returns : goal.returns
returns c =
    let apex = c.args.apex.now in
    let records = c.args.records.now in
    let text = c.args.text.now in
    let patch = c.args.patch in
    let old = slice_range records patch.start patch.end in
    let new = slice_range text patch.first patch.last in
    if_both (λ owners. DifferAt apex (contains same_name owners) old new) (λ owners. DifferAt apex (contains same_name owners) records text) c.changed_owners.result (λ owners differ. part-differ apex (contains same_name owners) records text old new (take patch.first text) (drop patch.last text) c.requires.patch.zone (sym (text-parts text patch.first patch.last c.requires.patch.text_order)) differ) c.changed_owners.ensures
