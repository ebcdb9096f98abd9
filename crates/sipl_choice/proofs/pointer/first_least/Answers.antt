use Rattle.std.proofs.Common.{◌≡◌, ℕ, ◌+◌, Bool, true, false, List, Option, None, Some, MatchOption, length, slice_get, option_map, refl, ap, sym, subst, ◌∙◌, arith}
use Rattle.std.proofs.lemmas.Option.{slice_get_read}
use Rattle.sipl_records.specs.declared.data.Data.{Data}
use Rattle.sipl_choice.specs.declared.pointer.Candidate.{Candidate}
use Rattle.sipl_choice.specs.Abilities.{Client}
use Rattle.sipl_choice.specs.Candidates.{choice_by}
use Rattle.sipl_choice.specs.Pointers.{choice_at, choice_of, chosen, chosen_pointer, is_before}
use Rattle.sipl_choice.proofs.Choosing.{NoneApply, IsFirstLeast, none-more, least-more_none, least-first, least-more_after, least-more_before, pointer-none, pointer-least, chosen-none, chosen-least}
use Rattle.sipl_choice.proofs.pointer.first_least.Goals as goal
use Rattle.sipl_choice.proofs.pointer.first_least.Goals.{in-Some-least, in-None, then-is_less, else-is_less}

module _ (secure : Bool) (client : Client) (set : List Data) where
  -- the invariant of the loop
  abbrev IsFound : ℕ → Option (ℕ × Candidate) → Type 0
  IsFound end found = MatchOption found (NoneApply secure client set end) (λ found. IsFirstLeast secure client set end found.0 (choice_by found.1))

  -- what the data at a place choose
  choice-read : (place : ℕ) (datum : Data) → slice_get set place ≡ Some datum → choice_at secure client set place ≡ choice_of secure client datum
  choice-read place datum at = ap (λ o. elim o [ Some datum ↦ choice_of secure client datum | None ↦ None ]) at

  passed : (place : ℕ) (least : Option (ℕ × Candidate)) → IsFound place least → choice_at secure client set place ≡ None → IsFound (place + 1) least
  passed place None found here = none-more secure client set place found here
  passed place (Some least) found here = least-more_none secure client set place least.0 (choice_by least.1) found here

  -- whether a candidate is the first, or before the least so far
  abbrev IsBetter : Candidate → Option (ℕ × Candidate) → Bool → Type 0
  IsBetter candidate least test = MatchOption least (test ≡ true) (λ found. test ≡ is_before (choice_by candidate) (choice_by found.1))

  taken : (place : ℕ) (candidate : Candidate) (least : Option (ℕ × Candidate)) (test : Bool) → IsFound place least → choice_at secure client set place ≡ Some (choice_by candidate) → IsBetter candidate least test → test ≡ true → IsFound (place + 1) (Some (place, candidate))
  taken place candidate None test found here better is = least-first secure client set place (choice_by candidate) found here
  taken place candidate (Some least) test found here better is = least-more_before secure client set place least.0 (choice_by least.1) (choice_by candidate) found here (sym better ∙ is)

  left : (place : ℕ) (candidate : Candidate) (least : Option (ℕ × Candidate)) (test : Bool) → IsFound place least → choice_at secure client set place ≡ Some (choice_by candidate) → IsBetter candidate least test → test ≡ false → IsFound (place + 1) least
  left place candidate None test found here better is = let never : true ≡ false = sym better ∙ is in cc
  left place candidate (Some least) test found here better is = least-more_after secure client set place least.0 (choice_by least.1) (choice_by candidate) found here (sym better ∙ is)

  found-pointer : (least : Option (ℕ × Candidate)) → IsFound (length set) least → option_map (λ found. found.0) least ≡ chosen_pointer secure client set
  found-pointer None found = sym (pointer-none secure client set found)
  found-pointer (Some least) found = sym (pointer-least secure client set least.0 (choice_by least.1) found)

  found-choice : (least : Option (ℕ × Candidate)) → IsFound (length set) least → option_map (λ found. choice_by found.1) least ≡ chosen secure client set
  found-choice None found = sym (chosen-none secure client set found)
  found-choice (Some least) found = sym (chosen-least secure client set least.0 (choice_by least.1) found)

pub loop-place-preserved-in_default : goal.loop-place-preserved-in_default
loop-place-preserved-in_default c =
    let set = c.args.set.now in
    let at = slice_get_read set (length set) c.loop-place.place c.index-set-place.result refl c.loop-place-test.true c.index-set-place.is in
    passed c.args.secure c.args.abilities.now set c.loop-place.place c.loop-place.least c.loop-place.invariant
    (choice-read c.args.secure c.args.abilities.now set c.loop-place.place c.index-set-place.result at ∙ sym c.in_default.ensures)

pub loop-place-preserved : goal.loop-place-preserved
loop-place-preserved c =
    let secure = c.args.secure in
    let client = c.args.abilities.now in
    let set = c.args.set.now in
    let candidate = c.in-Some.candidate in
    let better : IsBetter secure client set candidate c.loop-place.least c.match-least.is_less = elim c.match-least.branch [
      | in-Some-least w ↦ subst (λ least. IsBetter secure client set candidate least c.match-least.is_less) (sym w.in-Some-least.is) (w.is_less-is ∙ w.is_before-is_less.ensures)
      | in-None w ↦ subst (λ least. IsBetter secure client set candidate least c.match-least.is_less) (sym w.in-None.is) w.is_less-is
    ] in
    let at = slice_get_read set (length set) c.loop-place.place c.index-set-place.result refl c.loop-place-test.true c.index-set-place.is in
    let here = choice-read secure client set c.loop-place.place c.index-set-place.result at ∙ sym c.in-Some.ensures in
    elim c.if-is_less.branch [
      | then-is_less w ↦ subst (IsFound secure client set (c.loop-place.place + 1)) (sym w.least-is) (taken secure client set c.loop-place.place candidate c.loop-place.least c.match-least.is_less c.loop-place.invariant here better w.if-is_less.true)
      | else-is_less w ↦ subst (IsFound secure client set (c.loop-place.place + 1)) (sym w.least-is) (left secure client set c.loop-place.place candidate c.loop-place.least c.match-least.is_less c.loop-place.invariant here better w.if-is_less.false)
    ]

pub returns-clause-place : goal.returns-clause-place
returns-clause-place c =
    let set = c.args.set.now in
    let end : c.loop-place.place ≡ length set = omega arith in
    found-pointer c.args.secure c.args.abilities.now set c.loop-place.least
    (subst (λ end. IsFound c.args.secure c.args.abilities.now set end c.loop-place.least) end c.loop-place.invariant)

pub returns-clause-choice : goal.returns-clause-choice
returns-clause-choice c =
    let set = c.args.set.now in
    let end : c.loop-place.place ≡ length set = omega arith in
    found-choice c.args.secure c.args.abilities.now set c.loop-place.least
    (subst (λ end. IsFound c.args.secure c.args.abilities.now set end c.loop-place.least) end c.loop-place.invariant)
