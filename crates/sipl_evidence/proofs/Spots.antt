-- Tables of spots after a pair is added or removed.
use Rattle.std.proofs.Common.{◌≡◌, true, false, cond, eqb, None, Some, refl, sym, ap, ◌∙◌, inl, inr, true≢false}
use Rattle.std.specs.Cmp.{IsEquivalence}
use Rattle.std.specs.Cmp.Rules.{comparing}
use Rattle.std.proofs.Common.{rules}
use Rattle.std.proofs.lemmas.Bool.{cases_Bool, cond-true, cond-false, and_parts, and_from, eqb-true, eq-eqb}
use Rattle.sipl_evidence.specs.declared.spot.Spot.{Spot}
use Rattle.sipl_evidence.specs.Spots.{spot, same_spot}
use Rattle.sipl_evidence.specs.Linked.{Table, LeadsBack, IsOnce}

pub same_spot-true : (x y : Spot) → same_spot x y ≡ true → x ≡ y
same_spot-true x y e =
    let parts = and_parts (eqb x.list y.list) (eqb x.index y.index) e in
    λ i. spot (eqb-true x.list y.list parts.0 i) (eqb-true x.index y.index parts.1 i)

pub same_spot-refl : (x : Spot) → same_spot x x ≡ true
same_spot-refl x = and_from _ _ (eq-eqb x.list x.list refl) (eq-eqb x.index x.index refl)

pub spot_equiv : IsEquivalence same_spot
spot_equiv = search (comparing, rules)

-- a partner is added
module _ (a b a' b' : Table) (x y : Spot)
    (a'_is : (q : Spot) → a' q ≡ cond (same_spot x q) (Some y) (a q))
    (b'_is : (q : Spot) → b' q ≡ cond (same_spot y q) (Some x) (b q)) where
  pub LeadsBack-link : b y ≡ None → LeadsBack a b → LeadsBack a' b'
  LeadsBack-link none leads q p e = elim (cases_Bool (same_spot x q)) [
    | inl same ↦
        let got : Some y ≡ Some p = sym (cond-true _ (Some y) (a q) same) ∙ sym (a'_is q) ∙ e in
        let own : y ≡ p = cc in
        ap b' (sym own) ∙ b'_is y ∙ cond-true _ _ _ (same_spot-refl y) ∙ ap Some (same_spot-true x q same)
    | inr apart ↦
        let back : b p ≡ Some q = leads q p (sym (cond-false _ (Some y) (a q) apart) ∙ sym (a'_is q) ∙ e) in
        elim (cases_Bool (same_spot y p)) [
          | inl same ↦ let never : None ≡ Some q = sym none ∙ ap b (same_spot-true y p same) ∙ back in cc
          | inr other ↦ b'_is p ∙ cond-false _ _ _ other ∙ back
        ]
  ]

  -- the new pair is the only one of its two lists
  pub IsOnce-link : ((q p : Spot) → a q ≡ Some p → q.list ≡ x.list → p.list ≡ y.list → ⊥) → IsOnce a → IsOnce a'
  IsOnce-link new once q r p s e f same_list same_partner = elim (cases_Bool (same_spot x q)) [
    | inl own ↦ elim (cases_Bool (same_spot x r)) [
      | inl too ↦ sym (same_spot-true x q own) ∙ same_spot-true x r too
      | inr apart ↦
          let was : a r ≡ Some s = sym (cond-false _ (Some y) (a r) apart) ∙ sym (a'_is r) ∙ f in
          let got : Some y ≡ Some p = sym (cond-true _ (Some y) (a q) own) ∙ sym (a'_is q) ∙ e in
          let first : y ≡ p = cc in
          absurd (new r s was (sym same_list ∙ ap (λ (t : Spot). t.list) (sym (same_spot-true x q own))) (sym same_partner ∙ ap (λ (t : Spot). t.list) (sym first)))
    ]
    | inr apart ↦
        let was : a q ≡ Some p = sym (cond-false _ (Some y) (a q) apart) ∙ sym (a'_is q) ∙ e in
        elim (cases_Bool (same_spot x r)) [
          | inl own ↦
              let got : Some y ≡ Some s = sym (cond-true _ (Some y) (a r) own) ∙ sym (a'_is r) ∙ f in
              let first : y ≡ s = cc in
              absurd (new q p was (same_list ∙ ap (λ (t : Spot). t.list) (sym (same_spot-true x r own))) (same_partner ∙ ap (λ (t : Spot). t.list) (sym first)))
          | inr too ↦ once q r p s was (sym (cond-false _ (Some y) (a r) too) ∙ sym (a'_is r) ∙ f) same_list same_partner
        ]
  ]

-- the pair of `mine` and `place` is removed: the partner `last` moves to `place`, and its old place `end` is empty
module _ (a b a' b' : Table) (mine place last end : Spot)
    (a'_is : (q : Spot) → a' q ≡ cond (same_spot end q) None (cond (same_spot place q) (Some last) (a q)))
    (b'_is : (q : Spot) → b' q ≡ cond (same_spot mine q) None (cond (same_spot last q) (Some place) (b q)))
    (a_end : a end ≡ Some last) (a_place : a place ≡ Some mine) where
  -- what the table with the moved partner has
  module _ (q p : Spot) (e : a' q ≡ Some p) where
    pub not_end : same_spot end q ≡ false
    not_end = elim (cases_Bool (same_spot end q)) [
      | inl same ↦ let never : None ≡ Some p = sym (cond-true _ None _ same) ∙ sym (a'_is q) ∙ e in cc
      | inr apart ↦ apart
    ]

    without_end : cond (same_spot place q) (Some last) (a q) ≡ Some p
    without_end = sym (cond-false _ None _ not_end) ∙ sym (a'_is q) ∙ e

    pub at_place : same_spot place q ≡ true → last ≡ p
    at_place same = let got : Some last ≡ Some p = sym (cond-true _ (Some last) (a q) same) ∙ without_end in cc

    pub elsewhere : same_spot place q ≡ false → a q ≡ Some p
    elsewhere apart = sym (cond-false _ (Some last) (a q) apart) ∙ without_end

  pub LeadsBack-unlink : LeadsBack a b → LeadsBack a' b'
  LeadsBack-unlink leads q p e = elim (cases_Bool (same_spot place q)) [
    | inl same ↦
        let own : last ≡ p = at_place q p e same in
        let here : place ≡ q = same_spot-true place q same in
        let not_mine : same_spot mine last ≡ false = elim (cases_Bool (same_spot mine last)) [
          | inl mine_is ↦
              let got : Some place ≡ Some end = sym (leads place mine a_place) ∙ ap b (same_spot-true mine last mine_is) ∙ leads end last a_end in
              let moved : place ≡ end = cc in
              absurd (true≢false (sym (same_spot-refl end) ∙ ap (same_spot end) (sym moved ∙ here) ∙ not_end q p e))
          | inr apart ↦ apart
        ] in
        ap b' (sym own) ∙ b'_is last ∙ cond-false _ _ _ not_mine ∙ cond-true _ _ _ (same_spot-refl last) ∙ ap Some here
    | inr apart ↦
        let was : a q ≡ Some p = elsewhere q p e apart in
        let back : b p ≡ Some q = leads q p was in
        let not_mine : same_spot mine p ≡ false = elim (cases_Bool (same_spot mine p)) [
          | inl same ↦
              let got : Some place ≡ Some q = sym (leads place mine a_place) ∙ ap b (same_spot-true mine p same) ∙ back in
              let here : place ≡ q = cc in
              absurd (true≢false (sym (same_spot-refl place) ∙ ap (same_spot place) here ∙ apart))
          | inr other ↦ other
        ] in
        let not_last : same_spot last p ≡ false = elim (cases_Bool (same_spot last p)) [
          | inl same ↦
              let got : Some end ≡ Some q = sym (leads end last a_end) ∙ ap b (same_spot-true last p same) ∙ back in
              let here : end ≡ q = cc in
              absurd (true≢false (sym (same_spot-refl end) ∙ ap (same_spot end) here ∙ not_end q p e))
          | inr other ↦ other
        ] in
        b'_is p ∙ cond-false _ _ _ not_mine ∙ cond-false _ _ _ not_last ∙ back
  ]

  -- each partner that is left was there, in the same list
  pub was_there : end.list ≡ place.list → (q p : Spot) → a' q ≡ Some p → (r : Spot) × (a r ≡ Some p) × (r.list ≡ q.list)
  was_there one_list q p e = elim (cases_Bool (same_spot place q)) [
    | inl same ↦ (end, a_end ∙ ap Some (at_place q p e same), one_list ∙ ap (λ (t : Spot). t.list) (same_spot-true place q same))
    | inr apart ↦ (q, elsewhere q p e apart, refl)
  ]

  -- each partner but the removed one is left, in the same list
  pub is_left : end.list ≡ place.list → (q p : Spot) → a q ≡ Some p → (p ≡ mine → ⊥) → (r : Spot) × (a' r ≡ Some p) × (r.list ≡ q.list)
  is_left one_list q p e other = elim (cases_Bool (same_spot end q)) [
    | inl same ↦
        let got : Some last ≡ Some p = sym a_end ∙ ap a (same_spot-true end q same) ∙ e in
        let own : last ≡ p = cc in
        let apart : same_spot end place ≡ false = elim (cases_Bool (same_spot end place)) [
          | inl one ↦
              let too : Some last ≡ Some mine = sym a_end ∙ ap a (same_spot-true end place one) ∙ a_place in
              let last_is : last ≡ mine = cc in
              absurd (other (sym own ∙ last_is))
          | inr two ↦ two
        ] in
        (place, a'_is place ∙ cond-false _ _ _ apart ∙ cond-true _ _ _ (same_spot-refl place) ∙ ap Some own, sym one_list ∙ ap (λ (t : Spot). t.list) (same_spot-true end q same))
    | inr not_end ↦
        let apart : same_spot place q ≡ false = elim (cases_Bool (same_spot place q)) [
          | inl same ↦
              let got : Some mine ≡ Some p = sym a_place ∙ ap a (same_spot-true place q same) ∙ e in
              let own : mine ≡ p = cc in
              absurd (other (sym own))
          | inr two ↦ two
        ] in
        (q, a'_is q ∙ cond-false _ _ _ not_end ∙ cond-false _ _ _ apart ∙ e, refl)
  ]

  pub IsOnce-unlink : end.list ≡ place.list → LeadsBack a' b' → IsOnce a → IsOnce a'
  IsOnce-unlink one_list leads once q r p s e f same_list same_partner =
      let first = was_there one_list q p e in
      let second = was_there one_list r s f in
      let one : first.0 ≡ second.0 = once first.0 second.0 p s first.1 second.1 (first.2 ∙ same_list ∙ sym second.2) same_partner in
      let both : Some p ≡ Some s = sym first.1 ∙ ap a one ∙ second.1 in
      let partner : p ≡ s = cc in
      let places : Some q ≡ Some r = sym (leads q p e) ∙ ap b' partner ∙ leads r s f in
      cc
