-- The lists of pairs after a pair is added or removed.
use Rattle.std.proofs.Common.{◌≡◌, ℕ, ◌+◌, ◌-◌, ◌<◌, ◌≤◌, Bool, true, false, cond, ◌&&◌, ◌||◌, eqb, Option, None, Some, is_some, refl, sym, ap, ◌∙◌, inl, inr, arith, true≢false, Decides}
use Rattle.std.proofs.lemmas.Bool.{cases_Bool, cond-true, cond-false, and_parts, eqb-true, eq-eqb, ltb-true, lt-ltb, le-ltb, ne_eqb}
use Rattle.std.proofs.lemmas.Bool.Decides.{same_from_decides, Decides-like}
use Rattle.sipl_evidence.specs.declared.spot.Spot.{Spot}
use Rattle.sipl_evidence.specs.declared.lists.Lists.{Lists}
use Rattle.sipl_evidence.specs.Spots.{spot, same_spot}
use Rattle.sipl_evidence.specs.Lists.{at, len_of, AreDense, HasSpace}
use Rattle.sipl_evidence.specs.Dependents.{depends}
use Rattle.sipl_evidence.specs.Linked.{ArePaired, AreLast, IsNew, pairs_of}
use Rattle.sipl_evidence.proofs.Spots.{same_spot-true, LeadsBack-link, IsOnce-link, LeadsBack-unlink, IsOnce-unlink, was_there, is_left}
use Rattle.sipl_evidence.proofs.Pairs.{HasPair, Decides-depends, or_there}

pub nothing : {X : Type 0} (o : Option X) → is_some o ≡ false → o ≡ None
nothing None e = refl
nothing (Some x) e = let never : true ≡ false = e in cc

pub something : {X : Type 0} (o : Option X) (x : X) → o ≡ Some x → is_some o ≡ true
something o x e = ap is_some e

-- there is nothing after the last place of a list
pub none_after : (lists : Lists) → AreDense lists → (list index : ℕ) → len_of lists list ≤ index → at lists (spot list index) ≡ None
none_after lists dense list index past = nothing _ (dense.within (spot list index) ∙ le-ltb _ _ past)

pub some_within : (lists : Lists) → AreDense lists → (list index : ℕ) → index < len_of lists list → is_some (at lists (spot list index)) ≡ true
some_within lists dense list index inside = dense.within (spot list index) ∙ lt-ltb _ _ inside

pub within_len : (lists : Lists) → AreDense lists → (place p : Spot) → at lists place ≡ Some p → place.index < len_of lists place.list
within_len lists dense place p e = ltb-true _ _ (sym (dense.within place) ∙ something _ p e)

pub Decides-pairs : (lists : Lists) → AreDense lists → (code id : ℕ) → Decides (depends (pairs_of lists) code id) (HasPair (at lists) code id)
Decides-pairs lists dense = Decides-depends lists.spots.entries dense.unique

-- a pair is added
module _ (A B A' B' : Lists) (code id rank index : ℕ) (rank_is : rank ≡ len_of A code) (index_is : index ≡ len_of B id)
    (paired : ArePaired A B) (codes : AreDense A') (ids : AreDense B')
    (at_A : (place : Spot) → at A' place ≡ cond (same_spot (spot code (len_of A code)) place) (Some (spot id index)) (at A place))
    (at_B : (place : Spot) → at B' place ≡ cond (same_spot (spot id (len_of B id)) place) (Some (spot code rank)) (at B place)) where
  at_A' : (place : Spot) → at A' place ≡ cond (same_spot (spot code rank) place) (Some (spot id index)) (at A place)
  at_A' place = at_A place ∙ ap (λ n. cond (same_spot (spot code n) place) (Some (spot id index)) (at A place)) (sym rank_is)

  at_B' : (place : Spot) → at B' place ≡ cond (same_spot (spot id index) place) (Some (spot code rank)) (at B place)
  at_B' place = at_B place ∙ ap (λ n. cond (same_spot (spot id n) place) (Some (spot code rank)) (at B place)) (sym index_is)

  pub ArePaired-link : IsNew A code id → ArePaired A' B'
  ArePaired-link new = record {
    codes = codes;
    ids = ids;
    there = LeadsBack-link (at A) (at B) (at A') (at B') (spot code rank) (spot id index) at_A' at_B' (none_after B paired.ids id index (omega arith)) paired.there;
    back = LeadsBack-link (at B) (at A) (at B') (at A') (spot id index) (spot code rank) at_B' at_A' (none_after A paired.codes code rank (omega arith)) paired.back;
    once = IsOnce-link (at A) (at B) (at A') (at B') (spot code rank) (spot id index) at_A' at_B' new paired.once;
  }

  pub AreLast-link : ((other : ℕ) → len_of A' other ≡ cond (eqb code other) (len_of A code + 1) (len_of A other)) → IsNew A code id → AreLast A id → AreLast A' id
  AreLast-link len new last place p e same_id = elim (cases_Bool (same_spot (spot code rank) place)) [
    | inl same ↦
        let here = same_spot-true (spot code rank) place same in
        let own : eqb code place.list ≡ true = eq-eqb _ _ (ap (λ (t : Spot). t.list) here) in
        omega (arith, ap (λ (t : Spot). t.index) here, len place.list ∙ cond-true _ _ _ own)
    | inr apart ↦
        let was : at A place ≡ Some p = sym (cond-false _ (Some (spot id index)) (at A place) apart) ∙ sym (at_A' place) ∙ e in
        let other : eqb code place.list ≡ false = ne_eqb _ _ (λ is. new place p was (sym is) same_id) in
        omega (arith, last place p was same_id, len place.list ∙ cond-false _ _ _ other)
  ]

-- a pair whose code's last one has another id is new
pub IsNew-last : (A : Lists) (code id : ℕ) → AreDense A → AreLast A id → ((p : Spot) → at A (spot code (len_of A code - 1)) ≡ Some p → p.list ≡ id → ⊥) → IsNew A code id
IsNew-last A code id dense last apart place p e same_code same_id =
    let at_end : place.index + 1 ≡ len_of A place.list = last place p e same_id in
    let own = ap (len_of A) same_code in
    let index : place.index ≡ len_of A code - 1 = omega arith in
    apart p (ap (at A) (λ i. spot (sym same_code i) (sym index i)) ∙ e) same_id

-- a pair that the last one of its code is adds nothing
pub depends-there : (A : Lists) (code id : ℕ) (p : Spot) → AreDense A → at A (spot code (len_of A code - 1)) ≡ Some p → p.list ≡ id
    → (k other : ℕ) → depends (pairs_of A) k other ≡ ((eqb code k && eqb id other) || depends (pairs_of A) k other)
depends-there A code id p dense e same_id k other =
    or_there _ _ (λ both.
    let parts = and_parts (eqb code k) (eqb id other) both in
    (Decides-pairs A dense k other).1 (spot code (len_of A code - 1), p, e, eqb-true _ _ parts.0, same_id ∙ eqb-true _ _ parts.1))

-- no pair has an id that none depends on
pub AreLast-none : (A : Lists) (id : ℕ) → AreDense A → ((code : ℕ) → depends (pairs_of A) code id ≡ false) → AreLast A id
AreLast-none A id dense none place p e same_id =
    absurd (true≢false (sym ((Decides-pairs A dense place.list id).1 (place, p, e, refl, same_id)) ∙ none place.list))

-- a pair is removed: A1 and B1 have lost the last places, and in A2 and B2 the moved partner is back
module _ (A B A' B' : Lists) (id : ℕ) (place last : Spot) (paired : ArePaired A B)
    (place_is : at B (spot id (len_of B id - 1)) ≡ Some place)
    (last_is : at A (spot place.list (len_of A place.list - 1)) ≡ Some last)
    (codes : AreDense A') (ids : AreDense B')
    (at_A : (q : Spot) → at A' q ≡ cond (same_spot (spot place.list (len_of A place.list - 1)) q) None (cond (same_spot place q) (Some last) (at A q)))
    (at_B : (q : Spot) → at B' q ≡ cond (same_spot (spot id (len_of B id - 1)) q) None (cond (same_spot last q) (Some place) (at B q))) where
  mine : Spot
  mine = spot id (len_of B id - 1)

  end : Spot
  end = spot place.list (len_of A place.list - 1)

  place_there : at A place ≡ Some (spot id (len_of B id - 1))
  place_there = paired.back (spot id (len_of B id - 1)) place place_is

  end_there : at B last ≡ Some (spot place.list (len_of A place.list - 1))
  end_there = paired.there (spot place.list (len_of A place.list - 1)) last last_is

  pub ArePaired-unlink : ArePaired A' B'
  ArePaired-unlink =
      let there = LeadsBack-unlink (at A) (at B) (at A') (at B') (spot id (len_of B id - 1)) place last (spot place.list (len_of A place.list - 1)) at_A at_B last_is place_there paired.there in
      record {
        codes = codes;
        ids = ids;
        there = there;
        back = LeadsBack-unlink (at B) (at A) (at B') (at A') (spot place.list (len_of A place.list - 1)) last place (spot id (len_of B id - 1)) at_B at_A place_is end_there paired.back;
        once = IsOnce-unlink (at A) (at B) (at A') (at B') (spot id (len_of B id - 1)) place last (spot place.list (len_of A place.list - 1)) at_A at_B last_is place_there refl there paired.once;
      }

  pub depends-unlink : (code other : ℕ) → eqb id other ≡ false → depends (pairs_of A') code other ≡ depends (pairs_of A) code other
  depends-unlink code other apart =
      same_from_decides (depends (pairs_of A') code other) (depends (pairs_of A) code other)
      (Decides-like (depends (pairs_of A') code other) back there (Decides-pairs A' codes code other))
      (Decides-pairs A paired.codes code other)
    where
      back : HasPair (at A') code other → HasPair (at A) code other
      back h =
          let r = was_there (at A) (at B) (at A') (at B') (spot id (len_of B id - 1)) place last (spot place.list (len_of A place.list - 1)) at_A at_B last_is place_there refl h.0 h.1 h.2 in
          (r.0, h.1, r.1, r.2 ∙ h.3, h.4)

      there : HasPair (at A) code other → HasPair (at A') code other
      there h =
          let r = is_left (at A) (at B) (at A') (at B') (spot id (len_of B id - 1)) place last (spot place.list (len_of A place.list - 1)) at_A at_B last_is place_there refl h.0 h.1 h.2
          (λ own. true≢false (sym (eq-eqb id other (sym (ap (λ (t : Spot). t.list) own) ∙ h.4)) ∙ apart)) in
          (r.0, h.1, r.1, r.2 ∙ h.3, h.4)

-- the order of two changes of a table at two places does not matter
commuted : (x y q : Spot) (v w o : Option Spot) → same_spot x y ≡ false → cond (same_spot x q) v (cond (same_spot y q) w o) ≡ cond (same_spot y q) w (cond (same_spot x q) v o)
commuted x y q v w o apart = elim (cases_Bool (same_spot x q)) [
  | inl one ↦
      let other : same_spot y q ≡ false = elim (cases_Bool (same_spot y q)) [
        | inl too ↦ absurd (true≢false (sym (ap (same_spot x) (same_spot-true y q too) ∙ one) ∙ apart))
        | inr none ↦ none
      ] in
      cond-true _ _ _ one ∙ sym (cond-false _ _ _ other ∙ cond-true _ _ _ one)
  | inr apart ↦ cond-false _ _ _ apart ∙ sym (ap (λ o. cond (same_spot y q) w o) (cond-false _ _ _ apart))
]

-- the later of two changes of a table at one place is lost
covered : (x y q : Spot) (v w o : Option Spot) → x ≡ y → cond (same_spot x q) v o ≡ cond (same_spot x q) v (cond (same_spot y q) w o)
covered x y q v w o is = elim (cases_Bool (same_spot x q)) [
  | inl one ↦ cond-true _ _ _ one ∙ sym (cond-true _ _ _ one)
  | inr apart ↦ cond-false _ _ _ apart ∙ sym (cond-false _ _ _ apart ∙ cond-false _ _ _ (ap (λ t. same_spot t q) (sym is) ∙ apart))
]

-- the last places of a code and of an id are emptied, and a partner is moved if it was not in the emptied place
module _ (A B A1 B1 : Lists) (id : ℕ) (place last : Spot) (paired : ArePaired A B)
    (place_is : at B (spot id (len_of B id - 1)) ≡ Some place)
    (last_is : at A (spot place.list (len_of A place.list - 1)) ≡ Some last)
    (at_A1 : (q : Spot) → at A1 q ≡ cond (same_spot (spot place.list (len_of A place.list - 1)) q) None (at A q))
    (at_B1 : (q : Spot) → at B1 q ≡ cond (same_spot (spot id (len_of B id - 1)) q) None (at B q)) where
  back_place : at A place ≡ Some (spot id (len_of B id - 1))
  back_place = paired.back (spot id (len_of B id - 1)) place place_is

  back_last : at B last ≡ Some (spot place.list (len_of A place.list - 1))
  back_last = paired.there (spot place.list (len_of A place.list - 1)) last last_is

  module _ (index_is : place.index ≡ len_of A place.list - 1) where
    place_end : place ≡ spot place.list (len_of A place.list - 1)
    place_end = λ i. spot place.list (index_is i)

    last_mine : spot id (len_of B id - 1) ≡ last
    last_mine =
        let both : Some (spot id (len_of B id - 1)) ≡ Some last = sym back_place ∙ ap (at A) place_end ∙ last_is in
        cc

    at_A-unmoved : (q : Spot) → at A1 q ≡ cond (same_spot (spot place.list (len_of A place.list - 1)) q) None (cond (same_spot place q) (Some last) (at A q))
    at_A-unmoved q = at_A1 q ∙ covered (spot place.list (len_of A place.list - 1)) place q None (Some last) (at A q) (sym place_end)

    at_B-unmoved : (q : Spot) → at B1 q ≡ cond (same_spot (spot id (len_of B id - 1)) q) None (cond (same_spot last q) (Some place) (at B q))
    at_B-unmoved q = at_B1 q ∙ covered (spot id (len_of B id - 1)) last q None (Some place) (at B q) last_mine

    module _ (codes : AreDense A1) (ids : AreDense B1) where
      pub ArePaired-unmoved : ArePaired A1 B1
      ArePaired-unmoved = ArePaired-unlink A B A1 B1 id place last paired place_is last_is codes ids at_A-unmoved at_B-unmoved

      pub depends-unmoved : (code other : ℕ) → eqb id other ≡ false → depends (pairs_of A1) code other ≡ depends (pairs_of A) code other
      depends-unmoved = depends-unlink A B A1 B1 id place last paired place_is last_is codes ids at_A-unmoved at_B-unmoved

  module _ (A' B' : Lists) (index_apart : place.index ≡ len_of A place.list - 1 → ⊥)
      (at_A2 : (q : Spot) → at A' q ≡ cond (same_spot place q) (Some last) (at A1 q))
      (at_B2 : (q : Spot) → at B' q ≡ cond (same_spot last q) (Some place) (at B1 q)) where
    apart_end : same_spot place (spot place.list (len_of A place.list - 1)) ≡ false
    apart_end = elim (cases_Bool (same_spot place (spot place.list (len_of A place.list - 1)))) [
      | inl same ↦ absurd (index_apart (ap (λ (t : Spot). t.index) (same_spot-true place (spot place.list (len_of A place.list - 1)) same)))
      | inr none ↦ none
    ]

    apart_mine : same_spot last (spot id (len_of B id - 1)) ≡ false
    apart_mine = elim (cases_Bool (same_spot last (spot id (len_of B id - 1)))) [
      | inl same ↦
          let both : Some (spot place.list (len_of A place.list - 1)) ≡ Some place = sym back_last ∙ ap (at B) (same_spot-true last (spot id (len_of B id - 1)) same) ∙ place_is in
          let end_is : spot place.list (len_of A place.list - 1) ≡ place = cc in
          absurd (index_apart (sym (ap (λ (t : Spot). t.index) end_is)))
      | inr none ↦ none
    ]

    at_A-moved : (q : Spot) → at A' q ≡ cond (same_spot (spot place.list (len_of A place.list - 1)) q) None (cond (same_spot place q) (Some last) (at A q))
    at_A-moved q = at_A2 q ∙ ap (λ o. cond (same_spot place q) (Some last) o) (at_A1 q) ∙ commuted place (spot place.list (len_of A place.list - 1)) q (Some last) None (at A q) apart_end

    at_B-moved : (q : Spot) → at B' q ≡ cond (same_spot (spot id (len_of B id - 1)) q) None (cond (same_spot last q) (Some place) (at B q))
    at_B-moved q = at_B2 q ∙ ap (λ o. cond (same_spot last q) (Some place) o) (at_B1 q) ∙ commuted last (spot id (len_of B id - 1)) q (Some place) None (at B q) apart_mine

    module _ (codes : AreDense A') (ids : AreDense B') where
      pub ArePaired-moved : ArePaired A' B'
      ArePaired-moved = ArePaired-unlink A B A' B' id place last paired place_is last_is codes ids at_A-moved at_B-moved

      pub depends-moved : (code other : ℕ) → eqb id other ≡ false → depends (pairs_of A') code other ≡ depends (pairs_of A) code other
      depends-moved = depends-unlink A B A' B' id place last paired place_is last_is codes ids at_A-moved at_B-moved

-- an id without a place has no pair
pub depends-gone : (A B : Lists) (id : ℕ) → ArePaired A B → len_of B id ≡ 0 → (code : ℕ) → depends (pairs_of A) code id ≡ false
depends-gone A B id paired none code = elim (cases_Bool (depends (pairs_of A) code id)) [
  | inr none ↦ none
  | inl some ↦
      let h = (Decides-pairs A paired.codes code id).0 some in
      absurd (omega (arith, within_len B paired.ids h.1 h.0 (paired.there h.0 h.1 h.2), ap (len_of B) h.4))
]

-- there is space for fewer spots
pub HasSpace-fewer : (lists : Lists) (more room : ℕ) → room ≤ more → HasSpace lists more → HasSpace lists room
HasSpace-fewer lists more room fewer space = record { spots = omega (arith, space.spots); lens = omega (arith, space.lens) }

-- one item more adds its pair
pub one_item_more : (x i h d : Bool) → ((x && i) || ((i && h) || d)) ≡ ((i && (h || x)) || d)
one_item_more true true true d = refl
one_item_more true true false d = refl
one_item_more true false h d = refl
one_item_more false true true d = refl
one_item_more false true false d = refl
one_item_more false false h d = refl

pub no_item : (i d : Bool) → d ≡ ((i && false) || d)
no_item true d = refl
no_item false d = refl
