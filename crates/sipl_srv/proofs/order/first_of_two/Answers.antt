use Rattle.std.proofs.Common.{◌≡◌, ℕ, zero, suc, ◌<◌, ◌∷◌, [], Some, map, get_or, slice_index, refl, sym, ap, ◌∙◌, arith}
use Rattle.std.proofs.lemmas.List.{length-map}
use Rattle.sipl_srv.specs.Order.{chosen_place}
use Rattle.sipl_srv.proofs.TwoPicks.{two-ordered}
use Rattle.sipl_srv.proofs.order.first_of_two.Goals as goal

-- a place of two is itself
own : (i : ℕ) → i < 2 → slice_index (0 ∷ 1 ∷ []) i ≡ i
own zero within = refl
own (suc zero) within = refl
own (suc (suc i)) within = absurd (omega (arith, within))

pub returns-clause-order : goal.returns-clause-order
returns-clause-order g c =
    let ranks = map g.T.Ranked.rank c.args.picks.now in
    two-ordered ranks c.args.draws.now c.next_index.result (length-map c.args.picks.now g.T.Ranked.rank ∙ c.requires.two_picks)
    (omega (arith, c.words.ensures.len))
    (ap (λ ws. chosen_place ranks (0 ∷ 1 ∷ []) (get_or ws 0 0)) (sym c.words.ensures.value) ∙ c.next_index.ensures.chosen ∙ ap Some (own c.next_index.result c.next_index.ensures.within))
