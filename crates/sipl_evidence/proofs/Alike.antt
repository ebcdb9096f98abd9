-- What a computation asks for and results in depends on the sets of the keys that it asks for only.
use Rattle.std.proofs.Common.{◌≡◌, List, ◌∷◌, refl, ap, ◌∙◌}
use Rattle.std.specs.List.{All}
use Rattle.std.proofs.lemmas.List.Elements.{All-head, All-tail}
use Rattle.sipl_records.specs.declared.record.Key.{Key}
use Rattle.sipl_evidence.specs.Looks.{Look, Asking, done, ask, result_of, asked}

-- two look-ups have the same sets of these keys
abbrev pub AreAlike : Look → Look → List Key → Type 0
AreAlike one other keys = All (λ k. one k ≡ other k) keys

module _ {A : Type 0} (one other : Look) where
  pub result_of-alike : (asking : Asking A) → AreAlike one other (asked one asking) → result_of one asking ≡ result_of other asking
  result_of-alike (done value) alike = refl
  result_of-alike (ask k next) alike =
      result_of-alike (next (one k)) (All-tail (λ k. one k ≡ other k) k (asked one (next (one k))) alike)
      ∙ ap (λ set. result_of other (next set)) (All-head (λ k. one k ≡ other k) k (asked one (next (one k))) alike)

  pub asked-alike : (asking : Asking A) → AreAlike one other (asked one asking) → asked one asking ≡ asked other asking
  asked-alike (done value) alike = refl
  asked-alike (ask k next) alike =
      ap (λ keys. k ∷ keys)
      (asked-alike (next (one k)) (All-tail (λ k. one k ≡ other k) k (asked one (next (one k))) alike)
      ∙ ap (λ set. asked other (next set)) (All-head (λ k. one k ≡ other k) k (asked one (next (one k))) alike))
