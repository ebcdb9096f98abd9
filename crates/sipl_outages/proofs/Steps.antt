-- The calls of a board that change its table: what each makes, and that the board stays consistent.
use Rattle.std.proofs.Common.{◌≡◌, ℕ, ◌+◌, ◌^◌, ◌<◌, ◌≤◌, ◌==◌, max, false, not, ◌&&◌, leb, ltb, [], ◌∷◌, ◌++◌, map, length, filter, is_some, Some, None, Ok, refl, sym, ap, ◌∙◌, rules, arith}
use Rattle.std.specs.List.{list_all, IsDistinct}
use Rattle.std.specs.Map.{keys_of, lookup, remove_entry}
use Rattle.std.proofs.lemmas.Bool.{cond-true, cond-false, le-ltb, lt-leb}
use Rattle.std.proofs.lemmas.List.{length-append, length-map}
use Rattle.indexmap.specs.IndexMap.{insert_entry}
use Rattle.sipl_choice.specs.declared.endpoint.Endpoint.{Endpoint}
use Rattle.sipl_choice.specs.Endpoints.{same_endpoint}
use Rattle.sipl_outages.specs.Holds.{Holds, is_held, extended}
use Rattle.sipl_outages.specs.Holds.BoardEvent.{Hold, Release}
use Rattle.sipl_outages.specs.Board.{BoardState, IsConsistent, Makes, is_lasting}
use Rattle.sipl_outages.proofs.Ends.{Ends, is_some-lookup_lasting, insert_entry-held, lasting-extended, lasting-push, lasting-filter, lasting-later, length-filter_le, remove_entry-filter}

abbrev pub holds_of : ℕ → Ends → Holds
holds_of now es = record { now = now; ends = es }

abbrev pub board_of : ℕ → Ends → ℕ → BoardState
board_of now es max_holds = record { holds = holds_of now es; max_holds = max_holds }

lt-neq : (ms : ℕ) → 0 < ms → (ms == 0) ≡ false
lt-neq ms positive = search rules

module _ (now : ℕ) (es : Ends) (max_holds : ℕ) (good : IsConsistent (board_of now es max_holds)) where
  -- an endpoint is held exactly where it has an end
  pub is_held-lookup : (k : Endpoint) → is_held (holds_of now es) k ≡ is_some (lookup (same_endpoint k) es)
  is_held-lookup k = sym (is_some-lookup_lasting now (same_endpoint k) es good.lasting)

  -- ---- a move of the clock

  pub advance_keeps : (to : ℕ) → to ≤ 2 ^ 52 → (new : Ends) → IsDistinct same_endpoint (keys_of new) → new ≡ filter (λ hold. ltb to hold.1) es
      → IsConsistent (board_of to new max_holds)
  advance_keeps to early new apart is =
      record {
        distinct = apart;
        lasting = ap (list_all (is_lasting to)) is ∙ lasting-later now to es good.lasting;
        within = omega (arith, ap length is, length-filter_le (λ hold. ltb to hold.1) es, good.within);
        limit = good.limit;
        time = early;
      }

  module _ (k : Endpoint) (new : Ends) where
    -- ---- the release of a held endpoint

    pub release_keeps : IsDistinct same_endpoint (keys_of new) → new ≡ remove_entry (same_endpoint k) es → IsConsistent (board_of now new max_holds)
    release_keeps apart is =
        let kept = λ (hold : Endpoint × ℕ). not (same_endpoint k hold.0) in
        let left : new ≡ filter kept es = is ∙ remove_entry-filter k es good.distinct in
        record {
          distinct = apart;
          lasting = ap (list_all (is_lasting now)) left ∙ lasting-filter now kept es good.lasting;
          within = omega (arith, ap length left, length-filter_le kept es, good.within);
          limit = good.limit;
          time = good.time;
        }

    pub release_makes : (end : ℕ) → lookup (same_endpoint k) es ≡ Some end → new ≡ remove_entry (same_endpoint k) es
        → IsDistinct same_endpoint (keys_of new) → Makes (Release k) (board_of now es max_holds) (board_of now new max_holds) (Ok (tt {0}))
    release_makes end found is apart =
        record {
          accepted = cond-true _ _ _ (is_held-lookup k ∙ ap is_some found);
          after = ap (holds_of now) (is ∙ remove_entry-filter k es good.distinct);
          refused = tt;
          unchanged = tt;
          limit = refl;
          consistent = release_keeps apart is;
        }

    module _ (ms : ℕ) (fits : now + ms ≤ 2 ^ 52) where
      -- ---- a hold of a held endpoint

      pub extend_keeps : (old : ℕ) → lookup (same_endpoint k) es ≡ Some old → new ≡ insert_entry same_endpoint es k (max old (now + ms))
          → IsDistinct same_endpoint (keys_of new) → IsConsistent (board_of now new max_holds)
      extend_keeps old found is apart =
          let left : new ≡ map (extended k (now + ms)) es = is ∙ insert_entry-held k (now + ms) old es found good.distinct in
          record {
            distinct = apart;
            lasting = ap (list_all (is_lasting now)) left ∙ lasting-extended now k (now + ms) es fits good.lasting;
            within = omega (arith, ap length left, length-map es (extended k (now + ms)), good.within);
            limit = good.limit;
            time = good.time;
          }

      pub extend_makes : (old : ℕ) → lookup (same_endpoint k) es ≡ Some old → new ≡ insert_entry same_endpoint es k (max old (now + ms))
          → IsDistinct same_endpoint (keys_of new) → Makes (Hold k ms) (board_of now es max_holds) (board_of now new max_holds) (Ok (tt {0}))
      extend_makes old found is apart =
          let held = is_held-lookup k ∙ ap is_some found in
          record {
            accepted = cond-false _ _ _ (le-ltb (2 ^ 52) (now + ms) fits)
                ∙ cond-false _ _ _ (ap (λ b. (not b && not (ms == 0)) && leb max_holds (length es)) held);
            after = ap (holds_of now) (is ∙ insert_entry-held k (now + ms) old es found good.distinct) ∙ sym (cond-true _ _ _ held);
            refused = tt;
            unchanged = tt;
            limit = refl;
            consistent = extend_keeps old found is apart;
          }

      -- ---- a new hold

      pub add_keeps : 0 < ms → length es < max_holds → new ≡ es ++ (k, now + ms) ∷ [] → IsDistinct same_endpoint (keys_of new)
          → IsConsistent (board_of now new max_holds)
      add_keeps longer space is apart =
          record {
            distinct = apart;
            lasting = ap (list_all (is_lasting now)) is ∙ lasting-push now k (now + ms) es (omega arith) fits good.lasting;
            within = omega (arith, ap length is, length-append es ((k, now + ms) ∷ []), space);
            limit = good.limit;
            time = good.time;
          }

      pub add_makes : lookup (same_endpoint k) es ≡ None → 0 < ms → length es < max_holds → new ≡ es ++ (k, now + ms) ∷ []
          → IsDistinct same_endpoint (keys_of new) → Makes (Hold k ms) (board_of now es max_holds) (board_of now new max_holds) (Ok (tt {0}))
      add_makes none positive space is apart =
          let longer = lt-neq ms positive in
          let held = is_held-lookup k ∙ ap is_some none in
          record {
            accepted = cond-false _ _ _ (le-ltb (2 ^ 52) (now + ms) fits)
                ∙ cond-false _ _ _ (λ i. (not (held i) && not (longer i)) && lt-leb max_holds (length es) space i);
            after = ap (holds_of now) is ∙ sym (cond-false _ _ _ held ∙ cond-false _ _ _ longer);
            refused = tt;
            unchanged = tt;
            limit = refl;
            consistent = add_keeps positive space is apart;
          }
