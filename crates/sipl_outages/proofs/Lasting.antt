-- After any accepted events an endpoint is held exactly while a hold of it lasts.
use Rattle.std.proofs.Common.{◌≡◌, ℕ, ◌+◌, ◌^◌, ◌<◌, ◌≤◌, ◌==◌, ◌⊎◌, max, Bool, true, false, cond, ltb, List, [], ◌∷◌, ◌++◌, map, filter, unwrap_or, is_some, Option, Some, None, inl, inr, refl, sym, ap, subst, ◌∙◌, arith, true≢false}
use Rattle.std.specs.List.{list_all, list_any, IsDistinct}
use Rattle.std.specs.Map.{keys_of, lookup}
use Rattle.std.proofs.lemmas.Bool.{cond-true, cond-false, cond_both, cases_Bool, le-ltb, lt-ltb, ltb-true, ltb-false, eqb-true, eqb-false, or_parts, or_from}
use Rattle.std.proofs.lemmas.Map.Keys.{IsDistinct-head, IsDistinct-tail, IsDistinct-cons, IsDistinct-push}
use Rattle.std.proofs.lemmas.Map.Made.{is_some-lookup}
use Rattle.sipl_choice.specs.declared.endpoint.Endpoint.{Endpoint}
use Rattle.sipl_choice.specs.Endpoints.{same_endpoint}
use Rattle.sipl_choice.proofs.Public.{same_endpoint_decides, same_endpoint-equivalence}
use Rattle.sipl_outages.specs.Holds.{Holds, no_holds, is_held, end_of, extended, after, after_hold, after_release, refusal_of, BoardEvent}
use Rattle.sipl_outages.specs.Holds.BoardEvent.{Hold, Release, Advance}
use Rattle.sipl_outages.specs.Board.{is_lasting}
use Rattle.sipl_outages.specs.Events.{after_all, AreAccepted, releases, HasLastingHold}
use Rattle.sipl_outages.proofs.Ends.{Ends, IsAbsentFrom, is_some-lookup_lasting, lasting-extended, lasting-push, lasting-filter, lasting-later}
use Rattle.sipl_outages.proofs.Runs.{refused_not, now-after, lookup-extended_same, lookup-push, lookup-released, lookup-later, end_of-hold_other, end_of-release_other}

-- no endpoint has two holds, and each hold lasts
pub record IsSound (holds : Holds) : Type 0 where
  pub distinct : IsDistinct same_endpoint (keys_of holds.ends)
  pub lasting : list_all (is_lasting holds.now) holds.ends ≡ true

keys_of-extended : (k : Endpoint) (end : ℕ) (es : Ends) → keys_of (map (extended k end) es) ≡ keys_of es
keys_of-extended k end [] = refl
keys_of-extended k end (e ∷ es) =
    λ i. cond_both (same_endpoint k e.0) (e.0, max e.1 end) e (λ hold. hold.0 ≡ e.0) (λ _. refl) (λ _. refl) i ∷ keys_of-extended k end es i

absent-filter : (k : Endpoint) (keep : Endpoint × ℕ → Bool) (es : Ends) → IsAbsentFrom k es → IsAbsentFrom k (filter keep es)
absent-filter k keep [] h = tt
absent-filter k keep (e ∷ es) h =
    let rest = absent-filter k keep es h.1 in
    cond_both (keep e) (e ∷ filter keep es) (filter keep es) (λ xs. IsAbsentFrom k xs) (λ _. (h.0, rest)) (λ _. rest)

distinct-filter : (keep : Endpoint × ℕ → Bool) (es : Ends) → IsDistinct same_endpoint (keys_of es) → IsDistinct same_endpoint (keys_of (filter keep es))
distinct-filter keep [] h = h
distinct-filter keep (e ∷ es) h =
    let rest = distinct-filter keep es (IsDistinct-tail same_endpoint e.0 (keys_of es) h) in
    cond_both (keep e) (e ∷ filter keep es) (filter keep es) (λ (xs : Ends). IsDistinct same_endpoint (keys_of xs))
    (λ _. IsDistinct-cons same_endpoint e.0 (keys_of (filter keep es)) (absent-filter e.0 keep es (IsDistinct-head same_endpoint e.0 (keys_of es) h)) rest)
    (λ _. rest)

-- an accepted event keeps a state sound
IsSound-after : (max_holds : ℕ) (event : BoardEvent) (holds : Holds) → refusal_of max_holds event holds ≡ None → IsSound holds → IsSound (after event holds)
IsSound-after max_holds (Hold k ms) holds accepted good =
    let fits = ltb-false (2 ^ 52) (holds.now + ms) (refused_not (ltb (2 ^ 52) (holds.now + ms)) _ _ accepted) in
    cond_both (is_held holds k) _ _ IsSound
    (λ _. record {
      distinct = subst (λ ks. IsDistinct same_endpoint ks) (sym (keys_of-extended k (holds.now + ms) holds.ends)) good.distinct;
      lasting = lasting-extended holds.now k (holds.now + ms) holds.ends fits good.lasting;
    })
    (λ free. cond_both (ms == 0) _ _ IsSound (λ _. good) (λ longer.
    let positive : ms ≡ 0 → ⊥ = eqb-false ms 0 longer in
    let absent = sym (is_some-lookup (same_endpoint k) holds.ends) ∙ is_some-lookup_lasting holds.now (same_endpoint k) holds.ends good.lasting ∙ free in
    record {
      distinct = subst (λ ks. IsDistinct same_endpoint ks) (sym (keys_of-push holds.ends k (holds.now + ms))) (IsDistinct-push same_endpoint-equivalence (keys_of holds.ends) k good.distinct absent);
      lasting = lasting-push holds.now k (holds.now + ms) holds.ends (omega arith) fits good.lasting;
    }))
  where
    keys_of-push : (es : Ends) (k : Endpoint) (end : ℕ) → keys_of (es ++ (k, end) ∷ []) ≡ keys_of es ++ k ∷ []
    keys_of-push [] k end = refl
    keys_of-push (e ∷ es) k end = ap (λ ks. e.0 ∷ ks) (keys_of-push es k end)
IsSound-after max_holds (Release k) holds accepted good =
    record { distinct = distinct-filter _ holds.ends good.distinct; lasting = lasting-filter holds.now _ holds.ends good.lasting }
IsSound-after max_holds (Advance to) holds accepted good =
    record { distinct = distinct-filter _ holds.ends good.distinct; lasting = lasting-later holds.now to holds.ends good.lasting }

-- ---- the latest end that the holds of an endpoint gave it since its last release

abbrev next_end : Endpoint → BoardEvent → ℕ → ℕ → ℕ
next_end k (Hold other ms) now best = cond (same_endpoint k other) (max best (now + ms)) best
next_end k (Release other) now best = cond (same_endpoint k other) 0 best
next_end k (Advance to) now best = best

abbrev latest : Endpoint → List BoardEvent → Holds → ℕ → ℕ
latest k [] holds best = best
latest k (event ∷ events) holds best = latest k events (after event holds) (next_end k event holds.now best)

-- two ends that are alike for all times from now on
abbrev Alike : ℕ → ℕ → ℕ → Type 0
Alike now a b = (t : ℕ) → now ≤ t → ltb t a ≡ ltb t b

ltb-max : (t a b c : ℕ) → ltb t a ≡ ltb t b → ltb t (max a c) ≡ ltb t (max b c)
ltb-max t a b c same =
    elim (cases_Bool (ltb t a)) [
      | inl less ↦
          let in_a : t < a = ltb-true t a less in
          let in_b : t < b = ltb-true t b (sym same ∙ less) in
          lt-ltb t (max a c) (omega arith) ∙ sym (lt-ltb t (max b c) (omega arith))
      | inr over ↦
          let past_a : a ≤ t = ltb-false t a over in
          let past_b : b ≤ t = ltb-false t b (sym same ∙ over) in
          elim (cases_Bool (ltb t c)) [
            | inl less ↦ let in_c : t < c = ltb-true t c less in lt-ltb t (max a c) (omega arith) ∙ sym (lt-ltb t (max b c) (omega arith))
            | inr end ↦ let past_c : c ≤ t = ltb-false t c end in le-ltb t (max a c) (omega arith) ∙ sym (le-ltb t (max b c) (omega arith))
          ]
    ]

same_as_itself : (k : Endpoint) → same_endpoint k k ≡ true
same_as_itself k = (same_endpoint_decides k k).1 refl

-- a hold leaves the later end
end_of-hold_same : (k : Endpoint) (ms : ℕ) (holds : Holds) (t : ℕ) → IsSound holds → holds.now ≤ t
    → ltb t (end_of (after_hold k ms holds) k) ≡ ltb t (max (end_of holds k) (holds.now + ms))
end_of-hold_same k ms holds t good later = from (lookup (same_endpoint k) holds.ends) refl
  where
    from : (r : Option ℕ) → lookup (same_endpoint k) holds.ends ≡ r → ltb t (end_of (after_hold k ms holds) k) ≡ ltb t (max (end_of holds k) (holds.now + ms))
    from None none =
        let no_end : end_of holds k ≡ 0 = ap (λ r. unwrap_or r 0) none in
        let free : is_held holds k ≡ false = sym (is_some-lookup_lasting holds.now (same_endpoint k) holds.ends good.lasting) ∙ ap is_some none in
        let is_end : holds.now + ms ≡ max (end_of holds k) (holds.now + ms) = omega arith in
        cond_both (is_held holds k) _ _ (λ (h : Holds). ltb t (end_of h k) ≡ ltb t (max (end_of holds k) (holds.now + ms)))
        (λ held. absurd (true≢false (sym held ∙ free)))
        (λ _. cond_both (ms == 0) _ _ (λ (h : Holds). ltb t (end_of h k) ≡ ltb t (max (end_of holds k) (holds.now + ms)))
        (λ is_0. let no_ms : ms ≡ 0 = eqb-true ms 0 is_0 in
        le-ltb t (end_of holds k) (omega arith) ∙ sym (le-ltb t (max (end_of holds k) (holds.now + ms)) (omega arith)))
        (λ _. ap (λ r. ltb t (unwrap_or r 0)) (lookup-push k k (holds.now + ms) holds.ends none ∙ cond-true _ _ _ (same_as_itself k)) ∙ ap (ltb t) is_end))
    from (Some old) found =
        let is_old : end_of holds k ≡ old = ap (λ r. unwrap_or r 0) found in
        let held : is_held holds k ≡ true = sym (is_some-lookup_lasting holds.now (same_endpoint k) holds.ends good.lasting) ∙ ap is_some found in
        ap (λ (h : Holds). ltb t (end_of h k)) (cond-true _ _ _ held)
        ∙ ap (λ r. ltb t (unwrap_or r 0)) (lookup-extended_same k (holds.now + ms) old holds.ends found)
        ∙ ap (λ n. ltb t (max n (holds.now + ms))) (sym is_old)

alike_after : (max_holds : ℕ) (event : BoardEvent) (holds : Holds) (k : Endpoint) (best : ℕ) → refusal_of max_holds event holds ≡ None → IsSound holds
    → Alike holds.now (end_of holds k) best → Alike (after event holds).now (end_of (after event holds) k) (next_end k event holds.now best)
alike_after max_holds (Hold other ms) holds k best accepted good alike = λ t from.
    let later : holds.now ≤ t = omega (arith, now-after max_holds (Hold other ms) holds accepted, from) in
    cond_both (same_endpoint k other) (max best (holds.now + ms)) best (λ e. ltb t (end_of (after_hold other ms holds) k) ≡ ltb t e)
    (λ same. ap (λ x. ltb t (end_of (after_hold x ms holds) k)) (sym ((same_endpoint_decides k other).0 same))
    ∙ end_of-hold_same k ms holds t good later ∙ ltb-max t (end_of holds k) best (holds.now + ms) (alike t later))
    (λ apart. ap (ltb t) (end_of-hold_other other k apart ms holds) ∙ alike t later)
alike_after max_holds (Release other) holds k best accepted good alike = λ t later.
    cond_both (same_endpoint k other) 0 best (λ e. ltb t (end_of (after_release other holds) k) ≡ ltb t e)
    (λ same. ap (λ x. ltb t (end_of (after_release x holds) k)) (sym ((same_endpoint_decides k other).0 same))
    ∙ ap (λ r. ltb t (unwrap_or r 0)) (lookup-released k holds.ends))
    (λ apart. ap (ltb t) (end_of-release_other other k apart holds) ∙ alike t later)
alike_after max_holds (Advance to) holds k best accepted good alike = λ t later.
    let forward : holds.now ≤ to = now-after max_holds (Advance to) holds accepted in
    lookup-later k to t holds.ends later good.distinct ∙ alike t (omega arith)

is_held-latest : (max_holds : ℕ) (events : List BoardEvent) (holds : Holds) (k : Endpoint) (best : ℕ) → AreAccepted max_holds events holds → IsSound holds
    → Alike holds.now (end_of holds k) best → is_held (after_all events holds) k ≡ ltb (after_all events holds).now (latest k events holds best)
is_held-latest max_holds [] holds k best accepted good alike = alike holds.now (omega arith)
is_held-latest max_holds (event ∷ events) holds k best accepted good alike =
    is_held-latest max_holds events (after event holds) k (next_end k event holds.now best) accepted.1
    (IsSound-after max_holds event holds accepted.0 good) (alike_after max_holds event holds k best accepted.0 good alike)

-- ---- the hold that gave it

-- a hold of k among the events, not released since, that ends after t
record LastsFrom (t : ℕ) (k : Endpoint) (events : List BoardEvent) (holds : Holds) : Type 0 where
  earlier : List BoardEvent
  ms : ℕ
  later : List BoardEvent
  event : events ≡ earlier ++ Hold k ms ∷ later
  not_released : list_any (releases k) later ≡ false
  lasts : t < (after_all earlier holds).now + ms

module _ (t : ℕ) (k : Endpoint) where
  abbrev Explained : List BoardEvent → Holds → ℕ → Type 0
  Explained events holds best = ((list_any (releases k) events ≡ false) × (t < best)) ⊎ LastsFrom t k events holds

  explained_before : (event : BoardEvent) (events : List BoardEvent) (holds : Holds) (best : ℕ)
      → Explained events (after event holds) (next_end k event holds.now best) → Explained (event ∷ events) holds best
  explained_before event events holds best (inr l) =
      inr (record {
        earlier = event ∷ l.earlier;
        ms = l.ms;
        later = l.later;
        event = ap (λ es. event ∷ es) l.event;
        not_released = l.not_released;
        lasts = l.lasts;
      })
  explained_before (Hold other ms) events holds best (inl p) =
      elim (cases_Bool (same_endpoint k other)) [
        | inl same ↦
            let less : t < max best (holds.now + ms) = subst (λ n. t < n) (cond-true _ _ _ same) p.1 in
            elim (cases_Bool (ltb t best)) [
              | inl below ↦ inl (p.0, ltb-true t best below)
              | inr over ↦
                  let past : best ≤ t = ltb-false t best over in
                  inr (record {
                    earlier = [];
                    ms = ms;
                    later = events;
                    event = ap (λ x. Hold x ms ∷ events) (sym ((same_endpoint_decides k other).0 same));
                    not_released = p.0;
                    lasts = omega arith;
                  })
            ]
        | inr apart ↦ inl (p.0, subst (λ n. t < n) (cond-false _ _ _ apart) p.1)
      ]
  explained_before (Release other) events holds best (inl p) =
      elim (cases_Bool (same_endpoint k other)) [
        | inl same ↦ let less : t < 0 = subst (λ n. t < n) (cond-true _ _ _ same) p.1 in absurd (omega arith)
        | inr apart ↦ inl (or_from _ _ apart p.0, subst (λ n. t < n) (cond-false _ _ _ apart) p.1)
      ]
  explained_before (Advance to) events holds best (inl p) = inl p

  explained : (events : List BoardEvent) (holds : Holds) (best : ℕ) → t < latest k events holds best → Explained events holds best
  explained [] holds best less = inl (refl, less)
  explained (event ∷ events) holds best less =
      explained_before event events holds best (explained events (after event holds) (next_end k event holds.now best) less)

  next_end_keeps : (event : BoardEvent) (holds : Holds) (best : ℕ) → releases k event ≡ false → t < best → t < next_end k event holds.now best
  next_end_keeps (Hold other ms) holds best none less =
      cond_both (same_endpoint k other) (max best (holds.now + ms)) best (λ n. t < n) (λ _. omega arith) (λ _. less)
  next_end_keeps (Release other) holds best none less = subst (λ n. t < n) (sym (cond-false _ _ _ none)) less
  next_end_keeps (Advance to) holds best none less = less

  latest_keeps : (events : List BoardEvent) (holds : Holds) (best : ℕ) → list_any (releases k) events ≡ false → t < best → t < latest k events holds best
  latest_keeps [] holds best none less = less
  latest_keeps (event ∷ events) holds best none less =
      let parts = or_parts _ _ none in
      latest_keeps events (after event holds) (next_end k event holds.now best) parts.1 (next_end_keeps event holds best parts.0 less)

  latest_from : (earlier : List BoardEvent) (ms : ℕ) (later : List BoardEvent) (holds : Holds) (best : ℕ) → list_any (releases k) later ≡ false
      → t < (after_all earlier holds).now + ms → t < latest k (earlier ++ Hold k ms ∷ later) holds best
  latest_from [] ms later holds best none lasts =
      latest_keeps later (after (Hold k ms) holds) (next_end k (Hold k ms) holds.now best) none
      (subst (λ n. t < n) (sym (cond-true _ _ _ (same_as_itself k))) (omega arith))
  latest_from (event ∷ earlier) ms later holds best none lasts =
      latest_from earlier ms later (after event holds) (next_end k event holds.now best) none lasts

-- ---- from a new board

IsSound-no_holds : IsSound no_holds
unfolding IsDistinct
IsSound-no_holds = record { distinct = tt; lasting = refl }

is_held-new : (max_holds : ℕ) (events : List BoardEvent) (k : Endpoint) → AreAccepted max_holds events no_holds
    → is_held (after_all events no_holds) k ≡ ltb (after_all events no_holds).now (latest k events no_holds 0)
is_held-new max_holds events k accepted = is_held-latest max_holds events no_holds k 0 accepted IsSound-no_holds (λ t _. refl)

pub held_has_lasting_hold : (max_holds : ℕ) (events : List BoardEvent) → AreAccepted max_holds events no_holds → (k : Endpoint)
    → is_held (after_all events no_holds) k ≡ true → HasLastingHold events k
held_has_lasting_hold max_holds events accepted k held =
    let t = (after_all events no_holds).now in
    let less = ltb-true t (latest k events no_holds 0) (sym (is_held-new max_holds events k accepted) ∙ held) in
    elim (explained t k events no_holds 0 less) [
      | inl p ↦ let never : t < 0 = p.1 in absurd (omega arith)
      | inr l ↦ record {
        earlier = l.earlier;
        ms = l.ms;
        later = l.later;
        event = l.event;
        not_released = l.not_released;
        lasts = l.lasts;
      }
    ]

pub lasting_hold_holds : (max_holds : ℕ) (events : List BoardEvent) → AreAccepted max_holds events no_holds → (k : Endpoint)
    → HasLastingHold events k → is_held (after_all events no_holds) k ≡ true
lasting_hold_holds max_holds events accepted k h =
    let t = (after_all events no_holds).now in
    is_held-new max_holds events k accepted
    ∙ lt-ltb t (latest k events no_holds 0)
    (subst (λ es. t < latest k es no_holds 0) (sym h.event) (latest_from t k h.earlier h.ms h.later no_holds 0 h.not_released h.lasts))
