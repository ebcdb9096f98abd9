-- A finding on the records of a book that is committed, or is not.
use Rattle.std.proofs.Common.{◌≡◌, ℕ, ◌<◌, true, false, List, length, None, Result, Ok, Err, position, refl, sym, ap, subst, ◌∙◌}
use Rattle.std.specs.Prelude.{option_map, IfOk, IfErr, OnOk, OnErr, IsErrAnd, MatchResult}
use Rattle.sipl_plans.specs.Findings.{Found}
use Rattle.sipl_uri.specs.declared.question.Question.{Question}
use Rattle.std.proofs.lemmas.Bool.{cond-false, lt-leb}
use Rattle.sipl_book.specs.Book.{BookState, answer_now, next_event}
use Rattle.sipl_book.specs.Calls.{IsCommitted, after_commit, commit_refusal, is_renumbered, unless_full, with_looks}
use Rattle.sipl_book.specs.Entries.{has_current_entry}
use Rattle.sipl_book.specs.Lookups.{IsAnswered, IsLocated, after_reads}
use Rattle.sipl_book.specs.declared.fault.BookFault.{BookFault}
use Rattle.sipl_book.specs.declared.fault.BookFault.TheVariants.{Memory, Stale}
use Rattle.sipl_book.specs.declared.outcome.Handed.{Handed}
use Rattle.sipl_book.specs.declared.outcome.Uncommitted.{Uncommitted}
use Rattle.sipl_book.proofs.Locating.{not_renumbered}

module _ (question : Question) (words : List ℕ) (old : BookState) (outdated : has_current_entry old.entries question ≡ false) (now : BookState)
    (found : Found) (is_located : IsLocated old.store question old.client found) (looked : now ≡ after_reads (length found.items) old) where
  -- it is refused for a full journal or for memory alone
  refusal : commit_refusal is_renumbered found now ≡ unless_full old None
  refusal =
      let none : position (is_renumbered now.store) found.items ≡ None =
      ap (λ (b : BookState). position (is_renumbered b.store) found.items) looked ∙ not_renumbered old.store found.items is_located.current in
      ap (λ p. unless_full now (option_map Stale p)) none ∙ ap (λ b. unless_full b None) looked

  not_current : has_current_entry old.entries question ≡ true → ⊥
  not_current current =
      let contradiction : false ≡ true = sym outdated ∙ current in
      cc

  committed_found : (new : BookState) (handed : Handed) → IsCommitted is_renumbered found words now now new (Ok handed) → IsAnswered question words old new (Ok handed)
  committed_found new handed is =
      record {
        accepted = sym refusal ∙ is.accepted;
        number = is.number ∙ ap next_event looked;
        answer = is.answer ∙ ap (λ b. answer_now b found.question words) looked ∙ ap (λ q. answer_now old q words) is_located.question;
        from_entry = λ current. absurd (not_current current);
        committed = λ _. (found, is_located, is.after ∙ ap (after_commit found words) looked);
        looks = λ current. absurd (not_current current);
        refused = tt;
        memory = tt;
        unchanged = tt;
        counted = (length found.items, ap (λ (b : BookState). b.store.looks) (is.after ∙ ap (after_commit found words) looked));
      }

  uncommitted_found : (new : BookState) (uncommitted : Uncommitted) → IsCommitted is_renumbered found words now now new (Err uncommitted) → IsAnswered question words old new (Err uncommitted.fault)
  uncommitted_found new uncommitted is =
      record {
        accepted = tt;
        number = tt;
        answer = tt;
        from_entry = λ _. tt;
        committed = λ _. tt;
        looks = λ current. absurd (not_current current);
        refused = λ real. sym refusal ∙ is.refused real;
        memory = λ failed. sym refusal ∙ is.memory failed;
        unchanged = subst (λ b. b ≡ with_looks b.store.looks old) (sym (is.unchanged ∙ looked)) refl;
        counted = (length found.items, ap (λ (b : BookState). b.store.looks) (is.unchanged ∙ looked));
      }

  -- it is committed without a comparison, for its sets are as they were read
  pub as_committed : length old.journal < old.max_events → (new : BookState) (result : Result Handed Uncommitted) → IfOk result (λ handed. handed.number ≡ next_event now) → IfOk result (λ handed. handed.answer ≡ answer_now now found.question words)
      → OnOk result (new ≡ after_commit found words now) → IfErr result (λ uncommitted. uncommitted.fault ≡ Memory) → IfErr result (λ uncommitted. uncommitted.finding ≡ found) → OnErr result (new ≡ now) → IsCommitted is_renumbered found words now now new result
  as_committed space new (Ok handed) number answer after memory finding unchanged =
      record {
        accepted = refusal ∙ cond-false _ _ _ (lt-leb old.max_events (length old.journal) space);
        number = number;
        answer = answer;
        after = after;
        refused = tt;
        memory = tt;
        finding = tt;
        unchanged = tt;
      }
  as_committed space new (Err uncommitted) number answer after memory finding unchanged =
      record {
        accepted = tt;
        number = tt;
        answer = tt;
        after = tt;
        refused = λ real. absurd (real memory);
        memory = λ _. refusal ∙ cond-false _ _ _ (lt-leb old.max_events (length old.journal) space);
        finding = finding;
        unchanged = unchanged;
      }

  -- what is returned of it
  pub found_anew : (new : BookState) (committed : Result Handed Uncommitted) (result : Result Handed BookFault) → IsCommitted is_renumbered found words now now new committed
      → MatchResult committed (λ handed. result ≡ Ok handed) (λ uncommitted. IsErrAnd result (λ fault. fault ≡ uncommitted.fault)) → IsAnswered question words old new result
  found_anew new (Ok handed) result is same = subst (IsAnswered question words old new) (sym same) (committed_found new handed is)
  found_anew new (Err uncommitted) (Ok handed) is same = absurd same
  found_anew new (Err uncommitted) (Err fault) is same = subst (λ f. IsAnswered question words old new (Err f)) (sym same) (uncommitted_found new uncommitted is)
