-- The lines of an event are cut into its command and its reply.
use Rattle.std.proofs.Common.{◌≡◌, ℕ, zero, suc, ◌+◌, ◌^◌, ◌<◌, ◌≤◌, Bool, List, [], ◌∷◌, ◌++◌, length, Some, refl, ap, ◌∙◌, arith, append_assoc, append-nil, length-append, codes, decimal}
use Rattle.std.specs.List.{AllByRecursion}
use Rattle.sipl_names.specs.Labels.{Octets}
use Rattle.sipl_records.specs.Addresses.{text_of_address}
use Rattle.sipl_records.specs.Fields.{fields_of}
use Rattle.sipl_choice.specs.Transports.{transport_text}
use Rattle.sipl_choice.specs.declared.endpoint.Endpoint.{Endpoint}
use Rattle.sipl_plans.specs.Reasons.{reason_text}
use Rattle.sipl_plans.specs.declared.answer.Answer.{Answer}
use Rattle.sipl_plans.specs.declared.answer.Answer.TheVariants.{Targets, None as no_targets}
use Rattle.sipl_lines.specs.CommandLines.{after_reply, after_reply_within, ends, first_passes}
use Rattle.sipl_lines.specs.ReplyText.{answer_text, target_line, target_lines}
use Rattle.sipl_lines.specs.CommandText.{endpoint_text}
use Rattle.sipl_laws.specs.Events.{IsAnswer, IsEndpoint}
use Rattle.sipl_laws.proofs.Cuts.{From, from-append, from-lower, from-test}
use Rattle.sipl_laws.proofs.Cutting.{end-line, more-line}
use Rattle.sipl_laws.proofs.FieldLists.{first-field}
use Rattle.sipl_laws.proofs.LineRequests.{from-endpoint, seen-number}
use Rattle.sipl_laws.proofs.SameLines.{from-reason, joined}

-- a line passes a test by its first word
pub passes : (test : Octets → Bool) (word rest : Octets) → 0 < length word → From 33 word → first_passes test (fields_of (word ++ 32 ∷ rest)) ≡ test word
passes test word rest some seen = ap (first_passes test) (first-field word rest some seen)

pub lower : (text : Octets) → From 33 text → From 32 text
lower text all = from-lower 32 33 text (omega arith) all

-- the reply to a question ends with its last line
target-regroup : (w n t a p e r : Octets) → (w ++ n ++ t ++ a ++ p ++ e) ++ r ≡ (w ++ (n ++ (t ++ a ++ p))) ++ (e ++ r)
target-regroup w n t a p e r = simp append_assoc

target-cut : (n : ℕ) (t : Endpoint) (r : Octets) → target_line n t ++ r ≡ (codes "target" ++ 32 ∷ (decimal n ++ 32 ∷ endpoint_text t)) ++ 10 ∷ r
target-cut n t r = target-regroup (codes "target") (32 ∷ decimal n) (32 ∷ transport_text t.transport) (32 ∷ text_of_address t.address) (32 ∷ decimal t.port) (10 ∷ []) r

from-target : (n : ℕ) (t : Endpoint) → n < 2 ^ 64 → IsEndpoint t → From 32 (codes "target" ++ 32 ∷ (decimal n ++ 32 ∷ endpoint_text t))
from-target n t small is =
    from-append 32 (codes "target") (32 ∷ (decimal n ++ 32 ∷ endpoint_text t)) (from-test 32 (codes "target") refl)
    (omega arith, from-append 32 (decimal n) (32 ∷ endpoint_text t) (lower (decimal n) (seen-number n small)) (omega arith, from-endpoint t is))

after-targets : (fuel n count : ℕ) (ts : List Endpoint) (r : Octets) → length ts < fuel → n + length ts < 2 ^ 64 → count < 2 ^ 64 → AllByRecursion IsEndpoint ts → after_reply_within fuel (target_lines n ts ++ ((codes "ok find" ++ 32 ∷ decimal count) ++ 10 ∷ r)) ≡ Some r
after-targets zero n count ts r enough small few all = absurd (omega (arith, enough))
after-targets (suc fuel) n count [] r enough small few all =
    end-line fuel (codes "ok find" ++ 32 ∷ decimal count) r
    (from-append 32 (codes "ok find") (32 ∷ decimal count) (from-test 32 (codes "ok find") refl) (omega arith, lower (decimal count) (seen-number count few)))
    (passes ends (codes "ok") (codes "find" ++ 32 ∷ decimal count) (omega arith) (from-test 33 (codes "ok") refl))
after-targets (suc fuel) n count (t ∷ ts) r enough small few all =
    let rest : Octets = (codes "ok find" ++ 32 ∷ decimal count) ++ 10 ∷ r in
    let more : Octets = target_lines (n + 1) ts ++ rest in
    ap (after_reply_within (suc fuel)) (joined (target_line n t) (target_lines (n + 1) ts) rest ∙ target-cut n t more)
    ∙ more-line fuel (codes "target" ++ 32 ∷ (decimal n ++ 32 ∷ endpoint_text t)) more (from-target n t (omega (arith, small)) all.0)
    (passes ends (codes "target") (decimal n ++ 32 ∷ endpoint_text t) (omega arith) (from-test 33 (codes "target") refl))
    ∙ after-targets fuel (n + 1) count ts r (omega (arith, enough)) (omega (arith, small)) few all.1

counts-cut : (a w d e r : Octets) → (a ++ (w ++ (d ++ []) ++ e)) ++ r ≡ a ++ ((w ++ d) ++ (e ++ r))
counts-cut a w d e r = simp (append_assoc, append-nil)

-- each line has an octet
many-lines : (n : ℕ) (ts : List Endpoint) → length ts ≤ length (target_lines n ts)
many-lines n [] = omega arith
many-lines n (t ∷ ts) = omega (arith, length-append (target_line n t) (target_lines (n + 1) ts), many-lines (n + 1) ts, some-line)
  where
    some-line : 0 < length (target_line n t)
    some-line = omega arith

pub after-answer : (answer : Answer) (r : Octets) → IsAnswer answer → after_reply (answer_text answer ++ r) ≡ Some r
after-answer (Targets ts) r is =
    let few = is.few in
    let text : Octets = answer_text (Targets ts) ++ r in
    let same : text ≡ target_lines 1 ts ++ ((codes "ok find" ++ 32 ∷ decimal (length ts)) ++ 10 ∷ r) = counts-cut (target_lines 1 ts) (codes "ok find") (32 ∷ decimal (length ts)) (10 ∷ []) r in
    let long : length text ≡ length (target_lines 1 ts) + length ((codes "ok find" ++ 32 ∷ decimal (length ts)) ++ 10 ∷ r) = ap length same ∙ length-append (target_lines 1 ts) ((codes "ok find" ++ 32 ∷ decimal (length ts)) ++ 10 ∷ r) in
    ap (after_reply_within (length text)) same
    ∙ after-targets (length text) 1 (length ts) ts r (omega (arith, long, many-lines 1 ts)) (omega (arith, few)) (omega (arith, few)) is.each
after-answer (no_targets reason) r is =
    let same : answer_text (no_targets reason) ++ r ≡ (codes "none " ++ reason_text reason) ++ 10 ∷ r = joined (codes "none " ++ reason_text reason) (10 ∷ []) r in
    ap after_reply same
    ∙ end-line (length (codes "one " ++ (reason_text reason ++ 10 ∷ r))) (codes "none " ++ reason_text reason) r
    (from-append 32 (codes "none ") (reason_text reason) (from-test 32 (codes "none ") refl) (lower (reason_text reason) (from-reason reason)))
    (passes ends (codes "none") (reason_text reason) (omega arith) (from-test 33 (codes "none") refl))
