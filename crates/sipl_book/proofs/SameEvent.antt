-- `==` of events is true exactly where they are equal.
use Rattle.std.proofs.Common.{◌≡◌, Bool, ap, sym, subst, rules}
use Rattle.std.specs.Bool.{Decides}
use Rattle.std.proofs.lemmas.Bool.Decides.{Decides-eqb, Decides-like, Decides-and}
use lib.Pointwise.{pointwise_decides, bytes_decides}
use Rattle.sipl_names.proofs.Public.{same_name_decides}
use Rattle.sipl_records.specs.declared.record.Record.{Record}
use Rattle.sipl_records.specs.contracts.record.RecordPartialEq.TheImpl.{eq-value as record_eq}
use Rattle.sipl_records.proofs.Public.{same_record_is, same_record-Decides}
use Rattle.sipl_choice.specs.declared.endpoint.Endpoint.{Endpoint}
use Rattle.sipl_choice.specs.contracts.endpoint.EndpointPartialEq.TheImpl.{eq-value as endpoint_eq}
use Rattle.sipl_uri.specs.declared.question.Question.{Question}
use Rattle.sipl_uri.specs.contracts.question.QuestionPartialEq.TheImpl.{eq-value as question_eq}
use Rattle.sipl_masterfile.specs.SameZone.{same_zone_decides}
use Rattle.sipl_plans.specs.declared.answer.Reason.{Reason}
use Rattle.sipl_plans.specs.contracts.answer.ReasonPartialEq.TheImpl.{eq-value as reason_eq}
use Rattle.sipl_plans.specs.declared.answer.Answer.{Answer as Targets}
use Rattle.sipl_plans.specs.declared.answer.Answer.TheVariants as answer
use Rattle.sipl_plans.specs.contracts.answer.AnswerPartialEq.TheImpl.{eq-value as answer_eq}
use Rattle.sipl_book.specs.declared.edit.Edit.{Edit}
use Rattle.sipl_book.specs.declared.edit.Edit.TheVariants.{Load, Unload, Add, Remove}
use Rattle.sipl_book.specs.contracts.edit.EditPartialEq.TheImpl.{eq-value as edit_eq}
use Rattle.sipl_book.specs.declared.event.Event.{Event}
use Rattle.sipl_book.specs.declared.event.Event.TheVariants.{Change, Hold, Release, Advance, Answer}
use Rattle.sipl_book.specs.contracts.event.EventPartialEq.TheImpl.{eq-value as event_eq}
use Rattle.sipl_book.proofs.Questions.{same_question_decides, derived_eq}

-- `==` of two records
same_record_decides : (a b : Record) → Decides (record_eq.it a b) (a ≡ b)
same_record_decides a b = rw (same_record_is a b) (same_record-Decides a b)

-- `==` of two endpoints
same_endpoint_decides : (a b : Endpoint) → Decides (endpoint_eq.it a b) (a ≡ b)
same_endpoint_decides a b = search rules

-- `==` of two questions
is_same_question : (a b : Question) → Decides (question_eq.it a b) (a ≡ b)
is_same_question a b =
    subst (λ (eq : Question → Question → Bool). Decides (eq a b) (a ≡ b)) (sym derived_eq) (same_question_decides a b)

-- `==` of two answers
same_reason_decides : (a b : Reason) → Decides (reason_eq.it a b) (a ≡ b)
same_reason_decides a b = search rules

pub same_answer_decides : (a b : Targets) → Decides (answer_eq.it a b) (a ≡ b)
same_answer_decides (answer.Targets a) (answer.Targets b) =
    Decides-like _ (λ e. ap (λ x. answer.Targets x) e) (λ e. cc) (pointwise_decides same_endpoint_decides a b)
same_answer_decides (answer.None a) (answer.None b) =
    Decides-like _ (λ e. ap (λ x. answer.None x) e) (λ e. cc) (same_reason_decides a b)
same_answer_decides (answer.Targets a) (answer.None b) = ((λ e. cc), (λ e. cc))
same_answer_decides (answer.None a) (answer.Targets b) = ((λ e. cc), (λ e. cc))

-- `==` of two edits
pub same_edit_decides : (a b : Edit) → Decides (edit_eq.it a b) (a ≡ b)
same_edit_decides (Load a) (Load b) = Decides-like _ (λ e. ap (λ x. Load x) e) (λ e. cc) (same_zone_decides a b)
same_edit_decides (Unload a) (Unload b) = Decides-like _ (λ e. ap (λ x. Unload x) e) (λ e. cc) (same_name_decides a b)
same_edit_decides (Add a) (Add b) = Decides-like _ (λ e. ap (λ x. Add x) e) (λ e. cc) (same_record_decides a b)
same_edit_decides (Remove a) (Remove b) = Decides-like _ (λ e. ap (λ x. Remove x) e) (λ e. cc) (same_record_decides a b)
same_edit_decides _ _ = ((λ e. cc), (λ e. cc))

-- `==` of two events
pub same_event_decides : (a b : Event) → Decides (event_eq.it a b) (a ≡ b)
same_event_decides (Change a) (Change b) = Decides-like _ (λ e. ap (λ x. Change x) e) (λ e. cc) (same_edit_decides a b)
same_event_decides (Hold a m) (Hold b n) =
    Decides-like _ (λ e i. Hold (e.0 i) (e.1 i)) (λ e. (cc, cc)) (Decides-and _ _ (same_endpoint_decides a b) (Decides-eqb m n))
same_event_decides (Release a) (Release b) = Decides-like _ (λ e. ap (λ x. Release x) e) (λ e. cc) (same_endpoint_decides a b)
same_event_decides (Advance m) (Advance n) = Decides-like _ (λ e. ap (λ x. Advance x) e) (λ e. cc) (Decides-eqb m n)
same_event_decides (Answer q w r) (Answer q' w' r') =
    Decides-like _ (λ e i. Answer (e.0 i) (e.1.0 i) (e.1.1 i)) (λ e. (cc, (cc, cc)))
    (Decides-and _ _ (is_same_question q q') (Decides-and _ _ (bytes_decides w w') (same_answer_decides r r')))
same_event_decides _ _ = ((λ e. cc), (λ e. cc))
