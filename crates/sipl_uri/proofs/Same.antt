-- `==` of targets and of questions is true exactly where they are equal.
use Rattle.std.specs.Prelude.{◌≡◌, Bool, true, false, Option, Some, None}
use Rattle.std.specs.Bool.{Decides}
use Rattle.std.specs.Option.{option_eq}
use Rattle.std.proofs.Common.{rules, refl, ap}
use Rattle.std.proofs.lemmas.Bool.Decides.{Decides-eqb, Decides-like, Decides-and}
use mathlib.Core.Bool.{beq}
use Rattle.sipl_names.proofs.Public.{same_name_decides}
use Rattle.sipl_records.specs.declared.address.Address.TheVariants.{V4, V6}
use Rattle.sipl_choice.specs.declared.transport.Transport.{Transport}
use Rattle.sipl_choice.specs.contracts.transport.TransportPartialEq.TheImpl.{eq-value as transport_eq}
use Rattle.sipl_uri.specs.declared.question.Target.{Target}
use Rattle.sipl_uri.specs.declared.question.Target.TheVariants.{Numeric, Domain}
use Rattle.sipl_uri.specs.declared.question.Question.{Question}
use Rattle.sipl_uri.specs.contracts.question.TargetPartialEq.TheImpl.{eq-value as target_eq}
use Rattle.sipl_uri.specs.contracts.question.QuestionPartialEq.TheImpl.{eq-value as question_eq}

-- `==` of two targets
pub same_target_decides : (a b : Target) → Decides (target_eq.it a b) (a ≡ b)
same_target_decides (Numeric (V4 m)) (Numeric (V4 n)) = Decides-like _ (λ e. ap (λ k. Numeric (V4 k)) e) (λ e. cc) (Decides-eqb m n)
same_target_decides (Domain m) (Domain n) = Decides-like _ (λ e. ap (λ k. Domain k) e) (λ e. cc) (same_name_decides m n)
same_target_decides (Numeric (V6 m)) (Numeric (V6 n)) = Decides-like _ (λ e. ap (λ k. Numeric (V6 k)) e) (λ e. cc) (Decides-eqb m n)
same_target_decides (Numeric (V4 m)) (Numeric (V6 n)) = ((λ e. cc), (λ e. cc))
same_target_decides (Numeric (V6 m)) (Numeric (V4 n)) = ((λ e. cc), (λ e. cc))
same_target_decides (Numeric (V4 m)) (Domain n) = ((λ e. cc), (λ e. cc))
same_target_decides (Numeric (V6 m)) (Domain n) = ((λ e. cc), (λ e. cc))
same_target_decides (Domain m) (Numeric (V4 n)) = ((λ e. cc), (λ e. cc))
same_target_decides (Domain m) (Numeric (V6 n)) = ((λ e. cc), (λ e. cc))

same_flag_decides : (a b : Bool) → Decides (beq a b) (a ≡ b)
same_flag_decides true true = ((λ e. refl), (λ e. refl))
same_flag_decides true false = ((λ e. cc), (λ e. cc))
same_flag_decides false true = ((λ e. cc), (λ e. cc))
same_flag_decides false false = ((λ e. refl), (λ e. refl))

same_option_decides : {A : Type 0} {E : A → A → Bool} → ((a b : A) → Decides (E a b) (a ≡ b)) → (a b : Option A) → Decides (option_eq E a b) (a ≡ b)
same_option_decides each None None = ((λ e. refl), (λ e. refl))
same_option_decides each None (Some b) = ((λ e. cc), (λ e. cc))
same_option_decides each (Some a) None = ((λ e. cc), (λ e. cc))
same_option_decides each (Some a) (Some b) = Decides-like _ (λ e. ap (λ x. Some x) e) (λ e. cc) (each a b)

same_transport_decides : (a b : Transport) → Decides (transport_eq.it a b) (a ≡ b)
same_transport_decides a b = search rules

-- `==` of two questions
pub same_question_decides : (a b : Question) → Decides (question_eq.it a b) (a ≡ b)
same_question_decides a b =
    Decides-like _
    (λ e i. record { secure = e.0 i; target = e.1.0 i; port = e.1.1.0 i; transport = e.1.1.1 i })
    (λ e. (ap (λ q. q.secure) e, (ap (λ q. q.target) e, (ap (λ q. q.port) e, ap (λ q. q.transport) e))))
    (Decides-and _ _ (same_flag_decides a.secure b.secure) (Decides-and _ _ (same_target_decides a.target b.target) (Decides-and _ _ (same_option_decides Decides-eqb a.port b.port) (same_option_decides same_transport_decides a.transport b.transport))))
