-- `same_question`, and `==` of questions, are true exactly where the questions are equal.
use Rattle.std.proofs.Common.{◌≡◌, Bool, true, false, ◌&&◌, Option, None, Some, nat_eq, refl, ap, ◌∙◌, rules}
use Rattle.std.specs.Bool.{Decides, beq}
use Rattle.std.specs.Option.{option_eq}
use Rattle.std.specs.Cmp.{IsEquivalence, decided}
use Rattle.std.proofs.lemmas.Bool.Decides.{Decides-eqb, Decides-like, Decides-and}
use lib.Pointwise.{pointwise_decides, bytes_decides}
use Rattle.sipl_records.specs.declared.address.Address.{Address}
use Rattle.sipl_records.specs.declared.address.Address.TheVariants.{V4, V6}
use Rattle.sipl_records.specs.Addresses.{same_address}
use Rattle.sipl_choice.specs.declared.transport.Transport.{Transport}
use Rattle.sipl_choice.specs.contracts.transport.TransportPartialEq.TheImpl.{eq-value as transport_eq}
use Rattle.sipl_choice.specs.Transports.{same_transport}
use Rattle.sipl_choice.specs.SameClient.{same_transport_decides}
use Rattle.sipl_uri.specs.declared.question.Target.{Target}
use Rattle.sipl_uri.specs.declared.question.Target.TheVariants.{Numeric, Domain}
use Rattle.sipl_uri.specs.declared.question.Question.{Question}
use Rattle.sipl_uri.specs.contracts.question.TargetPartialEq.TheImpl.{eq-value as target_eq}
use Rattle.sipl_uri.specs.contracts.question.QuestionPartialEq.TheImpl.{eq-value as question_eq}
use Rattle.sipl_book.specs.Questions.{same_option, same_target, same_question}

-- ---- the parts

same_flag_decides : (a b : Bool) → Decides (beq a b) (a ≡ b)
same_flag_decides true true = ((λ e. refl), (λ e. refl))
same_flag_decides true false = ((λ e. cc), (λ e. cc))
same_flag_decides false true = ((λ e. cc), (λ e. cc))
same_flag_decides false false = ((λ e. refl), (λ e. refl))

same_address_decides : (a b : Address) → Decides (same_address a b) (a ≡ b)
same_address_decides (V4 m) (V4 n) = Decides-like _ (λ e. ap (λ k. V4 k) e) (λ e. cc) (Decides-eqb m n)
same_address_decides (V6 m) (V6 n) = Decides-like _ (λ e. ap (λ k. V6 k) e) (λ e. cc) (Decides-eqb m n)
same_address_decides (V4 m) (V6 n) = ((λ e. cc), (λ e. cc))
same_address_decides (V6 m) (V4 n) = ((λ e. cc), (λ e. cc))

same_target_decides : (a b : Target) → Decides (same_target a b) (a ≡ b)
same_target_decides (Numeric a) (Numeric b) = Decides-like _ (λ e. ap (λ k. Numeric k) e) (λ e. cc) (same_address_decides a b)
same_target_decides (Domain a) (Domain b) = Decides-like _ (λ e. ap (λ k. Domain k) e) (λ e. cc) (pointwise_decides bytes_decides a b)
same_target_decides (Numeric a) (Domain b) = ((λ e. cc), (λ e. cc))
same_target_decides (Domain a) (Numeric b) = ((λ e. cc), (λ e. cc))

same_option_decides : {A : Type 0} {same : A → A → Bool} → ((a b : A) → Decides (same a b) (a ≡ b)) → (a b : Option A) → Decides (same_option same a b) (a ≡ b)
same_option_decides each None None = ((λ e. refl), (λ e. refl))
same_option_decides each None (Some b) = ((λ e. cc), (λ e. cc))
same_option_decides each (Some a) None = ((λ e. cc), (λ e. cc))
same_option_decides each (Some a) (Some b) = Decides-like _ (λ e. ap (λ x. Some x) e) (λ e. cc) (each a b)

-- ---- questions

-- two questions are the same exactly where they are equal
pub same_question_decides : (a b : Question) → Decides (same_question a b) (a ≡ b)
same_question_decides a b =
    Decides-like _
    (λ e i. record { secure = e.0.0.0 i; target = e.0.0.1 i; port = e.0.1 i; transport = e.1 i })
    (λ e. (((ap (λ q. q.secure) e, ap (λ q. q.target) e), ap (λ q. q.port) e), ap (λ q. q.transport) e))
    (Decides-and _ _ (Decides-and _ _ (Decides-and _ _ (same_flag_decides a.secure b.secure) (same_target_decides a.target b.target)) (same_option_decides Decides-eqb a.port b.port)) (same_option_decides same_transport_decides a.transport b.transport))

pub same_question-equivalence : IsEquivalence same_question
same_question-equivalence = decided same_question same_question_decides

-- ---- the derived equality

derived_target : (a b : Target) → target_eq.it a b ≡ same_target a b
derived_target (Numeric (V4 m)) (Numeric (V4 n)) = refl
derived_target (Numeric (V6 m)) (Numeric (V6 n)) = refl
derived_target (Numeric (V4 m)) (Numeric (V6 n)) = refl
derived_target (Numeric (V6 m)) (Numeric (V4 n)) = refl
derived_target (Domain a) (Domain b) = refl
derived_target (Numeric a) (Domain b) = refl
derived_target (Domain a) (Numeric b) = refl

derived_transport : (a b : Transport) → transport_eq.it a b ≡ same_transport a b
derived_transport a b = search rules

derived_option : {A : Type 0} (eq same : A → A → Bool) → ((a b : A) → eq a b ≡ same a b) → (a b : Option A) → option_eq eq a b ≡ same_option same a b
derived_option eq same each None None = refl
derived_option eq same each None (Some b) = refl
derived_option eq same each (Some a) None = refl
derived_option eq same each (Some a) (Some b) = each a b

and_left : (p q r s : Bool) → (p && (q && (r && s))) ≡ (p && q && r && s)
and_left true true r s = refl
and_left true false r s = refl
and_left false q r s = refl

-- the derived equality of questions is that of the definitions
pub derived_eq : question_eq.it ≡ same_question
derived_eq = λ i a b. at a b i
  where
    at : (a b : Question) → question_eq.it a b ≡ same_question a b
    at a b =
        and_left (beq a.secure b.secure) (target_eq.it a.target b.target) (option_eq nat_eq a.port b.port) (option_eq transport_eq.it a.transport b.transport)
        ∙ (λ i. beq a.secure b.secure && derived_target a.target b.target i && derived_option nat_eq nat_eq (λ m n. refl) a.port b.port i && derived_option transport_eq.it same_transport derived_transport a.transport b.transport i)
