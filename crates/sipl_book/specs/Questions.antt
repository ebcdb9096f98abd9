-- Whether two questions are the same.
use Rattle.std.specs.Prelude.{Bool, true, false, ◌&&◌, nat_eq, Option, None, Some}
use Rattle.std.specs.Bool.{beq}
use Rattle.sipl_names.specs.Labels.{same_name}
use Rattle.sipl_records.specs.Addresses.{same_address}
use Rattle.sipl_choice.specs.Transports.{same_transport}
use Rattle.sipl_uri.specs.declared.question.Question.{Question}
use Rattle.sipl_uri.specs.declared.question.Target.{Target}
use Rattle.sipl_uri.specs.declared.question.Target.TheVariants.{Numeric, Domain}

-- whether both are given and the same by the test, or neither is given
abbrev pub same_option : {A : Type 0} → (A → A → Bool) → Option A → Option A → Bool
same_option same None None = true
same_option same (Some a) (Some b) = same a b
same_option same None (Some b) = false
same_option same (Some a) None = false

-- whether two hosts are the same; names without regard to case
abbrev pub same_target : Target → Target → Bool
same_target (Numeric a) (Numeric b) = same_address a b
same_target (Domain a) (Domain b) = same_name a b
same_target (Numeric a) (Domain b) = false
same_target (Domain a) (Numeric b) = false

-- whether two questions are the same
abbrev pub same_question : Question → Question → Bool
same_question a b =
    beq a.secure b.secure && same_target a.target b.target && same_option nat_eq a.port b.port
    && same_option same_transport a.transport b.transport
