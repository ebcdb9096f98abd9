use Rattle.std.proofs.Common.{◌≡◌, ℕ, ◌++◌, ap, subst, ◌∙◌}
use Rattle.sipl_names.specs.Labels.{Labels}
use Rattle.sipl_records.specs.declared.kind.Kind.{Kind}
use Rattle.sipl_evidence.specs.Answers.{asking_within}
use Rattle.sipl_evidence.specs.Enclosers.{IsSynthesized}
use Rattle.sipl_evidence.specs.Looks.{Look, result_of}
use Rattle.sipl_laws.specs.NameCases.{NameCase, has_data, is_alias, exists, is_nowhere, wildcard_has_data, wildcard_is_alias, wildcard_has_none, answer_in}
use Rattle.sipl_laws.proofs.Casing.{case-of, one-number}
use Rattle.sipl_laws.proofs.laws.names_are_in_one_case.Goals as goal

pub returns : goal.returns
returns c = record {
  some = λ look left kind name is. case-of look left kind name is;
  one = λ look ancestors left kind name case other. one-number look left kind ancestors name case other;
  answer = answer;
}
  where
    open c.answers_are_those_at_the_first_alias.ensures use {own, alias, exists as there, nowhere}
    open c.absent_names_are_answered_at_the_wildcard.ensures use {own as wildcard_own, alias as wildcard_alias, none as wildcard_none}

    answer : (look : Look) (ancestors left : ℕ) (kind : Kind) (name : Labels) (case : NameCase look ancestors left kind name) → result_of look (asking_within ancestors left name kind) ≡ answer_in case
    answer look ancestors left kind name (has_data some) = own look ancestors kind name left some
    answer look ancestors left kind name (is_alias target fewer more none to) =
        ap (λ n. result_of look (asking_within ancestors n name kind)) more
        ∙ alias look ancestors kind name target fewer none to
    answer look ancestors left kind name (exists none follows some) = there look ancestors kind name left none follows some
    answer look ancestors left kind name (is_nowhere none follows nobody) = nowhere look ancestors kind name left none follows nobody
    answer look ancestors left kind name (wildcard_has_data below encloser at is some) =
        ap (λ ls. result_of look (asking_within ancestors left ls kind)) at
        ∙ wildcard_own look ancestors kind below encloser left is some
    answer look ancestors left kind name (wildcard_is_alias below encloser target fewer more at is none to) =
        ap (λ ls. result_of look (asking_within ancestors left ls kind)) at
        ∙ ap (λ n. result_of look (asking_within ancestors n (below ++ encloser) kind)) more
        ∙ wildcard_alias look ancestors kind below encloser target fewer (subst (λ n. IsSynthesized look ancestors n kind below encloser) more is) none to
    answer look ancestors left kind name (wildcard_has_none below encloser at is none follows) =
        ap (λ ls. result_of look (asking_within ancestors left ls kind)) at
        ∙ wildcard_none look ancestors kind below encloser left is none follows
