use Rattle.std.proofs.Common.{length, sym, ap, ◌∙◌}
use Rattle.sipl_book.specs.GivenWords.{given_words}
use Rattle.sipl_book.specs.Words.{without_last_zeros}
use Rattle.sipl_book.proofs.Words.{all_are_32, given_is_kept}
use Rattle.sipl_book.proofs.shared_draws.SharedDraws.given.Goals as goal

pub returns-in-Few-clause-given : goal.returns-in-Few-clause-given
returns-in-Few-clause-given c =
    c.as_slice.ensures ∙ sym (ap given_words c.in-Few.is) ∙ sym (given_is_kept _ c.self.invariant) ∙ ap without_last_zeros c.self.view_is

pub returns-in-Few-clause-len : goal.returns-in-Few-clause-len
returns-in-Few-clause-len c = sym (ap length c.self.view_is) ∙ all_are_32 _ c.self.invariant

pub returns-in-Many-clause-given : goal.returns-in-Many-clause-given
returns-in-Many-clause-given c =
    c.as_slice-in-Many.ensures ∙ sym (ap given_words c.in-Many.is) ∙ sym (given_is_kept _ c.self.invariant) ∙ ap without_last_zeros c.self.view_is

pub returns-in-Many-clause-len : goal.returns-in-Many-clause-len
returns-in-Many-clause-len c = sym (ap length c.self.view_is) ∙ all_are_32 _ c.self.invariant
