-- Whether a book is for a client and a policy on held endpoints.
use Rattle.std.proofs.Common.{◌≡◌, true, refl}
use Rattle.std.specs.Bool.{Decides}
use Rattle.std.proofs.lemmas.Bool.Decides.{Decides-and}
use Rattle.sipl_choice.specs.Abilities.{Client, same_client}
use Rattle.sipl_choice.specs.SameClient.{same_client_decides}
use Rattle.sipl_outages.specs.declared.held.Held.{Held}
use Rattle.sipl_outages.specs.declared.held.Held.TheVariants.{Out, Last}
use Rattle.sipl_outages.specs.contracts.held.HeldPartialEq.TheImpl.{eq-value as held_eq}
use Rattle.sipl_book.specs.Book.{BookState}
use Rattle.sipl_service.specs.Refusals.{is_for, same_held}

-- the derived equality of policies is that of the definitions
pub derived : (a b : Held) → held_eq.it a b ≡ same_held a b
derived Out Out = refl
derived Last Last = refl
derived Out Last = refl
derived Last Out = refl

same_held_decides : (a b : Held) → Decides (same_held a b) (a ≡ b)
same_held_decides Out Out = ((λ e. refl), (λ e. refl))
same_held_decides Last Last = ((λ e. refl), (λ e. refl))
same_held_decides _ _ = ((λ e. cc), (λ e. cc))

-- a book that is for a client and a policy has both
pub is_for-same : (client : Client) (held : Held) (book : BookState) → is_for client held book ≡ true → (book.client ≡ client) × (book.held ≡ held)
is_for-same client held book is =
    (Decides-and (same_client book.client client) (same_held book.held held) (same_client_decides book.client client) (same_held_decides book.held held)).0 is
