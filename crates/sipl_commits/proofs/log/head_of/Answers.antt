use Rattle.std.proofs.Common.{◌≡◌, [], ◌∷◌, ◌++◌, ap, ◌∙◌, append_assoc}
use Rattle.sipl_commits.specs.Logs.{head_start, head_text}
use Rattle.sipl_commits.specs.Seals.{Octets, digest_text, number_text, sealed}
use Rattle.sipl_commits.specs.declared.point.Point.{Point}
use Rattle.sipl_commits.proofs.log.head_of.Goals as goal

head_is : (p : Point) (a b d e f : Octets) → a ≡ head_start → b ≡ a ++ number_text p.number → d ≡ b ++ 32 ∷ []
    → e ≡ d ++ digest_text p.digest → f ≡ e ++ 32 ∷ [] → f ≡ head_text p
unfolding head_text
head_is p a b d e f is_a is_b is_d is_e is_f =
    is_f ∙ ap (λ (x : Octets). x ++ 32 ∷ []) (is_e ∙ ap (λ (x : Octets). x ++ digest_text p.digest) (is_d ∙ ap (λ (x : Octets). x ++ 32 ∷ [])
    (is_b ∙ ap (λ (x : Octets). x ++ number_text p.number) is_a))) ∙ simp append_assoc

pub returns : goal.returns
returns c =
    c.in_ok-push_seal.ensures.text
    ∙ ap sealed (head_is c.args.point.now _ _ _ _ _ c.in_ok-head.ensures.items c.in_ok-push_number.ensures c.in_ok-push.ensures.items
    c.in_ok-push_digest.ensures c.in_ok-push-2.ensures.items)
