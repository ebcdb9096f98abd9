-- The laws of `==` on abilities: it is true exactly where the values are equal.
use Rattle.std.proofs.Common.{◌≡◌, refl, ap}
use Rattle.std.specs.Bool.{Decides}
use Rattle.std.specs.Cmp.{IsEquivalence, decided}
use Rattle.std.proofs.lemmas.Bool.Decides.{Decides-like, Decides-and}
use lib.Pointwise.{pointwise_decides}
use Rattle.sipl_choice.specs.declared.transport.Transport.{Transport}
use Rattle.sipl_choice.specs.declared.transport.Transport.TheVariants.{Udp, Tcp, Tls, Sctp}
use Rattle.sipl_choice.specs.declared.families.Families.{Families}
use Rattle.sipl_choice.specs.declared.families.Families.TheVariants.{V4, V6, V4ThenV6, V6ThenV4}
use Rattle.sipl_choice.specs.Transports.{same_transport}
use Rattle.sipl_choice.specs.Abilities.{Client, same_families, same_client}

pub same_transport_decides : (a b : Transport) → Decides (same_transport a b) (a ≡ b)
same_transport_decides Udp Udp = ((λ e. refl), (λ e. refl))
same_transport_decides Tcp Tcp = ((λ e. refl), (λ e. refl))
same_transport_decides Tls Tls = ((λ e. refl), (λ e. refl))
same_transport_decides Sctp Sctp = ((λ e. refl), (λ e. refl))
same_transport_decides _ _ = ((λ e. cc), (λ e. cc))

same_families_decides : (a b : Families) → Decides (same_families a b) (a ≡ b)
same_families_decides V4 V4 = ((λ e. refl), (λ e. refl))
same_families_decides V6 V6 = ((λ e. refl), (λ e. refl))
same_families_decides V4ThenV6 V4ThenV6 = ((λ e. refl), (λ e. refl))
same_families_decides V6ThenV4 V6ThenV4 = ((λ e. refl), (λ e. refl))
same_families_decides _ _ = ((λ e. cc), (λ e. cc))

pub same_client_decides : (a b : Client) → Decides (same_client a b) (a ≡ b)
same_client_decides a b =
    Decides-like _
    (λ e i. record { preference = e.0 i; families = e.1 i })
    (λ e. (ap (λ x. x.preference) e, ap (λ x. x.families) e))
    (Decides-and _ _ (pointwise_decides same_transport_decides a.preference b.preference)
    (same_families_decides a.families b.families))

pub same_client-equivalence : IsEquivalence same_client
same_client-equivalence = decided same_client same_client_decides
