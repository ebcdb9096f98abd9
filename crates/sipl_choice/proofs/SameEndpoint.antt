-- `same_endpoint` is true exactly where the endpoints are equal.
use Rattle.std.proofs.Common.{◌≡◌, ap}
use Rattle.std.specs.Bool.{Decides}
use Rattle.std.specs.Cmp.{IsEquivalence, decided}
use Rattle.std.proofs.lemmas.Bool.Decides.{Decides-eqb, Decides-like, Decides-and}
use Rattle.sipl_records.specs.declared.address.Address.{Address}
use Rattle.sipl_records.specs.declared.address.Address.TheVariants.{V4, V6}
use Rattle.sipl_records.specs.Addresses.{same_address}
use Rattle.sipl_choice.specs.declared.endpoint.Endpoint.{Endpoint}
use Rattle.sipl_choice.specs.Endpoints.{same_endpoint}
use Rattle.sipl_choice.specs.SameClient.{same_transport_decides}

same_address_decides : (a b : Address) → Decides (same_address a b) (a ≡ b)
same_address_decides (V4 m) (V4 n) = Decides-like _ (λ e. ap (λ k. V4 k) e) (λ e. cc) (Decides-eqb m n)
same_address_decides (V6 m) (V6 n) = Decides-like _ (λ e. ap (λ k. V6 k) e) (λ e. cc) (Decides-eqb m n)
same_address_decides (V4 m) (V6 n) = ((λ e. cc), (λ e. cc))
same_address_decides (V6 m) (V4 n) = ((λ e. cc), (λ e. cc))

pub same_endpoint_decides : (a b : Endpoint) → Decides (same_endpoint a b) (a ≡ b)
same_endpoint_decides a b =
    Decides-like _
    (λ e i. record { transport = e.0.0 i; address = e.0.1 i; port = e.1 i })
    (λ e. ((ap (λ x. x.transport) e, ap (λ x. x.address) e), ap (λ x. x.port) e))
    (Decides-and _ _ (Decides-and _ _ (same_transport_decides a.transport b.transport) (same_address_decides a.address b.address)) (Decides-eqb a.port b.port))

pub same_endpoint-equivalence : IsEquivalence same_endpoint
same_endpoint-equivalence = decided same_endpoint same_endpoint_decides
