use Rattle.std.proofs.Common.{◌≡◌, ℕ, List, ◌++◌, codes, sym, ap, ◌∙◌, subst, arith}
use Rattle.std.proofs.lemmas.Bool.{false≢true}
use Rattle.std.proofs.lemmas.Bool.Decides.{nat_tests}
use Rattle.std.proofs.lemmas.Str.Pattern.{NoCharPasses-char}
use Rattle.std.proofs.NetLemmas.Theorems.{IsSocketText_unique}
use Rattle.std.specs.Net.Addr.{IsLoopbackV4, IsLoopbackV6, MatchIp}
use Rattle.std.specs.Net.Grammar.{IsSocketText}
use Rattle.std.specs.String.{string_bytes}
use Rattle.std.specs.declared.net.ip_addr.IpAddr.{IpAddr}
use Rattle.std.specs.declared.net.socket_addr.SocketAddr.{SocketAddr}
use Rattle.sipl_listen.specs.Addresses.{IsAddressText, IsOwn, IsSocketPath}
use Rattle.sipl_listen.specs.declared.address.Address.{Address}
use Rattle.sipl_listen.specs.declared.address.Address.TheVariants.{Tcp, Unix}
use Rattle.sipl_listen.proofs.address.Address.from_text.Goals.{in_default-parse-via-in-Ok+else-is_loopback, in_default-parse-via-in_default-parse}
use Rattle.sipl_listen.proofs.address.Address.from_text.Goals as goal

-- a text that names no socket address of the machine, and does not begin with `unix:`, is no address
no_address : (text : List ℕ) → ((address : SocketAddr) → IsSocketText text address → ¬ (IsOwn address)) → ((path : List ℕ) → ¬ (text ≡ codes "unix:" ++ path)) → (address : Address) → ¬ (IsAddressText text address)
no_address text tcp unix (Tcp address) h = tcp address h.1 h.2
no_address text tcp unix (Unix path) h = unix (string_bytes path) h.0

pub returns-in-Some-clause-found : goal.returns-in-Some-clause-found
returns-in-Some-clause-found c =
    let path : List ℕ = c.in-Some.path.now in
    let same : path ≡ string_bytes c.in_ok-from_str.field-0 = sym c.in_ok-from_str.ensures.ok in
    let strip = c.in-Some.ensures.cases in
    let named : IsSocketPath path = record {
      some = grind (arith, nat_tests);
      fits = omega arith;
      no_nul = λ w. NoCharPasses-char 0 path w.0 c.if-contains.ensures.cases (omega arith) w.1 w.2;
    } in
    (strip.1.1 ∙ ap (λ (rest : List ℕ). codes "unix:" ++ rest) (sym strip.2 ∙ same), subst IsSocketPath same named)

pub returns-in_default-parse-clause-none : goal.returns-in_default-parse-clause-none
returns-in_default-parse-clause-none c =
    no_address c.args.text.now
    (elim c.in_default-parse.branch [
      | in_default-parse-via-in-Ok+else-is_loopback w ↦ λ address h own.
          let same : address ≡ w.in-Ok.address = IsSocketText_unique _ _ _ h w.in-Ok.ensures.value in
          let here : IsOwn w.in-Ok.address = subst IsOwn same own in
          let mine = subst (λ (ip : IpAddr). MatchIp ip IsLoopbackV4 IsLoopbackV6) (sym w.ip.ensures) here in
          false≢true (sym w.if-is_loopback.false ∙ w.is_loopback.ensures.1 mine)
      | in_default-parse-via-in_default-parse w ↦ λ address h own. w.in_default-parse.ensures.value address h
    ])
    (λ path e. c.in_default.ensures.cases path e)
