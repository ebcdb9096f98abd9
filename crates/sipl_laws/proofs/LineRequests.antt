-- What the first lines of events ask for.
use Rattle.std.proofs.Common.{◌≡◌, ℕ, ◌^◌, ◌<◌, ◌≤◌, Bool, true, false, List, [], ◌∷◌, ◌++◌, length, Option, Some, None, Result, Ok, Err, refl, sym, ap, ◌∙◌, arith, append_assoc, length-append, nat_lt, codes, decimal}
use Rattle.std.specs.List.{flat_map}
use Rattle.std.proofs.lemmas.Bool.Decides.{nat_tests}
use Rattle.std.proofs.lemmas.Fmt.{decimal_nonempty}
use Rattle.sipl_names.specs.Labels.{Octets, Labels}
use Rattle.sipl_names.specs.NamePrint.{printed_label, printed_octet, text_of}
use Rattle.sipl_records.specs.Addresses.{IsAddress, address_of, text_of_address}
use Rattle.sipl_records.specs.Fields.{after_field, fields_of, trim_start}
use Rattle.sipl_records.specs.Numbers.{number_of}
use Rattle.sipl_records.specs.declared.address.Address.{Address}
use Rattle.sipl_records.specs.declared.fault.AddressFault.{AddressFault}
use Rattle.sipl_records.specs.declared.fault.AddressFault.TheVariants.{BadAddress}
use Rattle.sipl_choice.specs.Transports.{transport_named, transport_text}
use Rattle.sipl_choice.specs.declared.endpoint.Endpoint.{Endpoint}
use Rattle.sipl_choice.specs.declared.transport.Transport.{Transport}
use Rattle.sipl_choice.specs.declared.transport.Transport.TheVariants.{Udp, Tcp, Tls, Sctp}
use Rattle.sipl_uri.specs.QuestionText.{host_text, port_text, question_text, scheme_text, transport_param}
use Rattle.sipl_uri.specs.declared.question.Question.{Question}
use Rattle.sipl_lines.specs.Requests.{command_request, endpoint_of, fields_request, is_comment, request_of}
use Rattle.sipl_lines.specs.ReplyText.{number_field, word_field}
use Rattle.sipl_lines.specs.CommandText.{endpoint_text}
use Rattle.sipl_laws.specs.Events.{IsEndpoint}
use Rattle.sipl_laws.proofs.Cuts.{From, from-append, from-lower}
use Rattle.sipl_laws.proofs.Octets.{from-address, from-decimal, from-transport}
use Rattle.sipl_laws.proofs.FieldLists.{first-field, number-read, only-field}
use Rattle.sipl_laws.proofs.SameLines.{named}

-- a line that is no comment and not too long asks for what its fields do
pub asked : (line : Octets) → length line ≤ 65536 → is_comment line ≡ false → request_of line ≡ fields_request (fields_of line) line
asked line short plain =
    let test : nat_lt 65536 (length line) ≡ false = grind (arith, nat_tests) in
    rw (test, plain) refl

-- the same of a word and the fields after it
pub asked-fields : (word rest : Octets) (fields : List Octets) → length (word ++ 32 ∷ rest) ≤ 65536 → is_comment (word ++ 32 ∷ rest) ≡ false → 0 < length word → From 33 word → fields_of rest ≡ fields → request_of (word ++ 32 ∷ rest) ≡ command_request word fields (trim_start (after_field (word ++ 32 ∷ rest)))
asked-fields word rest fields short plain some all are =
    asked (word ++ 32 ∷ rest) short plain
    ∙ ap (λ (fs : List Octets). fields_request fs (word ++ 32 ∷ rest)) (first-field word rest some all ∙ ap (λ (fs : List Octets). word ∷ fs) are)

-- the octets of fields

pub seen-number : (n : ℕ) → n < 2 ^ 64 → From 33 (decimal n)
seen-number n small = from-lower 33 48 (decimal n) (omega arith) (from-decimal n small)

some-transport : (transport : Transport) → 0 < length (transport_text transport)
some-transport Udp = omega arith
some-transport Tcp = omega arith
some-transport Tls = omega arith
some-transport Sctp = omega arith

some-address : (address : Address) → address_of (text_of_address address) ≡ Some address → 0 < length (text_of_address address)
some-address address reads = by (text_of_address address) reads
  where
    by : (text : Octets) → address_of text ≡ Some address → 0 < length text
    by [] read = absurd (let none : address_of [] ≡ None = refl in let never : None ≡ Some address = sym none ∙ read in cc)
    by (c ∷ text) read = omega arith

pub some-name : (labels : Labels) → 0 < length (text_of labels)
some-name [] = omega arith
some-name (label ∷ labels) =
    omega (arith, length-append (printed_label label) (flat_map printed_label labels), length-append (flat_map printed_octet label) (codes "."))

pub some-question : (question : Question) → 0 < length (question_text question)
some-question question =
    omega (
      arith,
      length-append (scheme_text question.secure ++ host_text question.target ++ port_text question.port) (transport_param question.transport),
      length-append (scheme_text question.secure ++ host_text question.target) (port_text question.port),
      length-append (scheme_text question.secure) (host_text question.target),
      scheme question.secure,
    )
  where
    scheme : (secure : Bool) → 0 < length (scheme_text secure)
    scheme false = omega arith
    scheme true = omega arith

pub from-endpoint : (endpoint : Endpoint) → IsEndpoint endpoint → From 32 (endpoint_text endpoint)
from-endpoint endpoint is =
    let port = is.port in
    from-append 32 (transport_text endpoint.transport ++ word_field (text_of_address endpoint.address)) (number_field endpoint.port)
    (from-append 32 (transport_text endpoint.transport) (word_field (text_of_address endpoint.address)) (lower (transport_text endpoint.transport) (from-transport endpoint.transport)) (omega arith, lower (text_of_address endpoint.address) (from-address endpoint.address is.address)))
    (omega arith, lower (decimal endpoint.port) (seen-number endpoint.port (omega (arith, port))))
  where
    lower : (text : Octets) → From 33 text → From 32 text
    lower text all = from-lower 32 33 text (omega arith) all

-- two or three texts after one, nested to the right
regroup : (t a p r : Octets) → (t ++ 32 ∷ a ++ 32 ∷ p) ++ r ≡ t ++ 32 ∷ (a ++ 32 ∷ (p ++ r))
regroup t a p r = simp append_assoc

regrouped : (t a p : Octets) → t ++ 32 ∷ a ++ 32 ∷ p ≡ t ++ 32 ∷ (a ++ 32 ∷ p)
regrouped t a p = simp append_assoc

module _ (reads : (address : Address) → IsAddress address → address_of (text_of_address address) ≡ Some address) where
  pub endpoint-fields : (endpoint : Endpoint) → IsEndpoint endpoint → fields_of (endpoint_text endpoint) ≡ transport_text endpoint.transport ∷ text_of_address endpoint.address ∷ decimal endpoint.port ∷ []
  endpoint-fields endpoint is =
      let port = is.port in
      let some : 0 < length (decimal endpoint.port) = decimal_nonempty endpoint.port (omega (arith, port)) in
      ap fields_of (regrouped (transport_text endpoint.transport) (text_of_address endpoint.address) (decimal endpoint.port))
      ∙ first-field (transport_text endpoint.transport) (text_of_address endpoint.address ++ 32 ∷ decimal endpoint.port) (some-transport endpoint.transport) (from-transport endpoint.transport)
      ∙ ap (λ (fs : List Octets). transport_text endpoint.transport ∷ fs)
      (first-field (text_of_address endpoint.address) (decimal endpoint.port) (some-address endpoint.address (reads endpoint.address is.address)) (from-address endpoint.address is.address)
      ∙ ap (λ (fs : List Octets). text_of_address endpoint.address ∷ fs) (only-field (decimal endpoint.port) some (seen-number endpoint.port (omega (arith, port)))))

  pub hold-fields : (endpoint : Endpoint) (ms : ℕ) → IsEndpoint endpoint → ms < 2 ^ 64 → fields_of (endpoint_text endpoint ++ 32 ∷ decimal ms) ≡ transport_text endpoint.transport ∷ text_of_address endpoint.address ∷ decimal endpoint.port ∷ decimal ms ∷ []
  hold-fields endpoint ms is small =
      let port = is.port in
      let some : 0 < length (decimal endpoint.port) = decimal_nonempty endpoint.port (omega (arith, port)) in
      ap fields_of (regroup (transport_text endpoint.transport) (text_of_address endpoint.address) (decimal endpoint.port) (32 ∷ decimal ms))
      ∙ first-field (transport_text endpoint.transport) (text_of_address endpoint.address ++ 32 ∷ (decimal endpoint.port ++ 32 ∷ decimal ms)) (some-transport endpoint.transport) (from-transport endpoint.transport)
      ∙ ap (λ (fs : List Octets). transport_text endpoint.transport ∷ fs)
      (first-field (text_of_address endpoint.address) (decimal endpoint.port ++ 32 ∷ decimal ms) (some-address endpoint.address (reads endpoint.address is.address)) (from-address endpoint.address is.address)
      ∙ ap (λ (fs : List Octets). text_of_address endpoint.address ∷ fs)
      (first-field (decimal endpoint.port) (decimal ms) some (seen-number endpoint.port (omega (arith, port)))
      ∙ ap (λ (fs : List Octets). decimal endpoint.port ∷ fs) (only-field (decimal ms) (decimal_nonempty ms small) (seen-number ms small))))

  -- an endpoint is read
  pub endpoint-read : (endpoint : Endpoint) → IsEndpoint endpoint → endpoint_of (transport_named (transport_text endpoint.transport)) (text_of_address endpoint.address) (number_of (decimal endpoint.port) 65535) ≡ Some (Ok endpoint)
  endpoint-read endpoint is =
      let port = is.port in
      let number : number_of (decimal endpoint.port) 65535 ≡ Some endpoint.port = number-read endpoint.port 65535 (omega (arith, port)) (omega (arith, port)) in
      let address : address_of (text_of_address endpoint.address) ≡ Some endpoint.address = reads endpoint.address is.address in
      ap (λ (t : Option Transport). endpoint_of t (text_of_address endpoint.address) (number_of (decimal endpoint.port) 65535)) (named endpoint.transport)
      ∙ ap (λ (n : Option ℕ). endpoint_of (Some endpoint.transport) (text_of_address endpoint.address) n) number
      ∙ ap (λ (a : Option Address). Some (elim a as (λ _. Result Endpoint AddressFault) [ Some found ↦ Ok (record { transport = endpoint.transport; address = found; port = endpoint.port }) | None ↦ Err BadAddress ])) address
