-- A text is a host by the grammar exactly where it is read as one.
use Rattle.std.proofs.Common.{◌≡◌, ℕ, Bool, true, false, not, ◌||◌, [], ◌∷◌, ◌++◌, Option, Some, None, if◌then◌else◌, refl, sym, ap, subst, ◌∙◌, arith, inl, inr, nat_eq}
use Rattle.std.specs.Prelude.{codes, option_map}
use Rattle.std.specs.List.{flat_map, list_all}
use Rattle.std.specs.Option.{option_or}
use Rattle.std.specs.Char.{is_ascii_digit, is_ascii_alphabetic}
use Rattle.std.proofs.lemmas.Bool.{cases_Bool, and_parts, and_from, or_left, or_right, eqb-true}
use Rattle.std.proofs.lemmas.Bool.Decides.{nat_tests}
use Rattle.std.proofs.lemmas.List.Folds.{list_all-append}
use Rattle.sipl_names.specs.Labels.{Octets, Labels}
use Rattle.sipl_names.specs.Hostnames.{is_hostname_octet, begins_with_letter, hostname_of}
use Rattle.sipl_records.specs.declared.address.Address.TheVariants.{V4, V6}
use Rattle.sipl_records.specs.Ipv4.{number_of_text}
use Rattle.sipl_records.specs.Ipv6.{address6_of_text}
use Rattle.sipl_records.specs.Parts.{split_once}
use Rattle.sipl_uri.specs.declared.question.Target.{Target}
use Rattle.sipl_uri.specs.declared.question.Target.TheVariants.{Numeric, Domain}
use Rattle.sipl_uri.specs.UriOctets.{is_param_octet}
use Rattle.sipl_uri.specs.Hosts.{bracketed_text, reference_of, host_of}
use Rattle.sipl_uri.specs.Grammar.{dotted, IsHostname, IsReference, IsHost}
use Rattle.sipl_uri.proofs.Octets.{list_all-weaker, of_hostname, digit_of_label, hostname_param, no_bracket}
use Rattle.sipl_uri.proofs.Splits.{lacks, split_once-append, split_once-joins}
use Rattle.sipl_uri.proofs.AddressOctets.{is_address_octet, address_octets, is_address6_octet, address6_octets, address6_param, address6_no_bracket}
use Rattle.sipl_uri.proofs.Hostnames.{hostname_of-is, hostname_of-Some, hostname_octets, hostname_parts}

address_octet_of_hostname : (c : ℕ) → is_address_octet c ≡ true → is_hostname_octet c ≡ true
address_octet_of_hostname c is = elim (cases_Bool (is_ascii_digit c)) [
  | inl digit ↦ of_hostname c (digit_of_label c digit)
  | inr other ↦ or_right _ _ (or_left (nat_eq c 46) false (sym (ap (λ (b : Bool). b || nat_eq c 46) other) ∙ is))
]

no_letter : (c : ℕ) → is_address_octet c ≡ true → is_ascii_alphabetic c ≡ true → false ≡ true
no_letter c is letter = grind (arith, nat_tests)

first_letter : (top : Octets) → list_all is_address_octet top ≡ true → begins_with_letter top ≡ true → false ≡ true
first_letter [] all letter = letter
first_letter (c ∷ top) all letter = no_letter c (and_parts (is_address_octet c) (list_all is_address_octet top) all).0 letter

-- a hostname is no address
hostname_is_no_address : (text : Octets) (labels : Labels) (n : ℕ) → IsHostname text labels → number_of_text text ≡ Some n → false ≡ true
hostname_is_no_address text labels n is e =
    let p = hostname_parts text labels is in
    let end : Octets = if p.whole then codes "." else [] in
    let all : list_all is_address_octet (flat_map dotted p.domains ++ p.top ++ end) ≡ true = sym (ap (λ (t : Octets). list_all is_address_octet t) p.written) ∙ address_octets text n e in
    let front = (and_parts (list_all is_address_octet (flat_map dotted p.domains ++ p.top)) (list_all is_address_octet end) (sym (list_all-append is_address_octet (flat_map dotted p.domains ++ p.top) end) ∙ all)).0 in
    let top = (and_parts (list_all is_address_octet (flat_map dotted p.domains)) (list_all is_address_octet p.top) (sym (list_all-append is_address_octet (flat_map dotted p.domains) p.top) ∙ front)).1 in
    first_letter p.top top p.top_label.letter

-- the octets of a host are those of a parameter
address_param : (c : ℕ) → is_address_octet c ≡ true → is_param_octet c ≡ true
address_param c is = hostname_param c (address_octet_of_hostname c is)

reference_octets : (text : Octets) (n : ℕ) → IsReference text n → list_all is_param_octet text ≡ true
reference_octets text n is =
    let inside = list_all-weaker is_address6_octet is_param_octet address6_param is.address (address6_octets is.address n is.is_address) in
    ap (list_all is_param_octet) is.written ∙ (list_all-append is_param_octet is.address (codes "]") ∙ and_from _ _ inside refl)

pub host_octets : (text : Octets) (target : Target) → IsHost text target → list_all is_param_octet text ≡ true
host_octets text (Numeric (V4 n)) is = list_all-weaker is_address_octet is_param_octet address_param text (address_octets text n is)
host_octets text (Numeric (V6 n)) is = reference_octets text n is
host_octets text (Domain labels) is = list_all-weaker is_hostname_octet is_param_octet hostname_param text (hostname_octets text labels is)

-- a host without brackets
pub plain_octets : (text : Octets) (n : ℕ) → number_of_text text ≡ Some n → list_all is_hostname_octet text ≡ true
plain_octets text n is = list_all-weaker is_address_octet is_hostname_octet address_octet_of_hostname text (address_octets text n is)

-- the text within the brackets of a reference has none
pub inside_lacks : (text : Octets) (n : ℕ) → address6_of_text text ≡ Some n → lacks 93 text ≡ true
inside_lacks text n e = list_all-weaker is_address6_octet (λ c. not (nat_eq c 93)) address6_no_bracket text (address6_octets text n e)

abbrev within : Octets × Option Octets → Option Octets
within cut = elim cut.1 as (λ _. Option Octets) [ Some [] ↦ Some cut.0 | Some (d ∷ after) ↦ None | None ↦ None ]

bracketed_by : (c : ℕ) (text address : Octets) (here : Bool) (after : Option Octets) → nat_eq c 91 ≡ here → (split_once 93 text).1 ≡ after → (if here then within ((split_once 93 text).0, after) else None) ≡ Some address → c ∷ text ≡ codes "[" ++ address ++ codes "]"
bracketed_by c text address true (Some []) e f same =
    let inside : (split_once 93 text).0 ≡ address = cc in
    ap (λ (d : ℕ). d ∷ text) (eqb-true c 91 e) ∙ ap (λ (t : Octets). 91 ∷ t) (split_once-joins 93 text [] f ∙ ap (λ (t : Octets). t ++ 93 ∷ []) inside)
bracketed_by c text address true (Some (d ∷ after)) e f same = cc
bracketed_by c text address true None e f same = cc
bracketed_by c text address false after e f same = cc

bracketed : (text address : Octets) → bracketed_text text ≡ Some address → text ≡ codes "[" ++ address ++ codes "]"
bracketed [] address e = cc
bracketed (c ∷ text) address e = bracketed_by c text address _ _ refl refl e

reference_with : (text address : Octets) (number : Option ℕ) (target : Target) → text ≡ codes "[" ++ address ++ codes "]" → address6_of_text address ≡ number → option_map (λ n. Numeric (V6 n)) number ≡ Some target → IsHost text target
reference_with text address (Some n) target written e same =
    let is : Numeric (V6 n) ≡ target = cc in
    subst (λ (t : Target). IsHost text t) is (record { address = address; written = written; is_address = e })
reference_with text address None target written e same = cc

reference_by : (text : Octets) (inside : Option Octets) (target : Target) → bracketed_text text ≡ inside → elim inside as (λ _. Option Target) [ Some address ↦ option_map (λ n. Numeric (V6 n)) (address6_of_text address) | None ↦ None ] ≡ Some target → IsHost text target
reference_by text (Some address) target e same = reference_with text address (address6_of_text address) target (bracketed text address e) refl same
reference_by text None target e same = cc

host_by : (text : Octets) (number : Option ℕ) (reference : Option Target) (name : Option Labels) (target : Target) → number_of_text text ≡ number → reference_of text ≡ reference → hostname_of text ≡ name → option_or (option_map (λ n. Numeric (V4 n)) number) (option_or reference (option_map (λ labels. Domain labels) name)) ≡ Some target → IsHost text target
host_by text (Some n) reference name target e f g same = let is : Numeric (V4 n) ≡ target = cc in subst (λ (t : Target). IsHost text t) is e
host_by text None (Some found) name target e f g same = reference_by text (bracketed_text text) target refl (f ∙ same)
host_by text None None (Some labels) target e f g same = let is : Domain labels ≡ target = cc in subst (λ (t : Target). IsHost text t) is (hostname_of-is text labels g)
host_by text None None None target e f g same = cc

-- what is read as a host is one
pub host_of-is : (text : Octets) (target : Target) → host_of text ≡ Some target → IsHost text target
host_of-is text target e = host_by text (number_of_text text) (reference_of text) (hostname_of text) target refl refl refl e

no_address : (text : Octets) (labels : Labels) (number : Option ℕ) → IsHostname text labels → number_of_text text ≡ number → number ≡ None
no_address text labels None is e = refl
no_address text labels (Some n) is e = let absent = hostname_is_no_address text labels n is e in cc

no_reference : (text : Octets) → list_all is_hostname_octet text ≡ true → reference_of text ≡ None
no_reference [] all = refl
no_reference (c ∷ text) all = rw (no_bracket c (and_parts (is_hostname_octet c) (list_all is_hostname_octet text) all).0, reference_of) refl

bracketed_address : (text : Octets) (number : Option ℕ) → number_of_text (91 ∷ text) ≡ number → number ≡ None
bracketed_address text None e = refl
bracketed_address text (Some n) e = let absent : false ≡ true = address_octets (91 ∷ text) n e in cc

reference_of-Some : (address : Octets) (n : ℕ) → address6_of_text address ≡ Some n → reference_of (91 ∷ address ++ 93 ∷ []) ≡ Some (Numeric (V6 n))
reference_of-Some address n e =
    let cut : split_once 93 (address ++ 93 ∷ []) ≡ (address, Some []) = split_once-append 93 address [] (inside_lacks address n e) in
    ap (λ (inside : Option Octets). elim inside as (λ _. Option Target) [ Some a ↦ option_map (λ k. Numeric (V6 k)) (address6_of_text a) | None ↦ None ]) (ap within cut)
    ∙ ap (λ (number : Option ℕ). option_map (λ k. Numeric (V6 k)) number) e

host_of-reference : (address : Octets) (n : ℕ) → address6_of_text address ≡ Some n → host_of (91 ∷ address ++ 93 ∷ []) ≡ Some (Numeric (V6 n))
host_of-reference address n e =
    let text : Octets = 91 ∷ address ++ 93 ∷ [] in
    ap (λ (number : Option ℕ). option_or (option_map (λ k. Numeric (V4 k)) number) (option_or (reference_of text) (option_map (λ labels. Domain labels) (hostname_of text)))) (bracketed_address (address ++ 93 ∷ []) _ refl)
    ∙ ap (λ (reference : Option Target). option_or reference (option_map (λ labels. Domain labels) (hostname_of text))) (reference_of-Some address n e)

-- a host is read as one
pub host_of-Some : (text : Octets) (target : Target) → IsHost text target → host_of text ≡ Some target
host_of-Some text (Numeric (V6 n)) is = ap host_of is.written ∙ host_of-reference is.address n is.is_address
host_of-Some text (Numeric (V4 n)) is = ap (λ (number : Option ℕ). option_or (option_map (λ k. Numeric (V4 k)) number) (option_or (reference_of text) (option_map (λ labels. Domain labels) (hostname_of text)))) is
host_of-Some text (Domain labels) is =
    ap (λ (number : Option ℕ). option_or (option_map (λ k. Numeric (V4 k)) number) (option_or (reference_of text) (option_map (λ name. Domain name) (hostname_of text)))) (no_address text labels (number_of_text text) is refl)
    ∙ ap (λ (reference : Option Target). option_or reference (option_map (λ name. Domain name) (hostname_of text))) (no_reference text (hostname_octets text labels is))
    ∙ ap (λ (name : Option Labels). option_map (λ n. Domain n) name) (hostname_of-Some text labels is)
