-- A text is a parameter by the grammar exactly where it is read as one.
use Rattle.std.proofs.Common.{◌≡◌, ℕ, ◌<◌, true, false, not, List, [], ◌∷◌, ◌++◌, length, map, Option, Some, None, refl, sym, ap, ◌∙◌, arith, nat_eq, append-nil}
use Rattle.std.specs.List.{AllByRecursion, list_all, list_any}
use Rattle.std.specs.Str.{str_to_ascii_lowercase}
use Rattle.std.proofs.lemmas.Bool.{and_parts, and_from, or_from, or_parts, not-true, not_from_false}
use Rattle.sipl_names.specs.Labels.{Octets}
use Rattle.sipl_names.proofs.Public.{length-lowered}
use Rattle.sipl_records.specs.Parts.{split_once}
use Rattle.sipl_uri.specs.UriOctets.{is_param_octet}
use Rattle.sipl_uri.specs.Params.{Param, param_of}
use Rattle.sipl_uri.specs.Grammar.{IsValuePart, IsParam, AreParams}
use Rattle.sipl_uri.proofs.Splits.{lacks, separated, split_once-append, split_once-lacks, split_once-joins, split_once-whole, lacks-split_once}

list_any-lacks : (s : ℕ) (text : Octets) → lacks s text ≡ true → list_any (λ c. nat_eq c s) text ≡ false
list_any-lacks s [] none = refl
list_any-lacks s (c ∷ text) none =
    let both = and_parts (not (nat_eq c s)) (lacks s text) none in
    or_from _ _ (not-true (nat_eq c s) both.0) (list_any-lacks s text both.1)

lacks-list_any : (s : ℕ) (text : Octets) → list_any (λ c. nat_eq c s) text ≡ false → lacks s text ≡ true
lacks-list_any s [] none = refl
lacks-list_any s (c ∷ text) none =
    let both = or_parts (nat_eq c s) (list_any (λ d. nat_eq d s) text) none in
    and_from _ _ (not_from_false (nat_eq c s) both.0) (lacks-list_any s text both.1)

-- a parameter has a name
abbrev pub IsNamed : Param → Type 0
IsNamed param = 0 < length param.name

abbrev equals_value : Option Octets → Octets
equals_value None = []
equals_value (Some value) = 61 ∷ value

value_part : (value : Option Octets) → IsValuePart (equals_value value) value
value_part None = refl
value_part (Some value) = refl

split_equals : (text : Octets) (value : Option Octets) → (split_once 61 text).1 ≡ value → text ≡ (split_once 61 text).0 ++ equals_value value
split_equals text None e = split_once-whole 61 text e ∙ sym (append-nil (split_once 61 text).0)
split_equals text (Some value) e = split_once-joins 61 text value e

-- a text of a parameter's octets that has a name is one
param_of-is : (text : Octets) → IsNamed (param_of text) → list_all is_param_octet text ≡ true → IsParam text (param_of text)
param_of-is text named all =
    let same = length-lowered (split_once 61 text).0 in
    record {
      pname = (split_once 61 text).0;
      rest = equals_value (split_once 61 text).1;
      written = split_equals text (split_once 61 text).1 refl;
      nonempty = omega arith;
      without_equals = list_any-lacks 61 (split_once 61 text).0 (lacks-split_once 61 text);
      octets = all;
      name = refl;
      value = value_part (split_once 61 text).1;
    }

split_once-value : (pname rest : Octets) (value : Option Octets) → lacks 61 pname ≡ true → IsValuePart rest value → split_once 61 (pname ++ rest) ≡ (pname, value)
split_once-value pname rest (Some value) none is = ap (λ (r : Octets). split_once 61 (pname ++ r)) is ∙ split_once-append 61 pname value none
split_once-value pname rest None none is = ap (λ (r : Octets). split_once 61 (pname ++ r)) is ∙ (ap (split_once 61) (append-nil pname) ∙ split_once-lacks 61 pname none)

-- a parameter is read as one
param_of-read : (text : Octets) (param : Param) → IsParam text param → param_of text ≡ param
param_of-read text param is =
    let cut : split_once 61 text ≡ (is.pname, param.value) = ap (split_once 61) is.written ∙ split_once-value is.pname is.rest param.value (lacks-list_any 61 is.pname is.without_equals) is.value in
    let name : str_to_ascii_lowercase (split_once 61 text).0 ≡ param.name = ap (λ (c : Octets × Option Octets). str_to_ascii_lowercase c.0) cut ∙ sym is.name in
    let value : (split_once 61 text).1 ≡ param.value = ap (λ (c : Octets × Option Octets). c.1) cut in
    λ i. record { name = name i; value = value i }

param_named : (text : Octets) (param : Param) → IsParam text param → IsNamed param
param_named text param is =
    let nonempty = is.nonempty in
    let same : length param.name ≡ length is.pname = ap (λ (name : Octets). length name) is.name ∙ length-lowered is.pname in
    omega arith

-- texts of parameters, each after a semicolon
pub are_params : (texts : List Octets) → AllByRecursion IsNamed (map param_of texts) → list_all (list_all is_param_octet) texts ≡ true → AreParams (separated 59 texts) (map param_of texts)
are_params [] named all = refl
are_params (text ∷ texts) named all =
    let both = and_parts (list_all is_param_octet text) (list_all (list_all is_param_octet) texts) all in
    (text, separated 59 texts, refl, param_of-is text named.0 both.0, are_params texts named.1 both.1)

-- the texts of parameters
pub record ParamTexts (text : Octets) (params : List Param) : Type 0 where
  pub texts : List Octets
  pub written : text ≡ separated 59 texts
  pub read : map param_of texts ≡ params
  pub named : AllByRecursion IsNamed params
  pub octets : list_all (list_all is_param_octet) texts ≡ true

pub param_texts : (text : Octets) (params : List Param) → AreParams text params → ParamTexts text params
param_texts text [] is = record { texts = []; written = is; read = refl; named = tt; octets = refl }
param_texts text (param ∷ params) is =
    let others = param_texts is.1 params is.4 in
    record {
      texts = is.0 ∷ others.texts;
      written = is.2 ∙ ap (λ (rest : Octets). 59 ∷ is.0 ++ rest) others.written;
      read = λ i. param_of-read is.0 param is.3 i ∷ others.read i;
      named = (param_named is.0 param is.3, others.named);
      octets = and_from _ _ is.3.octets others.octets;
    }
