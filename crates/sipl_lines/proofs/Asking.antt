-- What a line asks for, by its first word.
use Rattle.std.proofs.Common.{◌≡◌, ◌≤◌, ◌==◌, ℕ, List, [], ◌∷◌, ◌++◌, Bool, false, if◌then◌else◌, Option, None, Some, Bor, codes, nat_eq, length, refl, sym, ap, ◌∙◌, subst}
use Rattle.std.specs.Prelude.{unwrap_or}
use Rattle.std.specs.List.{slice_get}
use Rattle.std.specs.Option.{option_copied, option_eq}
use Rattle.std.proofs.lemmas.Bool.{le-ltb}
use Rattle.sipl_names.specs.Labels.{Octets}
use Rattle.sipl_records.specs.Fields.{fields_of, trim_start, after_field, prepend_octet}
use Rattle.sipl_lines.specs.Requests.{nothing, too_long, is_comment, command_request, fields_request, find_request, request_of}

-- a line whose first octet is not # is no comment
pub no_comment : (line : Octets) (first : Option (Bor ℕ)) (sign : Bor ℕ) → option_copied first ≡ slice_get line 0
    → false ≡ option_eq (λ x y. nat_eq x.now y.now) first (Some sign) → sign.now ≡ 35 → is_comment line ≡ false
no_comment [] first sign is other hash = refl
no_comment (c ∷ line) None sign is other hash = cc
no_comment (c ∷ line) (Some octet) sign is other hash =
    subst (λ (d : ℕ). (d == 35) ≡ false) (ap (λ (o : Option ℕ). unwrap_or o 0) is)
    (subst (λ (m : ℕ). nat_eq octet.now m ≡ false) hash (sym other))

-- a line with fields asks for what its first word does
pub first_word : (line word rest : Octets) → length line ≤ 65536 → is_comment line ≡ false
    → fields_of line ≡ word ∷ fields_of rest → rest ≡ after_field line
    → request_of line ≡ command_request word (fields_of rest) (trim_start rest)
first_word line word rest short plain fields after =
    ap (λ (b : Bool). if b then too_long else (if is_comment line then nothing else fields_request (fields_of line) line)) (le-ltb 65536 (length line) short)
    ∙ ap (λ (b : Bool). if b then nothing else fields_request (fields_of line) line) plain
    ∙ ap (λ (f : List Octets). fields_request f line) fields
    ∙ ap (λ (r : Octets). command_request word (fields_of rest) (trim_start r)) (sym after)

-- an octet before a space is a field of its own
one_octet : (c : ℕ) (rest : Octets) (fields : List Octets) → prepend_octet c (32 ∷ rest) fields ≡ (c ∷ []) ∷ fields
one_octet c rest [] = refl
one_octet c rest (field ∷ fields) = refl

find_fields : (rest : Octets) → fields_of (codes "find " ++ rest) ≡ codes "find" ∷ fields_of rest
find_fields rest =
    ap (λ (f : List Octets). prepend_octet 102 (105 ∷ 110 ∷ 100 ∷ 32 ∷ rest) (prepend_octet 105 (110 ∷ 100 ∷ 32 ∷ rest) (prepend_octet 110 (100 ∷ 32 ∷ rest) f)))
    (one_octet 100 rest (fields_of rest))

find_whole : (rest : Octets) → length (codes "find " ++ rest) ≤ 65536 → request_of (codes "find " ++ rest) ≡ find_request (fields_of rest)
find_whole rest short = first_word (codes "find " ++ rest) (codes "find") (32 ∷ rest) short refl (find_fields rest) refl

-- a line that begins with `find` and a space asks for what the fields after it do
pub find_line : (line rest : Octets) → length line ≤ 65536 → line ≡ codes "find " ++ rest → request_of line ≡ find_request (fields_of rest)
find_line line rest short is = ap request_of is ∙ find_whole rest (subst (λ (text : Octets). length text ≤ 65536) is short)
