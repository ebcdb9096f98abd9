-- Which name a text in a master file denotes (RFC 1035, 5.1).
use Rattle.std.specs.Prelude.{ℕ, suc, zero, Bool, true, false, List, [], ◌∷◌, ◌++◌, None, Some, Result, Ok, Err, nat_eq, if◌then◌else◌, ◌==◌, codes}
use Rattle.std.specs.Str.{str_to_ascii_lowercase}
use lib.Pointwise.{pointwise}
use Rattle.sipl_names.specs.declared.fault.InvalidName.{InvalidName}
use Rattle.sipl_names.specs.declared.fault.InvalidName.TheVariants.{BadEscape}
use Rattle.sipl_names.specs.Labels.{Octets, Labels, label_fault, name_within_limit}
use Rattle.sipl_names.specs.Escapes.{backslash, full_stop, escape_of}

-- what a text is made of: octets of labels, dots between labels, and backslashes that begin no escape
pub data Symbol : Type 0 where
  octet : ℕ → Symbol
  dot : Symbol
  bad_escape : Symbol

-- An octet denotes itself, a dot ends a label, and a backslash and what follows it denote an octet.
-- The number is how many octets at the text's beginning belong to an escape before it.
abbrev pub symbols : ℕ → Octets → List Symbol
symbols escaped [] = []
symbols (suc escaped) (c ∷ text) = symbols escaped text
symbols zero (c ∷ text) =
    if c == backslash
    then elim (escape_of text) [ Some escape ↦ octet escape.0 ∷ symbols escape.1 text | None ↦ bad_escape ∷ [] ]
    else (if c == full_stop then dot else octet c) ∷ symbols 0 text

-- the labels of a text, and whether the name is absolute: a dot ends it
abbrev pub Read : Type 0
Read = Result (Labels × Bool) InvalidName

-- a label prepended to those that follow, in lower case
abbrev pub prepend_label : Octets → Read → Read
prepend_label label (Ok read) = Ok (str_to_ascii_lowercase label ∷ read.0, read.1)
prepend_label label (Err fault) = Err fault

-- a label that ends here, prepended to those that follow: its own fault comes before theirs
abbrev pub prepend_checked_label : Octets → Read → Read
prepend_checked_label label read = elim (label_fault label) [ Some fault ↦ Err fault | None ↦ prepend_label label read ]

-- the labels that the symbols spell, the first of which has begun with these octets
abbrev pub labels_from : Octets → List Symbol → Read
labels_from label [] = prepend_checked_label label (Ok ([], false))
labels_from label (octet c ∷ rest) = labels_from (label ++ c ∷ []) rest
labels_from label (bad_escape ∷ rest) = Err BadEscape
labels_from label (dot ∷ []) = prepend_checked_label label (Ok ([], true))
labels_from label (dot ∷ next ∷ rest) = prepend_checked_label label (labels_from [] (next ∷ rest))

-- an absolute name is complete, any other is relative to the origin
abbrev pub relative_to : Labels → Read → Result Labels InvalidName
relative_to origin (Ok read) = name_within_limit (if read.1 then read.0 else read.0 ++ origin)
relative_to origin (Err fault) = Err fault

-- the name that a text denotes, or the first fault: `@` is the origin, `.` the root
abbrev pub name_of : Octets → Labels → Result Labels InvalidName
name_of text origin =
    if pointwise nat_eq text (codes "@") then Ok origin
    else (if pointwise nat_eq text (codes ".") then Ok [] else relative_to origin (labels_from [] (symbols 0 text)))
