-- How a text is read, symbol by symbol, into a wire form.
use Rattle.std.proofs.Common.{◌≡◌, ℕ, ◌+◌, ◌-◌, ◌<◌, Bool, true, false, List, [], ◌∷◌, ◌++◌, Option, Some, None, Ok, Err, length, drop, set, refl, sym, ap, ◌∙◌, subst, arith, append_assoc, length-append, if◌then◌else◌, ◌==◌, append-nil}
use Rattle.std.proofs.lemmas.List.{map_push, set_at, drop_at}
use Rattle.std.proofs.lemmas.List.Concat.{flat_map-append}
use Rattle.std.specs.Char.{to_ascii_lowercase}
use Rattle.std.specs.Str.{str_to_ascii_lowercase}
use Rattle.std.specs.List.{AllByRecursion}
use Rattle.sipl_names.specs.declared.fault.InvalidName.{InvalidName}
use Rattle.sipl_names.specs.declared.fault.InvalidName.TheVariants.{BadEscape}
use Rattle.sipl_names.specs.Escapes.{escape_of}
use Rattle.sipl_names.specs.Labels.{Octets, Labels, length_prefixed, wire_of, IsLabel, label_fault}
use Rattle.sipl_names.specs.NameText.{Symbol, octet, dot, bad_escape, symbols, Read, prepend_label, prepend_checked_label, labels_from}
use Rattle.sipl_names.specs.Wire.{labels_of_wire}
use Rattle.sipl_names.specs.Reading.{Spells, IsBadEscape}
use Rattle.sipl_names.proofs.Wires.{labels_at, wire_at}
use Rattle.sipl_names.proofs.Lowercase.{lowered_label, label_fault-lowered, octets_push}

-- a label prepended to those that are read
abbrev pub prepend : Octets → Read → Read
prepend label (Ok labels) = Ok (label ∷ labels.0, labels.1)
prepend label (Err fault) = Err fault

-- labels prepended to those that are read
abbrev pub prepend_labels : Labels → Read → Read
prepend_labels [] read = read
prepend_labels (label ∷ done) read = prepend label (prepend_labels done read)

prepend_label-prepend : (label : Octets) (read : Read) → prepend_label label read ≡ prepend (str_to_ascii_lowercase label) read
prepend_label-prepend label (Ok labels) = refl
prepend_label-prepend label (Err fault) = refl

prepend_labels-push : (done : Labels) (label : Octets) (read : Read) → prepend_labels (done ++ label ∷ []) read ≡ prepend_labels done (prepend label read)
prepend_labels-push [] label read = refl
prepend_labels-push (first ∷ done) label read = ap (prepend first) (prepend_labels-push done label read)

prepend_labels-err : (done : Labels) (fault : InvalidName) → prepend_labels done (Err fault) ≡ Err fault
prepend_labels-err [] fault = refl
prepend_labels-err (label ∷ done) fault = ap (prepend label) (prepend_labels-err done fault)

prepend_labels-ok : (done labels : Labels) (absolute : Bool) → prepend_labels done (Ok (labels, absolute)) ≡ Ok (done ++ labels, absolute)
prepend_labels-ok [] labels absolute = refl
prepend_labels-ok (label ∷ done) labels absolute = ap (prepend label) (prepend_labels-ok done labels absolute)

-- a text that goes on has a symbol
HasSymbol : List Symbol → Type 0
HasSymbol spelled = (first : Symbol) × (rest : List Symbol) × (spelled ≡ first ∷ rest)

chosen : (b : Bool) (xs ys : List Symbol) → HasSymbol xs → HasSymbol ys → HasSymbol (if b then xs else ys)
unfolding HasSymbol
chosen true xs ys p q = p
chosen false xs ys p q = q

escaped : (escape : Option (ℕ × ℕ)) (text : Octets) → HasSymbol (elim escape [ Some escape ↦ octet escape.0 ∷ symbols escape.1 text | None ↦ bad_escape ∷ [] ])
unfolding HasSymbol
escaped None text = (bad_escape, [], refl)
escaped (Some escape) text = (octet escape.0, symbols escape.1 text, refl)

more_symbols : (c : ℕ) (text : Octets) → HasSymbol (symbols 0 (c ∷ text))
unfolding HasSymbol
more_symbols c text = chosen (c == 92) _ _ (escaped (escape_of text) text) ((if c == 46 then dot else octet c), symbols 0 text, refl)

-- what is read after a dot
abbrev pub read_after_dot : Octets → Read
read_after_dot [] = Ok ([], true)
read_after_dot (c ∷ text) = labels_from [] (symbols 0 (c ∷ text))

labels_from-dot_more : (label : Octets) (spelled : List Symbol) → HasSymbol spelled → labels_from label (dot ∷ spelled) ≡ prepend_checked_label label (labels_from [] spelled)
unfolding HasSymbol
labels_from-dot_more label spelled some =
    subst (λ ss. labels_from label (dot ∷ ss) ≡ prepend_checked_label label (labels_from [] ss)) (sym some.2) refl

pub labels_from-dot : (label tail : Octets) → labels_from label (dot ∷ symbols 0 tail) ≡ prepend_checked_label label (read_after_dot tail)
labels_from-dot label [] = refl
labels_from-dot label (c ∷ tail) = labels_from-dot_more label (symbols 0 (c ∷ tail)) (more_symbols c tail)

prepend_checked_label-fault : (label : Octets) (read : Read) (fault : InvalidName) → label_fault label ≡ Some fault → prepend_checked_label label read ≡ Err fault
prepend_checked_label-fault label read fault is = rw (is, prepend_checked_label) refl

pub prepend_checked_label-none : (label : Octets) (read : Read) → label_fault label ≡ None → prepend_checked_label label read ≡ prepend (str_to_ascii_lowercase label) read
prepend_checked_label-none label read is = rw (is, prepend_checked_label) (prepend_label-prepend label read)

-- the text is read up to the rest: the labels that have ended, and the octets of the one that has not
pub record IsReadTo (text rest wire : Octets) (start : ℕ) : Type 0 where
  pub done : Labels
  pub label : Octets
  pub each : AllByRecursion IsLabel done
  pub octets : AllByRecursion (λ octet. octet < 256) label
  pub wires : wire ≡ wire_of done ++ 0 ∷ str_to_ascii_lowercase label
  pub begins : length (wire_of done) ≡ start
  pub reads : labels_from [] (symbols 0 text) ≡ prepend_labels done (labels_from label (symbols 0 rest))

pub read_start : (text : Octets) → IsReadTo text text (0 ∷ []) 0
read_start text = record { done = []; label = []; each = tt; octets = tt; wires = refl; begins = refl; reads = refl }

pub read_octet : (text rest wire : Octets) (start : ℕ) (tail : Octets) (c : ℕ) → IsReadTo text rest wire start → symbols 0 rest ≡ octet c ∷ symbols 0 tail → c < 256 → IsReadTo text tail (wire ++ to_ascii_lowercase c ∷ []) start
read_octet text rest wire start tail c r next small =
    let lowered : Octets = str_to_ascii_lowercase r.label in
    record {
      done = r.done;
      label = r.label ++ c ∷ [];
      each = r.each;
      octets = octets_push r.label c r.octets small;
      wires = ap (λ w. w ++ to_ascii_lowercase c ∷ []) r.wires ∙ append_assoc (wire_of r.done) (0 ∷ lowered) (to_ascii_lowercase c ∷ []) ∙ ap (λ l. wire_of r.done ++ 0 ∷ l) (sym (map_push to_ascii_lowercase r.label c));
      begins = r.begins;
      reads = r.reads ∙ ap (λ ss. prepend_labels r.done (labels_from r.label ss)) next;
    }

pub read_fault : (text rest wire : Octets) (start : ℕ) (fault : InvalidName) → IsReadTo text rest wire start → IsBadEscape rest fault → labels_from [] (symbols 0 text) ≡ Err fault
read_fault text rest wire start fault r none =
    r.reads ∙ ap (λ ss. prepend_labels r.done (labels_from r.label ss)) none.spells ∙ prepend_labels-err r.done BadEscape ∙ ap (λ f. Err f) (sym none.fault_is)

-- the label that has not ended
pub label_so_far : (text rest wire : Octets) (start : ℕ) (r : IsReadTo text rest wire start) → drop (start + 1) wire ≡ str_to_ascii_lowercase r.label
label_so_far text rest wire start r =
    let front : Octets = wire_of r.done ++ 0 ∷ [] in
    let begins = r.begins in
    ap (drop (start + 1)) (r.wires ∙ sym (append_assoc (wire_of r.done) (0 ∷ []) (str_to_ascii_lowercase r.label))) ∙ drop_at front (str_to_ascii_lowercase r.label) (start + 1) (length-append (wire_of r.done) (0 ∷ []) ∙ ap (λ n. n + 1) begins)

fault_so_far : (text rest wire : Octets) (start : ℕ) (r : IsReadTo text rest wire start) → label_fault (drop (start + 1) wire) ≡ label_fault r.label
fault_so_far text rest wire start r = ap label_fault (label_so_far text rest wire start r) ∙ label_fault-lowered r.label

-- the label that ends here has a fault
pub read_bad_label : (text rest wire : Octets) (start : ℕ) (tail : Octets) (fault : InvalidName) → IsReadTo text rest wire start → symbols 0 rest ≡ dot ∷ symbols 0 tail → label_fault (drop (start + 1) wire) ≡ Some fault → labels_from [] (symbols 0 text) ≡ Err fault
read_bad_label text rest wire start tail fault r next is =
    r.reads ∙ ap (λ ss. prepend_labels r.done (labels_from r.label ss)) next ∙ ap (prepend_labels r.done) (labels_from-dot r.label tail ∙ prepend_checked_label-fault r.label (read_after_dot tail) fault (sym (fault_so_far text rest wire start r) ∙ is)) ∙ prepend_labels-err r.done fault

pub read_bad_end : (text rest wire : Octets) (start : ℕ) (fault : InvalidName) → IsReadTo text rest wire start → rest ≡ [] → label_fault (drop (start + 1) wire) ≡ Some fault → labels_from [] (symbols 0 text) ≡ Err fault
read_bad_end text rest wire start fault r none is =
    r.reads ∙ ap (λ t. prepend_labels r.done (labels_from r.label (symbols 0 t))) none ∙ ap (prepend_labels r.done) (prepend_checked_label-fault r.label (Ok ([], false)) fault (sym (fault_so_far text rest wire start r) ∙ is)) ∙ prepend_labels-err r.done fault

wire_of-push : (done : Labels) (label : Octets) → wire_of (done ++ label ∷ []) ≡ wire_of done ++ length_prefixed label
wire_of-push done label = flat_map-append length_prefixed done (label ∷ []) ∙ ap (λ l. wire_of done ++ l) (append-nil (length_prefixed label))

-- the wire form of the labels, once the length of the last is written
closed : (text rest wire : Octets) (start : ℕ) (r : IsReadTo text rest wire start) (n : ℕ) → n ≡ length wire → set wire start (n - (start + 1)) ≡ wire_of (r.done ++ str_to_ascii_lowercase r.label ∷ [])
closed text rest wire start r n is =
    let lowered : Octets = str_to_ascii_lowercase r.label in
    let begins = r.begins in
    let sizes : length wire ≡ length (wire_of r.done) + (length lowered + 1) = ap length r.wires ∙ length-append (wire_of r.done) (0 ∷ lowered) ∙ omega arith in
    let count : n - (start + 1) ≡ length lowered = omega arith in
    ap (set wire start) count ∙ ap (λ w. set w start (length lowered)) r.wires ∙ set_at (wire_of r.done) 0 lowered (length lowered) start begins ∙ sym (wire_of-push r.done lowered)

-- the labels, once the length of the last is written
pub labels_so_far : (text rest wire : Octets) (start : ℕ) (ended_wire : Octets) (n : ℕ) (r : IsReadTo text rest wire start) → n ≡ length wire → ended_wire ≡ set wire start (n - (start + 1)) → labels_of_wire ended_wire ≡ r.done ++ str_to_ascii_lowercase r.label ∷ []
labels_so_far text rest wire start ended_wire n r counts wires =
    labels_at ended_wire (r.done ++ str_to_ascii_lowercase r.label ∷ []) (wires ∙ closed text rest wire start r n counts)

labels_push : (done : Labels) (label : Octets) → AllByRecursion IsLabel done → IsLabel label → AllByRecursion IsLabel (done ++ label ∷ [])
labels_push [] label all is = (is, tt)
labels_push (first ∷ done) label all is = (all.0, labels_push done label all.1 is)

-- a dot ends the label, and the text goes on
pub read_dot : (text rest wire : Octets) (start : ℕ) (tail ended_wire : Octets) (n : ℕ) → IsReadTo text rest wire start → symbols 0 rest ≡ dot ∷ symbols 0 tail → 0 < length tail → label_fault (drop (start + 1) wire) ≡ None → n ≡ length wire → ended_wire ≡ set wire start (n - (start + 1)) → IsReadTo text tail (ended_wire ++ 0 ∷ []) (length ended_wire)
read_dot text rest wire start [] ended_wire n r next more is counts wires = absurd (omega arith)
read_dot text rest wire start (c ∷ tail) ended_wire n r next more is counts wires =
    let lowered : Octets = str_to_ascii_lowercase r.label in
    let faultless : label_fault r.label ≡ None = sym (fault_so_far text rest wire start r) ∙ is in
    let closes : ended_wire ≡ wire_of (r.done ++ lowered ∷ []) = wires ∙ closed text rest wire start r n counts in
    record {
      done = r.done ++ lowered ∷ [];
      label = [];
      each = labels_push r.done lowered r.each (lowered_label r.label faultless r.octets);
      octets = tt;
      wires = ap (λ w. w ++ 0 ∷ []) closes;
      begins = ap length (sym closes);
      reads = r.reads ∙ ap (λ ss. prepend_labels r.done (labels_from r.label ss)) next ∙ ap (prepend_labels r.done) (labels_from-dot r.label (c ∷ tail) ∙ prepend_checked_label-none r.label (read_after_dot (c ∷ tail)) faultless) ∙ sym (prepend_labels-push r.done lowered (read_after_dot (c ∷ tail)));
    }

last_label : (text rest wire : Octets) (start : ℕ) (ended_wire : Octets) (n : ℕ) (absolute : Bool) (r : IsReadTo text rest wire start) → labels_from r.label (symbols 0 rest) ≡ prepend_checked_label r.label (Ok ([], absolute)) → label_fault (drop (start + 1) wire) ≡ None → n ≡ length wire → ended_wire ≡ set wire start (n - (start + 1)) → Spells text ended_wire absolute
last_label text rest wire start ended_wire n absolute r ends is counts wires =
    let lowered : Octets = str_to_ascii_lowercase r.label in
    let labels : Labels = r.done ++ lowered ∷ [] in
    let faultless : label_fault r.label ≡ None = sym (fault_so_far text rest wire start r) ∙ is in
    let closes : ended_wire ≡ wire_of labels = wires ∙ closed text rest wire start r n counts in
    let spelled = labels_at ended_wire labels closes in
    record {
      read = r.reads ∙ ap (prepend_labels r.done) (ends ∙ prepend_checked_label-none r.label (Ok ([], absolute)) faultless) ∙ prepend_labels-ok r.done (lowered ∷ []) absolute ∙ ap (λ ls. Ok (ls, absolute)) (sym spelled);
      exact = wire_at ended_wire labels closes;
      each = subst (AllByRecursion IsLabel) (sym spelled) (labels_push r.done lowered r.each (lowered_label r.label faultless r.octets));
    }

-- a dot ends the text
pub read_last_dot : (text rest wire : Octets) (start : ℕ) (tail ended_wire : Octets) (n : ℕ) → IsReadTo text rest wire start → symbols 0 rest ≡ dot ∷ symbols 0 tail → length tail ≡ 0 → label_fault (drop (start + 1) wire) ≡ None → n ≡ length wire → ended_wire ≡ set wire start (n - (start + 1)) → Spells text ended_wire true
read_last_dot text rest wire start [] ended_wire n r next none = last_label text rest wire start ended_wire n true r (ap (labels_from r.label) next)
read_last_dot text rest wire start (c ∷ tail) ended_wire n r next none = absurd (omega arith)

-- the text ends without a dot
pub read_end : (text rest wire : Octets) (start : ℕ) (ended_wire : Octets) (n : ℕ) → IsReadTo text rest wire start → rest ≡ [] → label_fault (drop (start + 1) wire) ≡ None → n ≡ length wire → ended_wire ≡ set wire start (n - (start + 1)) → Spells text ended_wire false
read_end text rest wire start ended_wire n r none = last_label text rest wire start ended_wire n false r (ap (λ t. labels_from r.label (symbols 0 t)) none)
