-- Character strings, octet by octet.
use Rattle.std.proofs.Common.{◌≡◌, ℕ, ◌<◌, ◌≤◌, Bool, true, false, [], ◌∷◌, ◌++◌, Result, Ok, Err, length, refl, sym, ap, ◌∙◌, arith, nat_lt, length-append, append-nil}
use Rattle.std.proofs.lemmas.Bool.Decides.{nat_tests}
use Rattle.sipl_names.specs.Labels.{Octets}
use Rattle.sipl_names.specs.NameText.{symbols}
use Rattle.sipl_masterfile.specs.Readers.{◌>>=◌, prepend, octets_of_symbols, string_within_limit, string_of, BeginsWithOctet}
use Rattle.sipl_masterfile.specs.declared.fault.ZoneCause.{ZoneCause}
use Rattle.sipl_masterfile.specs.declared.fault.ZoneCause.TheVariants.{StringTooLong}

-- octets before others that are read
abbrev pub prepend_octets : Octets → Result Octets ZoneCause → Result Octets ZoneCause
prepend_octets [] read = read
prepend_octets (c ∷ octets) read = prepend c (prepend_octets octets read)

prepend_octets-push : (done : Octets) (c : ℕ) (read : Result Octets ZoneCause) → prepend_octets (done ++ c ∷ []) read ≡ prepend_octets done (prepend c read)
prepend_octets-push [] c read = refl
prepend_octets-push (d ∷ done) c read = ap (prepend d) (prepend_octets-push done c read)

prepend_octets-err : (done : Octets) (cause : ZoneCause) → prepend_octets done (Err cause) ≡ Err cause
prepend_octets-err [] cause = refl
prepend_octets-err (d ∷ done) cause = ap (prepend d) (prepend_octets-err done cause)

prepend_octets-ok : (done octets : Octets) → prepend_octets done (Ok octets) ≡ Ok (done ++ octets)
prepend_octets-ok [] octets = refl
prepend_octets-ok (d ∷ done) octets = ap (prepend d) (prepend_octets-ok done octets)

-- the octets that are read so far: those of the string, or more than fit
abbrev pub AreKept : Bool → Octets → Octets → Type 0
AreKept true done string = 255 < length done
AreKept false done string = done ≡ string

-- the text is read up to this rest
pub record IsReadTo (text rest string : Octets) (is_too_long : Bool) : Type 0 where
  pub done : Octets
  pub same : octets_of_symbols (symbols 0 text) ≡ prepend_octets done (octets_of_symbols (symbols 0 rest))
  pub kept : AreKept is_too_long done string
  pub short : length string ≤ 255

pub read_none : (text : Octets) → IsReadTo text text [] false
read_none text = record { done = []; same = refl; kept = refl; short = omega arith }

same_more : (text rest tail done : Octets) (c : ℕ) → octets_of_symbols (symbols 0 text) ≡ prepend_octets done (octets_of_symbols (symbols 0 rest)) → BeginsWithOctet rest c tail → octets_of_symbols (symbols 0 text) ≡ prepend_octets (done ++ c ∷ []) (octets_of_symbols (symbols 0 tail))
same_more text rest tail done c same next =
    let spells = next.spells in
    same ∙ ap (prepend_octets done) spells ∙ sym (prepend_octets-push done c (octets_of_symbols (symbols 0 tail)))

kept_more : (is_too_long : Bool) (done string : Octets) (c : ℕ) → length string < 255 → AreKept is_too_long done string → AreKept is_too_long (done ++ c ∷ []) (string ++ c ∷ [])
kept_more true done string c few kept = omega (arith, length-append done (c ∷ []))
kept_more false done string c few kept = ap (λ octets. octets ++ c ∷ []) kept

kept_over : (is_too_long : Bool) (done string : Octets) (c : ℕ) → length string ≡ 255 → AreKept is_too_long done string → 255 < length (done ++ c ∷ [])
kept_over true done string c full kept = omega (arith, length-append done (c ∷ []))
kept_over false done string c full kept = omega (arith, length-append done (c ∷ []), ap length kept)

pub read_octet : (text rest tail string : Octets) (is_too_long : Bool) (c : ℕ) → IsReadTo text rest string is_too_long → BeginsWithOctet rest c tail → length string < 255 → IsReadTo text tail (string ++ c ∷ []) is_too_long
read_octet text rest tail string is_too_long c r next few = record {
  done = r.done ++ c ∷ [];
  same = same_more text rest tail r.done c r.same next;
  kept = kept_more is_too_long r.done string c few r.kept;
  short = omega (arith, length-append string (c ∷ []));
}

pub read_over : (text rest tail string : Octets) (is_too_long : Bool) (c : ℕ) → IsReadTo text rest string is_too_long → BeginsWithOctet rest c tail → 255 ≤ length string → IsReadTo text tail string true
read_over text rest tail string is_too_long c r next full =
    let short = r.short in
    let exact : length string ≡ 255 = omega arith in
    record {
      done = r.done ++ c ∷ [];
      same = same_more text rest tail r.done c r.same next;
      kept = kept_over is_too_long r.done string c exact r.kept;
      short = short;
    }

pub read_fault : (text rest string : Octets) (is_too_long : Bool) (cause : ZoneCause) → IsReadTo text rest string is_too_long → octets_of_symbols (symbols 0 rest) ≡ Err cause → string_of text ≡ Err cause
read_fault text rest string is_too_long cause r is =
    ap (λ read. read >>= string_within_limit) (r.same ∙ ap (prepend_octets r.done) is ∙ prepend_octets-err r.done cause)

read_done : (text rest string : Octets) (is_too_long : Bool) (r : IsReadTo text rest string is_too_long) → rest ≡ [] → string_of text ≡ string_within_limit r.done
read_done text rest string is_too_long r ended =
    let spelled : octets_of_symbols (symbols 0 rest) ≡ Ok [] = ap (λ t. octets_of_symbols (symbols 0 t)) ended in
    ap (λ read. read >>= string_within_limit) (r.same ∙ ap (prepend_octets r.done) spelled ∙ prepend_octets-ok r.done [] ∙ ap (λ octets. Ok octets) (append-nil r.done))

within_limit : (octets : Octets) → length octets ≤ 255 → string_within_limit octets ≡ Ok octets
within_limit octets short =
    let test : nat_lt 255 (length octets) ≡ false = grind (arith, nat_tests) in
    rw (test, string_within_limit) refl

over_limit : (octets : Octets) → 255 < length octets → string_within_limit octets ≡ Err StringTooLong
over_limit octets long =
    let test : nat_lt 255 (length octets) ≡ true = grind (arith, nat_tests) in
    rw (test, string_within_limit) refl

pub read_all : (text rest string : Octets) → IsReadTo text rest string false → rest ≡ [] → string_of text ≡ Ok string
read_all text rest string r ended =
    let kept : r.done ≡ string = r.kept in
    read_done text rest string false r ended ∙ ap string_within_limit kept ∙ within_limit string r.short

pub read_too_long : (text rest string : Octets) → IsReadTo text rest string true → rest ≡ [] → string_of text ≡ Err StringTooLong
read_too_long text rest string r ended =
    read_done text rest string true r ended ∙ over_limit r.done r.kept
