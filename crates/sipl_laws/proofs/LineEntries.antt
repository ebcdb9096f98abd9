-- The entries of the lines of records.
use Rattle.std.proofs.Common.{◌≡◌, ℕ, ◌+◌, ◌-◌, Bool, true, false, List, [], ◌∷◌, ◌++◌, Option, None, Some, Ok, map, refl, sym, ap, subst, ◌∙◌, arith}
use Rattle.std.specs.Prelude.{◌==◌, if◌then◌else◌}
use Rattle.std.specs.List.{AllByRecursion, flat_map, last_or}
use Rattle.std.proofs.lemmas.Bool.{eqb-true}
use Rattle.sipl_names.specs.Labels.{Octets}
use Rattle.sipl_records.specs.Sets.{conflicts}
use Rattle.sipl_records.specs.declared.record.Record.{Record}
use Rattle.sipl_masterfile.specs.Entries.{Begun, Entry, begin, begins_blank, entries_from, entries_of, faulty_entry, prepend_entry, with_field}
use Rattle.sipl_masterfile.specs.JoinedTexts.{IsComplete, further, line_ends, open_after}
use Rattle.sipl_masterfile.specs.Readers.{◌>>=◌}
use Rattle.sipl_masterfile.specs.RecordPrint.{IsRecord, entry_of_record, record_fields, record_text}
use Rattle.sipl_masterfile.specs.Tokens.{Token, blank, line_end, opening, closing, comment, field, open_quote, tokens}
use Rattle.sipl_masterfile.specs.Zones.{Reading, after_fields, take_in}
use Rattle.sipl_masterfile.specs.declared.fault.ZoneCause.TheVariants.{OpenQuote, Parenthesis}
use Rattle.sipl_laws.proofs.LineTokens.{IsClosed, tokens-line}

-- the entry has fields, and no fault
abbrev IsWell : Entry → Type 0
IsWell entry = (fields : List Octets) × (entry.content ≡ Ok fields)

abbrev AreWell : List Entry → Type 0
AreWell entries = AllByRecursion IsWell entries

never-faulty : {A : Type 0} (begun : Begun) → AreWell (faulty_entry begun Parenthesis) → A
never-faulty begun well = absurd (let never = well.0.1 in cc)

never-open : {A : Type 0} (begun : Begun) → AreWell (faulty_entry begun OpenQuote) → A
never-open begun well = absurd (let never = well.0.1 in cc)

well-after : (line : ℕ) (is_indented : Bool) (fields : List Octets) (others : List Entry) → AreWell (prepend_entry (record { line = line; is_indented = is_indented; fields = fields }) others) → AreWell others
well-after line is_indented [] others well = well
well-after line is_indented (octets ∷ fields) others well = well.1

-- the one of two lists that is well
by-test : (b : Bool) (P Q : List Entry) (R : Type 0) → AreWell (if b then P else Q) → (b ≡ true → AreWell P → R) → (b ≡ false → AreWell Q → R) → R
by-test true P Q R well first second = first refl well
by-test false P Q R well first second = second refl well

-- no quote and no parenthesis is open after the tokens
record IsEnded (depth : ℕ) (ts : List Token) : Type 0 where
  closed : AllByRecursion IsClosed ts
  none_open : open_after depth (ts ++ line_end ∷ []) ≡ Some 0

more-ended : (depth further : ℕ) (t : Token) (ts : List Token) → IsClosed t → open_after depth (t ∷ (ts ++ line_end ∷ [])) ≡ open_after further (ts ++ line_end ∷ []) → IsEnded further ts → IsEnded depth (t ∷ ts)
more-ended depth further t ts closed opens is = record { closed = (closed, is.closed); none_open = opens ∙ is.none_open }

-- none is where the entries of the tokens have no fault
ended : (ts : List Token) (begun : Begun) (depth line : ℕ) → AreWell (entries_from begun depth line ts) → IsEnded depth ts
ended [] begun depth line well =
    by-test (depth == 0) (prepend_entry begun []) (faulty_entry begun Parenthesis) (IsEnded depth []) well
    (λ zero_is all. record { closed = tt; none_open = ap (λ n. Some n) (eqb-true depth 0 zero_is) })
    (λ other all. never-faulty begun all)
ended (blank ∷ ts) begun depth line well = more-ended depth depth blank ts tt refl (ended ts begun depth line well)
ended (line_end ∷ ts) begun depth line well =
    by-test (depth == 0) (prepend_entry begun (entries_from (begin (line + 1) ts) 0 (line + 1) ts)) (entries_from begun depth (line + 1) ts) (IsEnded depth (line_end ∷ ts)) well
    (λ zero_is all. more-ended depth 0 line_end ts tt (ap (λ d. open_after d (ts ++ line_end ∷ [])) (eqb-true depth 0 zero_is)) (ended ts (begin (line + 1) ts) 0 (line + 1) (well-after begun.line begun.is_indented begun.fields (entries_from (begin (line + 1) ts) 0 (line + 1) ts) all)))
    (λ other all. more-ended depth depth line_end ts tt refl (ended ts begun depth (line + 1) all))
ended (opening ∷ ts) begun depth line well = more-ended depth (depth + 1) opening ts tt refl (ended ts begun (depth + 1) line well)
ended (closing ∷ ts) begun depth line well =
    by-test (depth == 0) (faulty_entry begun Parenthesis) (entries_from begun (depth - 1) line ts) (IsEnded depth (closing ∷ ts)) well
    (λ zero_is all. never-faulty begun all)
    (λ other all. more-ended depth (depth - 1) closing ts tt (ap (λ (b : Bool). if b then None else open_after (depth - 1) (ts ++ line_end ∷ [])) other) (ended ts begun (depth - 1) line all))
ended (comment ∷ ts) begun depth line well = more-ended depth depth comment ts tt refl (ended ts begun depth line well)
ended (field octets ∷ ts) begun depth line well = more-ended depth depth (field octets) ts tt refl (ended ts (with_field begun octets) depth line well)
ended (open_quote ∷ ts) begun depth line well = never-open begun well

begins-same : (ts : List Token) → begins_blank (ts ++ line_end ∷ []) ≡ begins_blank ts
begins-same [] = refl
begins-same (blank ∷ ts) = refl
begins-same (line_end ∷ ts) = refl
begins-same (opening ∷ ts) = refl
begins-same (closing ∷ ts) = refl
begins-same (comment ∷ ts) = refl
begins-same (field octets ∷ ts) = refl
begins-same (open_quote ∷ ts) = refl

begin-same : (line : ℕ) (ts : List Token) → begin line (ts ++ line_end ∷ []) ≡ begin line ts
begin-same line ts = ap (λ b. record { line = line; is_indented = b; fields = [] }) (begins-same ts)

-- a line's end at last changes no entry

ended-if : (b : Bool) (P P' Q Q' : List Entry) → (b ≡ true → P ≡ P') → (b ≡ false → Q ≡ Q') → (if b then P else Q) ≡ (if b then P' else Q')
ended-if true P P' Q Q' first second = first refl
ended-if false P P' Q Q' first second = second refl

opens-if : (b : Bool) (depth : Option ℕ) → (if b then None else depth) ≡ Some 0 → b ≡ false → depth ≡ Some 0
opens-if true depth opens is = absurd (cc is)
opens-if false depth opens is = opens

entries-ended : (ts : List Token) (begun : Begun) (depth line : ℕ) → open_after depth (ts ++ line_end ∷ []) ≡ Some 0 → entries_from begun depth line (ts ++ line_end ∷ []) ≡ entries_from begun depth line ts
entries-ended [] begun depth line is =
    let zero_is : depth ≡ 0 = cc is in
    rw zero_is refl
entries-ended (blank ∷ ts) begun depth line is = entries-ended ts begun depth line is
entries-ended (line_end ∷ ts) begun depth line is =
    ended-if (depth == 0) _ _ _ _
    (λ zero_is. ap (prepend_entry begun)
    (ap (λ first. entries_from first 0 (line + 1) (ts ++ line_end ∷ [])) (begin-same (line + 1) ts)
    ∙ entries-ended ts (begin (line + 1) ts) 0 (line + 1) (ap (λ d. open_after d (ts ++ line_end ∷ [])) (sym (eqb-true depth 0 zero_is)) ∙ is)))
    (λ other. entries-ended ts begun depth (line + 1) is)
entries-ended (opening ∷ ts) begun depth line is = entries-ended ts begun (depth + 1) line is
entries-ended (closing ∷ ts) begun depth line is =
    ended-if (depth == 0) (faulty_entry begun Parenthesis) (faulty_entry begun Parenthesis) _ _
    (λ zero_is. refl)
    (λ other. entries-ended ts begun (depth - 1) line (opens-if (depth == 0) _ is other))
entries-ended (comment ∷ ts) begun depth line is = entries-ended ts begun depth line is
entries-ended (field octets ∷ ts) begun depth line is = entries-ended ts (with_field begun octets) depth line is
entries-ended (open_quote ∷ ts) begun depth line is = refl

last-ended : (ts : List Token) (o : Option Token) → last_or o (ts ++ line_end ∷ []) ≡ Some line_end
last-ended [] o = refl
last-ended (t ∷ ts) o = last-ended ts (Some t)

-- a text without a fault is complete once a line's end follows it, and has the same entries
record IsLine (text : Octets) : Type 0 where
  complete : IsComplete (text ++ 10 ∷ [])
  entries : entries_of (text ++ 10 ∷ []) ≡ entries_of text

line-is : (text : Octets) → AreWell (entries_of text) → IsLine text
line-is text well =
    let ts : List Token = tokens 0 text in
    let none = ended ts (begin 1 ts) 0 1 well in
    let whole : tokens 0 (text ++ 10 ∷ []) ≡ ts ++ line_end ∷ [] = tokens-line text [] 0 (omega arith) none.closed in
    record {
      complete = record {
        ended = ap (last_or None) whole ∙ last-ended ts None;
        closed = ap (open_after 0) whole ∙ none.none_open;
      };
      entries = ap (λ (all : List Token). entries_from (begin 1 all) 0 1 all) whole
          ∙ ap (λ first. entries_from first 0 1 (ts ++ line_end ∷ [])) (begin-same 1 ts)
          ∙ entries-ended ts (begin 1 ts) 0 1 none.none_open;
    }

-- the entries state the records, each in its fields
abbrev pub AreOf : List Record → List Entry → Type 0
AreOf [] [] = Unit {0}
AreOf [] (entry ∷ entries) = ⊥
AreOf (r ∷ records) [] = ⊥
AreOf (r ∷ records) (entry ∷ entries) =
    (entry.is_indented ≡ false) × (entry.content ≡ Ok (record_fields r)) × AreOf records entries

of-further : (k : ℕ) (records : List Record) (entries : List Entry) → AreOf records entries → AreOf records (map (further k) entries)
of-further k [] [] are = tt
of-further k [] (entry ∷ entries) are = absurd are
of-further k (r ∷ records) [] are = absurd are
of-further k (r ∷ records) (entry ∷ entries) are = (are.0, are.1, of-further k records entries are.2)

-- how texts are joined, and records are read: laws of `sipl_masterfile`; and which records conflict: one of
-- `sipl_records`
pub record Printing : Type 0 where
  pub joins : (first second : Octets) → IsComplete first → entries_of (first ++ second) ≡ entries_of first ++ map (further (line_ends first)) (entries_of second)
  pub conflicts_swapped : (a b : Record) → conflicts a b ≡ conflicts b a
  pub entry : (r : Record) → IsRecord r → entries_of (record_text r) ≡ entry_of_record r ∷ []
  pub fields : (r : Record) (reading : Reading) → IsRecord r → after_fields false (record_fields r) reading ≡ (take_in r reading.zone >>= (λ zone. Ok (record { origin = reading.origin; owner = Some r.owner; zone = zone })))

-- the lines of records have their entries
pub lines-of : Printing → (records : List Record) → AllByRecursion IsRecord records → AreOf records (entries_of (flat_map (λ r. record_text r ++ 10 ∷ []) records))
lines-of printing [] all = tt
lines-of printing (r ∷ records) all =
    let one : entries_of (record_text r) ≡ entry_of_record r ∷ [] = printing.entry r all.0 in
    let well : AreWell (entries_of (record_text r)) = subst AreWell (sym one) ((record_fields r, refl), tt) in
    let is = line-is (record_text r) well in
    let others : Octets = flat_map (λ r. record_text r ++ 10 ∷ []) records in
    subst (AreOf (r ∷ records))
    (sym (printing.joins (record_text r ++ 10 ∷ []) others is.complete
    ∙ ap (λ (first : List Entry). first ++ map (further (line_ends (record_text r ++ 10 ∷ []))) (entries_of others)) (is.entries ∙ one)))
    (refl, refl, of-further (line_ends (record_text r ++ 10 ∷ [])) records (entries_of others) (lines-of printing records all.1))
