-- A text has at most as many entries as octets.
use Rattle.std.proofs.Common.{◌≡◌, ℕ, zero, suc, ◌+◌, ◌-◌, ◌≤◌, Bool, true, false, List, [], ◌∷◌, Ok, if◌then◌else◌, ◌==◌, length, arith}
use Rattle.sipl_names.specs.Labels.{Octets}
use Rattle.sipl_masterfile.specs.Tokens.{Token, blank, line_end, opening, closing, comment, field, open_quote, first_token, tokens}
use Rattle.sipl_masterfile.specs.Entries.{Entry, Begun, begin, prepend_entry, faulty_entry, with_field, entries_from, entries_of}
use Rattle.sipl_masterfile.specs.declared.fault.ZoneCause.TheVariants.{Parenthesis}

if_le : {A : Type 0} (b : Bool) (n : ℕ) (x y : List A) → length x ≤ n → length y ≤ n → length (if b then x else y) ≤ n
if_le true n x y first second = first
if_le false n x y first second = second

-- each token has an octet of its own
pub tokens-le : (taken : ℕ) (text : Octets) → length (tokens taken text) ≤ length text
tokens-le taken [] = none taken
  where
    none : (taken : ℕ) → length (tokens taken []) ≤ 0
    none zero = omega arith
    none (suc taken) = omega arith
tokens-le (suc taken) (c ∷ text) = omega (arith, tokens-le taken text)
tokens-le zero (c ∷ text) = omega (arith, tokens-le (first_token c text).1 text)

prepend : (begun : Begun) (others : List Entry) → length (prepend_entry begun others) ≡ length (prepend_entry begun []) + length others
prepend begun others = at begun.fields
  where
    at : (fields : List Octets) → length {A = Entry} (elim fields [ [] ↦ others | octets ∷ rest ↦ record { line = begun.line; is_indented = begun.is_indented; content = Ok (octets ∷ rest) } ∷ others ]) ≡ length {A = Entry} (elim fields [ [] ↦ [] | octets ∷ rest ↦ record { line = begun.line; is_indented = begun.is_indented; content = Ok (octets ∷ rest) } ∷ [] ]) + length others
    at [] = omega arith
    at (octets ∷ rest) = omega arith

-- the entries of a text that ends here
abbrev pub at_end : Begun → ℕ → List Entry
at_end begun depth = if depth == 0 then prepend_entry begun [] else faulty_entry begun Parenthesis

at_end-le : (begun : Begun) (depth : ℕ) → length (at_end begun depth) ≤ 1
at_end-le begun depth = if_le (depth == 0) 1 _ _ (at begun.fields) (omega arith)
  where
    at : (fields : List Octets) → length {A = Entry} (elim fields [ [] ↦ [] | octets ∷ rest ↦ record { line = begun.line; is_indented = begun.is_indented; content = Ok (octets ∷ rest) } ∷ [] ]) ≤ 1
    at [] = omega arith
    at (octets ∷ rest) = omega arith

-- each token ends at most one entry, and the end of the text one more that has begun
pub entries_from-le : (begun : Begun) (depth line : ℕ) (ts : List Token) → length (entries_from begun depth line ts) ≤ length (at_end begun depth) + length ts
entries_from-le begun depth line [] = omega arith
entries_from-le begun depth line (blank ∷ ts) = omega (arith, entries_from-le begun depth line ts)
entries_from-le begun depth line (line_end ∷ ts) =
    at (depth == 0) (entries_from-le (begin (line + 1) ts) 0 (line + 1) ts) (entries_from-le begun depth (line + 1) ts)
  where
    at : (b : Bool) → length (entries_from (begin (line + 1) ts) 0 (line + 1) ts) ≤ length (at_end (begin (line + 1) ts) 0) + length ts → length (entries_from begun depth (line + 1) ts) ≤ length (at_end begun depth) + length ts → length (if b then prepend_entry begun (entries_from (begin (line + 1) ts) 0 (line + 1) ts) else entries_from begun depth (line + 1) ts) ≤ length (if b then prepend_entry begun [] else faulty_entry begun Parenthesis) + suc (length ts)
    at true next same = omega (arith, prepend begun (entries_from (begin (line + 1) ts) 0 (line + 1) ts))
    at false next same = omega (arith, at_end-le begun depth)
entries_from-le begun depth line (opening ∷ ts) = omega (arith, entries_from-le begun (depth + 1) line ts, at_end-le begun (depth + 1))
entries_from-le begun depth line (closing ∷ ts) = at (depth == 0) (entries_from-le begun (depth - 1) line ts)
  where
    at : (b : Bool) → length (entries_from begun (depth - 1) line ts) ≤ length (at_end begun (depth - 1)) + length ts → length (if b then faulty_entry begun Parenthesis else entries_from begun (depth - 1) line ts) ≤ length (if b then prepend_entry begun [] else faulty_entry begun Parenthesis) + suc (length ts)
    at true next = omega arith
    at false next = omega (arith, at_end-le begun (depth - 1))
entries_from-le begun depth line (comment ∷ ts) = omega (arith, entries_from-le begun depth line ts)
entries_from-le begun depth line (field octets ∷ ts) = omega (arith, entries_from-le (with_field begun octets) depth line ts, at_end-le (with_field begun octets) depth)
entries_from-le begun depth line (open_quote ∷ ts) = omega arith

pub entries_of-le : (text : Octets) → length (entries_of text) ≤ length text
entries_of-le text = omega (arith, entries_from-le (begin 1 (tokens 0 text)) 0 1 (tokens 0 text), tokens-le 0 text)
