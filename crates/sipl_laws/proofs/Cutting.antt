-- How a text of lines is cut into commands and replies.
use Rattle.std.proofs.Common.{◌≡◌, ℕ, suc, ◌<◌, ◌≤◌, Bool, true, false, List, [], ◌∷◌, ◌++◌, length, Some, refl, ap, ◌∙◌, arith, nat_lt}
use Rattle.std.specs.Prelude.{◌==◌, if◌then◌else◌, option_and_then}
use Rattle.std.specs.List.{AllByRecursion, flat_map}
use Rattle.std.proofs.lemmas.Bool.Decides.{nat_tests}
use Rattle.sipl_names.specs.Labels.{Octets}
use Rattle.sipl_records.specs.Fields.{fields_of}
use Rattle.sipl_records.specs.declared.record.Record.{Record}
use Rattle.sipl_masterfile.specs.RecordPrint.{IsRecord, record_text}
use Rattle.sipl_lines.specs.CommandLines.{after_command, after_line, after_lines, after_reply_within, first_line, is_end, taken_by, taken_by_fields}
use Rattle.sipl_lines.specs.Lines.{without_cr}
use Rattle.sipl_lines.specs.CommandText.{record_line}
use Rattle.sipl_laws.proofs.Cuts.{From, from-append, from-lower}
use Rattle.sipl_laws.proofs.Octets.{from-record}
use Rattle.sipl_laws.proofs.FieldLists.{first-field, line-before}
use Rattle.sipl_laws.proofs.SameLines.{joined}

-- what is after the first line
pub after-line-before : (text rest : Octets) → From 32 text → after_line (text ++ 10 ∷ rest) ≡ Some rest
after-line-before [] rest all = refl
after-line-before (c ∷ text) rest all =
    let least = all.0 in
    let test : (c == 10) ≡ false = grind (arith, nat_tests) in
    rw test (after-line-before text rest all.1)

-- a line without control characters has no CR at its end
pub no-cr : (text : Octets) → From 32 text → without_cr text ≡ text
no-cr [] all = refl
no-cr (c ∷ []) all =
    let least = all.0 in
    let test : (c == 13) ≡ false = grind (arith, nat_tests) in
    rw test refl
no-cr (c ∷ next ∷ text) all = ap (λ (t : Octets). c ∷ t) (no-cr (next ∷ text) all.1)

-- how many lines a line takes, by its first word
pub taken-is : (word rest : Octets) → 0 < length word → From 33 word → From 32 rest → length (word ++ 32 ∷ rest) ≤ 65536 → taken_by (word ++ 32 ∷ rest) ≡ taken_by_fields (word ∷ fields_of rest)
taken-is word rest some seen all short =
    let line : Octets = word ++ 32 ∷ rest in
    let whole : From 32 line = from-append 32 word (32 ∷ rest) (from-lower 32 33 word (omega arith) seen) (omega arith, all) in
    let test : nat_lt 65536 (length line) ≡ false = grind (arith, nat_tests) in
    let same = no-cr line whole in
    ap (λ (t : Octets). if nat_lt 65536 (length t) then 0 else taken_by_fields (fields_of t)) same
    ∙ ap (λ (b : Bool). if b then 0 else taken_by_fields (fields_of line)) test
    ∙ ap taken_by_fields (first-field word rest some seen)

-- a line that takes none is a command
pub one-line : (line rest : Octets) → From 32 line → taken_by line ≡ 0 → after_command (line ++ 10 ∷ rest) ≡ Some rest
one-line line rest all none =
    ap (λ (t : Octets). after_lines (suc (taken_by t)) (line ++ 10 ∷ rest)) (line-before line rest all)
    ∙ ap (λ n. after_lines (suc n) (line ++ 10 ∷ rest)) none
    ∙ ap (option_and_then (after_lines 0)) (after-line-before line rest all)

-- after the lines of records
pub after-records : (records : List Record) (rest : Octets) → AllByRecursion IsRecord records → after_lines (length records) (flat_map record_line records ++ rest) ≡ Some rest
after-records [] rest all = refl
after-records (r ∷ records) rest all =
    let line : (record_line r ++ flat_map record_line records) ++ rest ≡ record_text r ++ 10 ∷ (flat_map record_line records ++ rest) = joined (record_line r) (flat_map record_line records) rest ∙ joined (record_text r) (10 ∷ []) (flat_map record_line records ++ rest) in
    ap (λ (t : Octets). option_and_then (after_lines (length records)) (after_line t)) line
    ∙ ap (option_and_then (after_lines (length records))) (after-line-before (record_text r) (flat_map record_line records ++ rest) (from-record r all.0))
    ∙ after-records records rest all.1

-- a line that takes as many records
pub zone-lines : (line : Octets) (records : List Record) (rest : Octets) → From 32 line → AllByRecursion IsRecord records → taken_by line ≡ length records → after_command (line ++ 10 ∷ (flat_map record_line records ++ rest)) ≡ Some rest
zone-lines line records rest all each taken =
    let more : Octets = flat_map record_line records ++ rest in
    ap (λ (t : Octets). after_lines (suc (taken_by t)) (line ++ 10 ∷ more)) (line-before line more all)
    ∙ ap (λ n. after_lines (suc n) (line ++ 10 ∷ more)) taken
    ∙ ap (option_and_then (after_lines (length records))) (after-line-before line more all)
    ∙ after-records records rest each

-- replies

-- a line that is the last one of a reply, and one that is not
pub end-line : (n : ℕ) (line rest : Octets) → From 32 line → is_end line ≡ true → after_reply_within (suc n) (line ++ 10 ∷ rest) ≡ Some rest
end-line n line rest all ends =
    ap (option_and_then (λ after. if is_end (first_line (line ++ 10 ∷ rest)) then Some after else after_reply_within n after)) (after-line-before line rest all)
    ∙ ap (λ (t : Octets). if is_end t then Some rest else after_reply_within n rest) (line-before line rest all)
    ∙ ap (λ (b : Bool). if b then Some rest else after_reply_within n rest) ends

pub more-line : (n : ℕ) (line rest : Octets) → From 32 line → is_end line ≡ false → after_reply_within (suc n) (line ++ 10 ∷ rest) ≡ after_reply_within n rest
more-line n line rest all goes_on =
    ap (option_and_then (λ after. if is_end (first_line (line ++ 10 ∷ rest)) then Some after else after_reply_within n after)) (after-line-before line rest all)
    ∙ ap (λ (t : Octets). if is_end t then Some rest else after_reply_within n rest) (line-before line rest all)
    ∙ ap (λ (b : Bool). if b then Some rest else after_reply_within n rest) goes_on
