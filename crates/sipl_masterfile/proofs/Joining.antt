-- The entries of texts that are joined.
use Rattle.std.proofs.Common.{◌≡◌, ℕ, ◌+◌, ◌-◌, Bool, true, false, List, [], ◌∷◌, ◌++◌, Option, None, Some, map, nat_eq, refl, sym, ap, ◌∙◌, arith, add_assoc, if◌then◌else◌}
use Rattle.std.specs.Prelude.{count_by}
use Rattle.std.specs.List.{last_or}
use Rattle.std.proofs.lemmas.Bool.{eqb-true}
use Rattle.std.proofs.lemmas.List.Sums.{sum_by-cons}
use Rattle.sipl_masterfile.specs.Tokens.{Token, blank, line_end, opening, closing, comment, field, open_quote}
use Rattle.sipl_masterfile.specs.Entries.{Entry, Begun, begin, begins_blank, with_field, prepend_entry, faulty_entry, entries_from}
use Rattle.sipl_masterfile.specs.declared.fault.ZoneCause.TheVariants.{Parenthesis}
use Rattle.sipl_masterfile.specs.JoinedTexts.{open_after, is_line_end, further}
use Rattle.sipl_masterfile.proofs.Scanning.{begins_blank-any}

if-map : {A B : Type 0} (f : A → B) (b : Bool) (x y : A) (x' y' : B) → x' ≡ f x → y' ≡ f y → (if b then x' else y') ≡ f (if b then x else y)
if-map f true x y x' y' p q = p
if-map f false x y x' y' p q = q

-- the entry that has begun, so many lines further on
abbrev begun_further : ℕ → Begun → Begun
begun_further k begun = record begun { line = k + begun.line }

prepend-further : (k line : ℕ) (is_indented : Bool) (fields : List (List ℕ)) (others : List Entry) → prepend_entry (record { line = k + line; is_indented = is_indented; fields = fields }) (map (further k) others) ≡ map (further k) (prepend_entry (record { line = line; is_indented = is_indented; fields = fields }) others)
prepend-further k line is_indented [] others = refl
prepend-further k line is_indented (octets ∷ fields) others = refl

-- entries in lines further on
pub entries-further : (ts : List Token) (k : ℕ) (begun : Begun) (depth line : ℕ) → entries_from (begun_further k begun) depth (k + line) ts ≡ map (further k) (entries_from begun depth line ts)
entries-further [] k begun depth line =
    if-map (map (further k)) (nat_eq depth 0) (prepend_entry begun []) _ _ _ (prepend-further k begun.line begun.is_indented begun.fields []) refl
entries-further (blank ∷ ts) k begun depth line = entries-further ts k begun depth line
entries-further (line_end ∷ ts) k begun depth line =
    if-map (map (further k)) (nat_eq depth 0) (prepend_entry begun (entries_from (begin (line + 1) ts) 0 (line + 1) ts)) (entries_from begun depth (line + 1) ts) _ _
    (rw (add_assoc k line 1) (ap (prepend_entry (begun_further k begun)) (entries-further ts k (begin (line + 1) ts) 0 (line + 1)) ∙ prepend-further k begun.line begun.is_indented begun.fields (entries_from (begin (line + 1) ts) 0 (line + 1) ts)))
    (rw (add_assoc k line 1) (entries-further ts k begun depth (line + 1)))
entries-further (opening ∷ ts) k begun depth line = entries-further ts k begun (depth + 1) line
entries-further (closing ∷ ts) k begun depth line =
    if-map (map (further k)) (nat_eq depth 0) (faulty_entry begun Parenthesis) (entries_from begun (depth - 1) line ts) _ _ refl (entries-further ts k begun (depth - 1) line)
entries-further (comment ∷ ts) k begun depth line = entries-further ts k begun depth line
entries-further (field octets ∷ ts) k begun depth line = entries-further ts k (with_field begun octets) depth line
entries-further (open_quote ∷ ts) k begun depth line = refl

prepend-append : (line : ℕ) (is_indented : Bool) (fields : List (List ℕ)) (others more : List Entry) → prepend_entry (record { line = line; is_indented = is_indented; fields = fields }) (others ++ more) ≡ prepend_entry (record { line = line; is_indented = is_indented; fields = fields }) others ++ more
prepend-append line is_indented [] others more = refl
prepend-append line is_indented (octets ∷ fields) others more = refl

-- the entries of tokens that begin in this line
abbrev entries_in : ℕ → List Token → List Entry
entries_in line ts = entries_from (begin line ts) 0 line ts

closing-joined : (b : Bool) (faulty with_more without more : List Entry) (depth : Option ℕ) → (if b then None else depth) ≡ Some 0 → (depth ≡ Some 0 → with_more ≡ without ++ more) → (if b then faulty else with_more) ≡ (if b then faulty else without) ++ more
closing-joined true faulty with_more without more depth closed same = absurd (cc closed)
closing-joined false faulty with_more without more depth closed same = same closed

-- the entry that begins before more tokens is the one that begins before a first token of them
begin-more : (line : ℕ) (t : Token) (ts us : List Token) → begin line ((t ∷ ts) ++ us) ≡ begin line (t ∷ ts)
begin-more line t ts us = ap (λ b. record { line = line; is_indented = b; fields = [] }) (begins_blank-any t (ts ++ us) ts)

line_end-joined : (b : Bool) (u : Token) (ts us : List Token) (begun : Begun) (depth line next : ℕ) → nat_eq depth 0 ≡ b → (depth ≡ 0 → entries_in (line + 1) ((u ∷ ts) ++ us) ≡ entries_in (line + 1) (u ∷ ts) ++ entries_in next us) → entries_from begun depth (line + 1) ((u ∷ ts) ++ us) ≡ entries_from begun depth (line + 1) (u ∷ ts) ++ entries_in next us → entries_from begun depth line (line_end ∷ (u ∷ ts) ++ us) ≡ entries_from begun depth line (line_end ∷ u ∷ ts) ++ entries_in next us
line_end-joined true u ts us begun depth line next is then_same else_same =
    rw is (ap (prepend_entry begun) (then_same (eqb-true depth 0 is)) ∙ prepend-append begun.line begun.is_indented begun.fields (entries_in (line + 1) (u ∷ ts)) (entries_in next us))
line_end-joined false u ts us begun depth line next is then_same else_same = rw is else_same

-- the entries of complete tokens and of those that follow
pub entries-joined : (t : Token) (ts us : List Token) (begun : Begun) (depth line next : ℕ) → last_or None (t ∷ ts) ≡ Some line_end → open_after depth (t ∷ ts) ≡ Some 0 → next ≡ line + count_by is_line_end (t ∷ ts) → entries_from begun depth line ((t ∷ ts) ++ us) ≡ entries_from begun depth line (t ∷ ts) ++ entries_in next us
entries-joined blank [] us begun depth line next ended closed is = absurd (cc ended)
entries-joined blank (u ∷ ts) us begun depth line next ended closed is = entries-joined u ts us begun depth line next ended closed (omega (arith, is))
entries-joined line_end [] us begun depth line next ended closed is =
    let none : depth ≡ 0 = cc closed in
    let next_is : next ≡ line + 1 = omega (arith, is) in
    rw (none, next_is) (prepend-append begun.line begun.is_indented begun.fields [] (entries_in (line + 1) us))
entries-joined line_end (u ∷ ts) us begun depth line next ended closed is =
    let one_more : count_by is_line_end (line_end ∷ u ∷ ts) ≡ 1 + count_by is_line_end (u ∷ ts) = sum_by-cons (λ x. if is_line_end x then 1 else 0) line_end (u ∷ ts) in
    let next_is : next ≡ line + 1 + count_by is_line_end (u ∷ ts) = omega (arith, is, one_more) in
    line_end-joined (nat_eq depth 0) u ts us begun depth line next refl
    (λ none. ap (λ first. entries_from first 0 (line + 1) ((u ∷ ts) ++ us)) (begin-more (line + 1) u ts us) ∙ entries-joined u ts us (begin (line + 1) (u ∷ ts)) 0 (line + 1) next ended (rw none at closed) next_is)
    (entries-joined u ts us begun depth (line + 1) next ended closed next_is)
entries-joined opening [] us begun depth line next ended closed is = absurd (cc ended)
entries-joined opening (u ∷ ts) us begun depth line next ended closed is = entries-joined u ts us begun (depth + 1) line next ended closed (omega (arith, is))
entries-joined closing [] us begun depth line next ended closed is = absurd (cc ended)
entries-joined closing (u ∷ ts) us begun depth line next ended closed is =
    closing-joined (nat_eq depth 0) (faulty_entry begun Parenthesis) _ _ (entries_in next us) (open_after (depth - 1) (u ∷ ts)) closed (λ closed_then. entries-joined u ts us begun (depth - 1) line next ended closed_then (omega (arith, is)))
entries-joined comment [] us begun depth line next ended closed is = absurd (cc ended)
entries-joined comment (u ∷ ts) us begun depth line next ended closed is = entries-joined u ts us begun depth line next ended closed (omega (arith, is))
entries-joined (field octets) [] us begun depth line next ended closed is = absurd (cc ended)
entries-joined (field octets) (u ∷ ts) us begun depth line next ended closed is = entries-joined u ts us (with_field begun octets) depth line next ended closed (omega (arith, is))
entries-joined open_quote ts us begun depth line next ended closed is = absurd (cc closed)

-- the entry that begins before tokens with a comment is the one that begins before those without it
begin-comment : (line : ℕ) (ts us : List Token) → begins_blank us ≡ false → begin line (ts ++ comment ∷ us) ≡ begin line (ts ++ us)
begin-comment line [] us other = ap (λ b. record { line = line; is_indented = b; fields = [] }) (sym other)
begin-comment line (t ∷ ts) us other = ap (λ b. record { line = line; is_indented = b; fields = [] }) (begins_blank-any t (ts ++ comment ∷ us) (ts ++ us))

-- a comment changes no entry
pub entries-comment : (ts us : List Token) (begun : Begun) (depth line : ℕ) → begins_blank us ≡ false → entries_from begun depth line (ts ++ comment ∷ us) ≡ entries_from begun depth line (ts ++ us)
entries-comment [] us begun depth line other = refl
entries-comment (blank ∷ ts) us begun depth line other = entries-comment ts us begun depth line other
entries-comment (line_end ∷ ts) us begun depth line other =
    if-map (λ entries. entries) (nat_eq depth 0) _ _ _ _
    (ap (prepend_entry begun) (ap (λ first. entries_from first 0 (line + 1) (ts ++ comment ∷ us)) (begin-comment (line + 1) ts us other) ∙ entries-comment ts us (begin (line + 1) (ts ++ us)) 0 (line + 1) other))
    (entries-comment ts us begun depth (line + 1) other)
entries-comment (opening ∷ ts) us begun depth line other = entries-comment ts us begun (depth + 1) line other
entries-comment (closing ∷ ts) us begun depth line other =
    if-map (λ entries. entries) (nat_eq depth 0) _ _ _ _ refl (entries-comment ts us begun (depth - 1) line other)
entries-comment (comment ∷ ts) us begun depth line other = entries-comment ts us begun depth line other
entries-comment (field octets ∷ ts) us begun depth line other = entries-comment ts us (with_field begun octets) depth line other
entries-comment (open_quote ∷ ts) us begun depth line other = refl

-- the entries of the tokens of joined texts
pub entries-split : (all ts us : List Token) → all ≡ ts ++ us → last_or None ts ≡ Some line_end → open_after 0 ts ≡ Some 0 → entries_in 1 all ≡ entries_in 1 ts ++ map (further (count_by is_line_end ts)) (entries_in 1 us)
entries-split all [] us whole ended closed = absurd (cc ended)
entries-split all (t ∷ ts) us whole ended closed =
    let next : count_by is_line_end (t ∷ ts) + 1 ≡ 1 + count_by is_line_end (t ∷ ts) = omega arith in
    ap (entries_in 1) whole ∙ ap (λ first. entries_from first 0 1 ((t ∷ ts) ++ us)) (begin-more 1 t ts us) ∙ entries-joined t ts us (begin 1 (t ∷ ts)) 0 1 (count_by is_line_end (t ∷ ts) + 1) ended closed next ∙ ap (λ others. entries_in 1 (t ∷ ts) ++ others) (entries-further us (count_by is_line_end (t ∷ ts)) (begin 1 us) 0 1)

-- the entries of tokens with a comment among them
pub entries-without : (with_it without ts us : List Token) → with_it ≡ ts ++ comment ∷ us → without ≡ ts ++ us → begins_blank us ≡ false → entries_in 1 with_it ≡ entries_in 1 without
entries-without with_it without ts us with_is without_is other =
    ap (entries_in 1) with_is ∙ ap (λ first. entries_from first 0 1 (ts ++ comment ∷ us)) (begin-comment 1 ts us other) ∙ entries-comment ts us (begin 1 (ts ++ us)) 0 1 other ∙ ap (entries_in 1) (sym without_is)
