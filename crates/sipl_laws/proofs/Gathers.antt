-- The lines that load a zone, in a session at any desk.
use Rattle.std.proofs.Common.{◌≡◌, ℕ, suc, ◌-◌, Bool, true, false, List, [], ◌∷◌, ◌++◌, length, None, Some, Ok, inl, refl, sym, ap, subst, ◌∙◌, arith, append_assoc, append-nil, nat_lt}
use Rattle.std.specs.Prelude.{◌==◌, if◌then◌else◌}
use Rattle.std.specs.Bool.{OnTrue, OnFalse}
use Rattle.std.specs.List.{AllByRecursion, flat_map}
use Rattle.std.proofs.lemmas.Bool.Decides.{nat_tests}
use Rattle.sipl_names.specs.Labels.{Octets, Labels, IsName}
use Rattle.sipl_names.specs.NamePrint.{text_of}
use Rattle.sipl_names.proofs.Public.{name_of-text_of}
use Rattle.sipl_records.specs.Parts.{parts, prepend_to_first}
use Rattle.sipl_records.specs.declared.record.Record.{Record}
use Rattle.sipl_masterfile.specs.RecordPrint.{IsRecord, record_text}
use Rattle.sipl_masterfile.specs.Zones.{zone_of}
use Rattle.sipl_lines.specs.Commands.{Keeps}
use Rattle.sipl_lines.specs.Desk.{DeskRules}
use Rattle.sipl_lines.specs.Gathering.{Gathers, LoadsOrRefuses, after_line, after_long_line, after_short_line, gathering_of, no_lines, text_read, zone_gathered}
use Rattle.sipl_lines.specs.Items.{Item, end_of_input, items_of, line, line_items}
use Rattle.sipl_lines.specs.Lines.{lines_among, lines_of, without_cr}
use Rattle.sipl_lines.specs.Replies.{Serves}
use Rattle.sipl_lines.specs.Requests.{request_of, zone}
use Rattle.sipl_lines.specs.Session.{Obeys, SessionState, new_session, session_loader, session_protocol, with_gathering}
use Rattle.sipl_laws.proofs.Cuts.{From}
use Rattle.sipl_laws.proofs.Cutting.{no-cr}
use Rattle.sipl_laws.proofs.LineLengths.{length-record}
use Rattle.sipl_laws.proofs.Octets.{from-record}
use Rattle.sipl_laws.proofs.SameLines.{joined}

-- the lines of a text

parts-before : (text rest : Octets) → From 32 text → parts 10 (text ++ 10 ∷ rest) ≡ text ∷ parts 10 rest
parts-before [] rest all = refl
parts-before (c ∷ text) rest all =
    let least = all.0 in
    let test : (c == 10) ≡ false = grind (arith, nat_tests) in
    rw test (ap (prepend_to_first c) (parts-before text rest all.1))

-- there is a first part
abbrev HasPart : List Octets → Type 0
HasPart parted = (part : Octets) × (others : List Octets) × (parted ≡ part ∷ others)

some-part : (text : Octets) → HasPart (parts 10 text)
some-part [] = ([], [], refl)
some-part (c ∷ text) = by (c == 10) (parts 10 text)
  where
    by : (b : Bool) (parted : List Octets) → HasPart (if b then [] ∷ parted else prepend_to_first c parted)
    by true parted = ([], parted, refl)
    by false [] = (c ∷ [], [], refl)
    by false (part ∷ others) = (c ∷ part, others, refl)

line-first : (text : Octets) (parted : List Octets) → HasPart parted → lines_among (text ∷ parted) ≡ without_cr text ∷ lines_among parted
line-first text parted some =
    ap (λ (ps : List Octets). lines_among (text ∷ ps)) some.2 ∙ ap (λ (ps : List Octets). without_cr text ∷ lines_among ps) (sym some.2)

pub item-first : (text rest : Octets) → From 32 text → items_of (text ++ 10 ∷ rest) ≡ line text ∷ items_of rest
item-first text rest all =
    ap (λ (ls : List Octets). line_items ls ++ end_of_input ∷ [])
    (ap lines_among (parts-before text rest all) ∙ line-first text (parts 10 rest) (some-part rest) ∙ ap (λ (t : Octets). t ∷ lines_of rest) (no-cr text all))

-- the lines of records, and the end of the input
abbrev pub record_items : List Record → List Item
record_items [] = end_of_input ∷ []
record_items (r ∷ records) = line (record_text r) ∷ record_items records

abbrev pub records_text : List Record → Octets
records_text records = flat_map (λ r. record_text r ++ 10 ∷ []) records

pub items-records : (records : List Record) → AllByRecursion IsRecord records → items_of (records_text records) ≡ record_items records
items-records [] all = refl
items-records (r ∷ records) all =
    ap items_of (joined (record_text r) (10 ∷ []) (records_text records))
    ∙ item-first (record_text r) (records_text records) (from-record r all.0)
    ∙ ap (λ (items : List Item). line (record_text r) ∷ items) (items-records records all.1)

-- what is gathered of a zone's lines

abbrev TypeOf : {A : Type 0} → A → Type 0
TypeOf {A} value = A

abbrev Gathered : Type 0
Gathered = TypeOf (no_lines (Ok []) None)

abbrev Gathering : Type 0
Gathering = TypeOf (gathering_of [] 0 None)

-- so many lines are left, after a text and a last LF
abbrev after_text : Labels → ℕ → Octets → Gathering
after_text apex left text = record { left = left; gathered = after_short_line text (no_lines (Ok apex) None) }

-- one more line of a record is taken

abbrev one_less : ℕ → Gathered → Gathered → Bool → Gathering
one_less left long short b = record { left = left - 1; gathered = if b then long else short }

not-long : (r : Record) → IsRecord r → nat_lt 65536 (length (record_text r)) ≡ false
not-long r is = let short = length-record r is in grind (arith, nat_tests)

less-one : (left : ℕ) → suc left - 1 ≡ left
less-one left = omega arith

more-text : (apex : Labels) (text more : Octets) → after_short_line more (after_short_line text (no_lines (Ok apex) None)) ≡ after_short_line (text ++ 10 ∷ more) (no_lines (Ok apex) None)
more-text apex text more = simp append_assoc

first-line : (apex : Labels) (left : ℕ) (r : Record) → IsName apex → IsRecord r → after_line (record_text r) (gathering_of (text_of apex) (suc left) None) ≡ after_text apex left (record_text r)
first-line apex left r is fit =
    ap (λ read. after_line (record_text r) (record { left = suc left; gathered = no_lines read None })) (name_of-text_of apex [] is)
    ∙ ap (one_less (suc left) (after_long_line (no_lines (Ok apex) None)) (after_short_line (record_text r) (no_lines (Ok apex) None))) (not-long r fit)
    ∙ ap (λ n. after_text apex n (record_text r)) (less-one left)

next-line : (apex : Labels) (left : ℕ) (text : Octets) (r : Record) → IsRecord r → after_line (record_text r) (after_text apex (suc left) text) ≡ after_text apex left (text ++ 10 ∷ record_text r)
next-line apex left text r fit =
    ap (one_less (suc left) (after_long_line (after_short_line text (no_lines (Ok apex) None))) (after_short_line (record_text r) (after_short_line text (no_lines (Ok apex) None)))) (not-long r fit)
    ∙ ap (λ n. record { left = n; gathered = after_short_line (record_text r) (after_short_line text (no_lines (Ok apex) None)) }) (less-one left)
    ∙ ap (λ gathered. record { left = left; gathered = gathered }) (more-text apex text (record_text r))

module _ {D F : Type 0} (rules : DeskRules D F) where
  -- the state while a zone's lines are taken
  abbrev taking : Gathering → D → SessionState D
  taking gathering desk = with_gathering (Some gathering) (new_session desk)

  gathers-more : (gathering : Gathering) (left : ℕ) (state : SessionState D) → gathering.left ≡ suc left → Gathers (session_loader rules) gathering state [] (with_gathering (Some gathering) state)
  gathers-more gathering left state more =
      let test : (gathering.left == 0) ≡ false = grind (arith, nat_tests) in
      subst
      (λ (b : Bool). OnTrue b (LoadsOrRefuses (session_loader rules) (zone_gathered gathering.gathered) (with_gathering None state) [] (with_gathering (Some gathering) state)) × OnFalse b (Keeps [] (with_gathering (Some gathering) state) [] (with_gathering (Some gathering) state)))
      (sym test) (tt, (refl, refl))

  gathers-last : (gathering : Gathering) (state : SessionState D) (told : Octets) (after : SessionState D) → gathering.left ≡ 0 → LoadsOrRefuses (session_loader rules) (zone_gathered gathering.gathered) (with_gathering None state) told after → Gathers (session_loader rules) gathering state told after
  gathers-last gathering state told after none loads =
      let test : (gathering.left == 0) ≡ true = grind (arith, nat_tests) in
      subst
      (λ (b : Bool). OnTrue b (LoadsOrRefuses (session_loader rules) (zone_gathered gathering.gathered) (with_gathering None state) told after) × OnFalse b (Keeps [] (with_gathering (Some gathering) state) told after))
      (sym test) (loads, tt)

  -- a desk is served the end of the input
  pub serves-end : (after : D) → Serves (session_protocol rules) (new_session after) (end_of_input ∷ []) [] (new_session after)
  serves-end after = record {
    reply = [];
    replies = [];
    between = new_session after;
    first = (new_session after, ([], refl), (tt, (refl, refl)));
    others = (refl, ([], refl));
    joined = refl;
  }

  -- the last line of a zone is taken
  serves-last : (gathering taken : Gathering) (last : Octets) (before : D) (told : Octets) (after : D) → after_line last gathering ≡ taken → taken.left ≡ 0 → LoadsOrRefuses (session_loader rules) (zone_gathered taken.gathered) (new_session before) told (new_session after) → Serves (session_protocol rules) (taking gathering before) (line last ∷ end_of_input ∷ []) told (new_session after)
  serves-last gathering taken last before told after is none loads = record {
    reply = told;
    replies = [];
    between = new_session after;
    first = (taking gathering before, ([], refl), (tt, inl (subst (λ (g : Gathering). Gathers (session_loader rules) g (taking gathering before) told (new_session after)) (sym is) (gathers-last taken (taking gathering before) told (new_session after) none loads))));
    others = serves-end after;
    joined = sym (append-nil told);
  }

  -- a line of a zone is taken, after which there are more
  serves-next : (gathering taken : Gathering) (left : ℕ) (next : Octets) (items : List Item) (before : D) (told : Octets) (after : D) → after_line next gathering ≡ taken → taken.left ≡ suc left → Serves (session_protocol rules) (taking taken before) items told (new_session after) → Serves (session_protocol rules) (taking gathering before) (line next ∷ items) told (new_session after)
  serves-next gathering taken left next items before told after is more serves = record {
    reply = [];
    replies = told;
    between = taking taken before;
    first = (taking gathering before, ([], refl), (tt, inl (subst (λ (g : Gathering). Gathers (session_loader rules) g (taking gathering before) [] (taking taken before)) (sym is) (gathers-more taken left (taking gathering before) more))));
    others = serves;
    joined = refl;
  }

  module _ (apex : Labels) (before : D) (told : Octets) (after : D) where
    -- a zone's text is loaded
    abbrev pub LoadsText : Octets → Type 0
    LoadsText text = LoadsOrRefuses (session_loader rules) (text_read (zone_of text apex)) (new_session before) told (new_session after)

    text-so-far : (text : Octets) (r : Record) (others : Octets) → (text ++ 10 ∷ record_text r) ++ 10 ∷ others ≡ text ++ 10 ∷ ((record_text r ++ 10 ∷ []) ++ others)
    text-so-far text r others = simp append_assoc

    -- the lines of records are taken, after a text and a last LF
    serves-others : (r : Record) (records : List Record) (text : Octets) → IsRecord r → AllByRecursion IsRecord records → LoadsText (text ++ 10 ∷ records_text (r ∷ records)) → Serves (session_protocol rules) (taking (after_text apex (suc (length records)) text) before) (record_items (r ∷ records)) told (new_session after)
    serves-others r [] text fit all loads =
        serves-last (after_text apex 1 text) (after_text apex 0 (text ++ 10 ∷ record_text r)) (record_text r) before told after (next-line apex 0 text r fit) refl
        (subst LoadsText (sym (text-so-far text r [])) loads)
    serves-others r (next ∷ records) text fit all loads =
        serves-next (after_text apex (suc (suc (length records))) text) (after_text apex (suc (length records)) (text ++ 10 ∷ record_text r)) (length records) (record_text r) (record_items (next ∷ records)) before told after (next-line apex (suc (length records)) text r fit) refl
        (serves-others next records (text ++ 10 ∷ record_text r) all.0 all.1 (subst LoadsText (sym (text-so-far text r (records_text (next ∷ records)))) loads))

    -- the lines of records are taken after a zone's first line
    serves-records : (r : Record) (records : List Record) → IsName apex → IsRecord r → AllByRecursion IsRecord records → LoadsText (records_text (r ∷ records)) → Serves (session_protocol rules) (taking (gathering_of (text_of apex) (suc (length records)) None) before) (record_items (r ∷ records)) told (new_session after)
    serves-records r [] is fit all loads =
        serves-last (gathering_of (text_of apex) 1 None) (after_text apex 0 (record_text r)) (record_text r) before told after (first-line apex 0 r is fit) refl
        (subst LoadsText (append-nil (record_text r ++ 10 ∷ [])) loads)
    serves-records r (next ∷ records) is fit all loads =
        serves-next (gathering_of (text_of apex) (suc (suc (length records))) None) (after_text apex (suc (length records)) (record_text r)) (length records) (record_text r) (record_items (next ∷ records)) before told after (first-line apex (suc (length records)) r is fit) refl
        (serves-others next records (record_text r) all.0 all.1 (subst LoadsText (joined (record_text r) (10 ∷ []) (records_text (next ∷ records))) loads))

    -- a zone's first line is obeyed
    obeys-first : (first : Octets) (count : ℕ) (reply : Octets) (next : SessionState D) → rules.zone_octets before ≡ None → request_of first ≡ zone (text_of apex) count → Gathers (session_loader rules) (gathering_of (text_of apex) count None) (new_session before) reply next → Obeys rules (request_of first) (new_session before) reply next
    obeys-first first count reply next unlimited asks gathers =
        let limited = subst (λ limit. Gathers (session_loader rules) (gathering_of (text_of apex) count limit) (new_session before) reply next) (sym unlimited) gathers in
        subst (λ request. Obeys rules request (new_session before) reply next) (sym asks) (inl (inl limited))

    -- a zone without records is loaded at once
    gathers-none : IsName apex → LoadsText [] → Gathers (session_loader rules) (gathering_of (text_of apex) 0 None) (new_session before) told (new_session after)
    gathers-none is loads =
        let named = subst (λ read. LoadsOrRefuses (session_loader rules) (zone_gathered (no_lines read None)) (new_session before) told (new_session after)) (sym (name_of-text_of apex [] is)) loads in
        gathers-last (gathering_of (text_of apex) 0 None) (new_session before) told (new_session after) refl named

    -- a zone's first line, its records, and the end of the input, at a desk that has no limit
    pub serves-zone : (records : List Record) (first : Octets) → rules.zone_octets before ≡ None → IsName apex → AllByRecursion IsRecord records → request_of first ≡ zone (text_of apex) (length records) → LoadsText (records_text records) → Serves (session_protocol rules) (new_session before) (line first ∷ record_items records) told (new_session after)
    serves-zone [] first unlimited is all asks loads = record {
      reply = told;
      replies = [];
      between = new_session after;
      first = (new_session before, ([], refl), (tt, obeys-first first 0 told (new_session after) unlimited asks (gathers-none is loads)));
      others = serves-end after;
      joined = sym (append-nil told);
    }
    serves-zone (r ∷ records) first unlimited is all asks loads =
        let gathering : Gathering = gathering_of (text_of apex) (suc (length records)) None in
        record {
          reply = [];
          replies = told;
          between = taking gathering before;
          first = (new_session before, ([], refl), (tt, obeys-first first (suc (length records)) [] (taking gathering before) unlimited asks (gathers-more gathering (length records) (new_session before) refl)));
          others = serves-records r records is all.0 all.1 loads;
          joined = refl;
        }
