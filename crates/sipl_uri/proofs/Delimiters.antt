-- User information, parameters and headers, between their delimiters.
use Rattle.std.proofs.Common.{◌≡◌, ℕ, ◌+◌, ◌≤◌, Bool, true, false, not, ◌&&◌, List, [], ◌∷◌, ◌++◌, Option, Some, None, if◌then◌else◌, refl, sym, ap, subst, ◌∙◌, arith, inl, inr, nat_eq, append_assoc, append-nil}
use Rattle.std.specs.Prelude.{codes, count_by, nat_le}
use Rattle.std.specs.List.{list_all}
use Rattle.std.proofs.lemmas.Bool.{cases_Bool, and_parts, and_from, not-true, not_from_false, leb-true, le-leb}
use Rattle.std.proofs.lemmas.List.Folds.{list_all-append}
use Rattle.std.proofs.lemmas.List.Sums.{sum_by-cons}
use Rattle.sipl_names.specs.Labels.{Octets}
use Rattle.sipl_records.specs.Parts.{parts, split_once}
use Rattle.sipl_uri.specs.UriOctets.{is_uri_octet, is_free_octet, is_param_octet}
use Rattle.sipl_uri.specs.UriParts.{after_userinfo, before_headers, params_in}
use Rattle.sipl_uri.specs.Uris.{has_allowed_octets}
use Rattle.sipl_uri.specs.Grammar.{IsUserinfoPart, IsHeadersPart}
use Rattle.sipl_uri.proofs.Octets.{list_all-weaker, list_all-both, free_uri, free_no_at, uri_free, param_free, param_no_semicolon, param_no_question, free_param}
use Rattle.sipl_uri.proofs.Splits.{lacks, separated, split_once-append, split_once-lacks, split_once-joins, split_once-whole, lacks-split_once, separated-parts, parts-separated, parts-all}

abbrev ats : Octets → ℕ
ats text = count_by (λ c. nat_eq c 64) text

ats-other : (c : ℕ) (text : Octets) → nat_eq c 64 ≡ false → ats (c ∷ text) ≡ ats text
ats-other c text other = rw other (omega arith)

ats-here : (c : ℕ) (text : Octets) → nat_eq c 64 ≡ true → ats (c ∷ text) ≡ 1 + ats text
ats-here c text here = sum_by-cons (λ d. if nat_eq d 64 then 1 else 0) c text ∙ rw here refl

-- how many octets are `@`
ats-append : (before rest : Octets) → lacks 64 before ≡ true → ats (before ++ rest) ≡ ats rest
ats-append [] rest none = refl
ats-append (c ∷ before) rest none =
    let both = and_parts (not (nat_eq c 64)) (lacks 64 before) none in
    ats-other c (before ++ rest) (not-true (nat_eq c 64) both.0) ∙ ats-append before rest both.1

ats-lacks : (text : Octets) → lacks 64 text ≡ true → ats text ≡ 0
ats-lacks text none = ap ats (sym (append-nil text)) ∙ ats-append text [] none

lacks-ats : (text : Octets) → ats text ≤ 0 → lacks 64 text ≡ true
lacks-ats [] few = refl
lacks-ats (c ∷ text) few = elim (cases_Bool (nat_eq c 64)) [
  | inl here ↦ let more = ats-here c text here in absurd (omega arith)
  | inr other ↦ let same = ats-other c text other in and_from _ _ (not_from_false (nat_eq c 64) other) (lacks-ats text (omega arith))
]

-- the octets of a text on both sides of a separator
around : (p : ℕ → Bool) (s : ℕ) (text before after : Octets) → text ≡ before ++ s ∷ after → list_all p text ≡ true → (list_all p before ≡ true) × (list_all p after ≡ true)
around p s text before after e all =
    let both = and_parts (list_all p before) (list_all p (s ∷ after)) (sym (list_all-append p before (s ∷ after)) ∙ (sym (ap (list_all p) e) ∙ all)) in
    (both.0, (and_parts (p s) (list_all p after) both.1).1)

pub free_text : (text : Octets) → list_all is_uri_octet text ≡ true → lacks 64 text ≡ true → list_all is_free_octet text ≡ true
free_text text all none = list_all-weaker (λ c. is_uri_octet c && not (nat_eq c 64)) is_free_octet uri_free text (list_all-both is_uri_octet (λ c. not (nat_eq c 64)) text all none)

-- [ userinfo "@" ], and the text after it
pub record IsAfterUserinfo (text rest : Octets) : Type 0 where
  pub userinfo : Octets
  pub written : text ≡ userinfo ++ rest
  pub is_userinfo : IsUserinfoPart userinfo
  pub octets : list_all is_free_octet rest ≡ true

userinfo_by : (text : Octets) (after : Option Octets) → (split_once 64 text).1 ≡ after → list_all is_uri_octet text ≡ true → ats text ≤ 1 → IsAfterUserinfo text (elim after as (λ _. Octets) [ Some rest ↦ rest | None ↦ text ])
userinfo_by text (Some rest) e all few =
    let front : Octets = (split_once 64 text).0 in
    let whole : text ≡ front ++ 64 ∷ rest = split_once-joins 64 text rest e in
    let none = lacks-split_once 64 text in
    let octets = around is_uri_octet 64 text front rest whole all in
    let count : ats text ≡ 1 + ats rest = ap ats whole ∙ (ats-append front (64 ∷ rest) none ∙ ats-here 64 rest refl) in
    record {
      userinfo = front ++ codes "@";
      written = whole ∙ sym (append_assoc front (codes "@") rest);
      is_userinfo = inl (record { userinfo = front; written = refl; octets = free_text front octets.0 none });
      octets = free_text rest octets.1 (lacks-ats rest (omega arith));
    }
userinfo_by text None e all few = record {
  userinfo = [];
  written = refl;
  is_userinfo = inr refl;
  octets = free_text text all (ap (lacks 64) (split_once-whole 64 text e) ∙ lacks-split_once 64 text);
}

-- the text after the user information
pub after_userinfo-is : (text : Octets) → has_allowed_octets text ≡ true → IsAfterUserinfo text (after_userinfo text)
after_userinfo-is text allowed =
    let both = and_parts (list_all is_uri_octet text) (nat_le (ats text) 1) allowed in
    userinfo_by text (split_once 64 text).1 refl both.0 (leb-true (ats text) 1 both.1)

-- it is read
pub record ReadsUserinfo (text rest : Octets) : Type 0 where
  pub allowed : has_allowed_octets text ≡ true
  pub after : after_userinfo text ≡ rest

no_ats : (text : Octets) → list_all is_free_octet text ≡ true → lacks 64 text ≡ true
no_ats text all = list_all-weaker is_free_octet (λ c. not (nat_eq c 64)) free_no_at text all

uri_text : (text : Octets) → list_all is_free_octet text ≡ true → list_all is_uri_octet text ≡ true
uri_text text all = list_all-weaker is_free_octet is_uri_octet free_uri text all

abbrev after_at : Octets → Octets × Option Octets → Octets
after_at text cut = elim cut.1 [ Some rest ↦ rest | None ↦ text ]

pub reads_userinfo : (front rest : Octets) → list_all is_free_octet front ≡ true → list_all is_free_octet rest ≡ true → ReadsUserinfo (front ++ 64 ∷ rest) rest
reads_userinfo front rest free all =
    let count : ats (front ++ 64 ∷ rest) ≡ 1 = ats-append front (64 ∷ rest) (no_ats front free) ∙ (ats-here 64 rest refl ∙ ap (λ (n : ℕ). 1 + n) (ats-lacks rest (no_ats rest all))) in
    record {
      allowed = and_from _ _ (list_all-append is_uri_octet front (64 ∷ rest) ∙ and_from _ _ (uri_text front free) (uri_text rest all)) (le-leb _ 1 (omega arith));
      after = ap (after_at (front ++ 64 ∷ rest)) (split_once-append 64 front rest (no_ats front free));
    }

pub reads_no_userinfo : (rest : Octets) → list_all is_free_octet rest ≡ true → ReadsUserinfo rest rest
reads_no_userinfo rest all =
    let count : ats rest ≡ 0 = ats-lacks rest (no_ats rest all) in
    record {
      allowed = and_from _ _ (uri_text rest all) (le-leb _ 1 (omega arith));
      after = ap (after_at rest) (split_once-lacks 64 rest (no_ats rest all));
    }

userinfo_read : (userinfo rest : Octets) → IsUserinfoPart userinfo → list_all is_free_octet rest ≡ true → ReadsUserinfo (userinfo ++ rest) rest
userinfo_read userinfo rest (inl is) all =
    subst (λ (t : Octets). ReadsUserinfo t rest) (sym (append_assoc is.userinfo (codes "@") rest) ∙ ap (λ (u : Octets). u ++ rest) (sym is.written)) (reads_userinfo is.userinfo rest is.octets all)
userinfo_read userinfo rest (inr none) all = subst (λ (u : Octets). ReadsUserinfo (u ++ rest) rest) (sym none) (reads_no_userinfo rest all)

pub after_userinfo-read : (text rest : Octets) → IsAfterUserinfo text rest → ReadsUserinfo text rest
after_userinfo-read text rest is = subst (λ (t : Octets). ReadsUserinfo t rest) (sym is.written) (userinfo_read is.userinfo rest is.is_userinfo is.octets)

-- an octet before the headers
abbrev pub is_front_octet : ℕ → Bool
is_front_octet c = is_free_octet c && not (nat_eq c 63)

-- the text before [ "?" headers ]
pub record IsBeforeHeaders (text front : Octets) : Type 0 where
  pub headers : Octets
  pub written : text ≡ front ++ headers
  pub is_headers : IsHeadersPart headers
  pub octets : list_all is_front_octet front ≡ true

headers_by : (text : Octets) (after : Option Octets) → (split_once 63 text).1 ≡ after → list_all is_free_octet text ≡ true → IsBeforeHeaders text (split_once 63 text).0
headers_by text (Some rest) e all =
    let whole : text ≡ (split_once 63 text).0 ++ 63 ∷ rest = split_once-joins 63 text rest e in
    let octets = around is_free_octet 63 text (split_once 63 text).0 rest whole all in
    record {
      headers = 63 ∷ rest;
      written = whole;
      is_headers = inl (record { headers = rest; written = refl; octets = octets.1 });
      octets = list_all-both is_free_octet (λ c. not (nat_eq c 63)) (split_once 63 text).0 octets.0 (lacks-split_once 63 text);
    }
headers_by text None e all =
    let whole : text ≡ (split_once 63 text).0 = split_once-whole 63 text e in
    record {
      headers = [];
      written = whole ∙ sym (append-nil (split_once 63 text).0);
      is_headers = inr refl;
      octets = list_all-both is_free_octet (λ c. not (nat_eq c 63)) (split_once 63 text).0 (sym (ap (list_all is_free_octet) whole) ∙ all) (lacks-split_once 63 text);
    }

pub before_headers-is : (text : Octets) → list_all is_free_octet text ≡ true → IsBeforeHeaders text (before_headers text)
before_headers-is text all = headers_by text (split_once 63 text).1 refl all

-- it is read
pub record ReadsHeaders (text front : Octets) : Type 0 where
  pub octets : list_all is_free_octet text ≡ true
  pub before : before_headers text ≡ front

front_parts : (front : Octets) → list_all is_front_octet front ≡ true → (list_all is_free_octet front ≡ true) × (lacks 63 front ≡ true)
front_parts front all = (
  list_all-weaker is_front_octet is_free_octet (λ c e. (and_parts (is_free_octet c) (not (nat_eq c 63)) e).0) front all,
  list_all-weaker is_front_octet (λ c. not (nat_eq c 63)) (λ c e. (and_parts (is_free_octet c) (not (nat_eq c 63)) e).1) front all,
)

headers_read : (front headers : Octets) → IsHeadersPart headers → list_all is_front_octet front ≡ true → ReadsHeaders (front ++ headers) front
headers_read front headers (inl is) all =
    let both = front_parts front all in
    subst (λ (h : Octets). ReadsHeaders (front ++ h) front) (sym is.written) (record {
      octets = list_all-append is_free_octet front (63 ∷ is.headers) ∙ and_from _ _ both.0 is.octets;
      before = ap (λ (cut : Octets × Option Octets). cut.0) (split_once-append 63 front is.headers both.1);
    })
headers_read front headers (inr none) all =
    let both = front_parts front all in
    subst (λ (h : Octets). ReadsHeaders (front ++ h) front) (sym none) (record {
      octets = ap (list_all is_free_octet) (append-nil front) ∙ both.0;
      before = ap before_headers (append-nil front) ∙ ap (λ (cut : Octets × Option Octets). cut.0) (split_once-lacks 63 front both.1);
    })

pub before_headers-read : (text front : Octets) → IsBeforeHeaders text front → ReadsHeaders text front
before_headers-read text front is = subst (λ (t : Octets). ReadsHeaders t front) (sym is.written) (headers_read front is.headers is.is_headers is.octets)

-- the text before *( ";" param ), and the texts of the parameters
pub record IsBeforeParams (text hostport : Octets) (texts : List Octets) : Type 0 where
  pub written : text ≡ hostport ++ separated 59 texts
  pub octets : list_all is_param_octet hostport ≡ true
  pub params : list_all (list_all is_param_octet) texts ≡ true

texts_weaker : (p q : ℕ → Bool) → ((c : ℕ) → p c ≡ true → q c ≡ true) → (texts : List Octets) → list_all (list_all p) texts ≡ true → list_all (list_all q) texts ≡ true
texts_weaker p q weaker [] all = refl
texts_weaker p q weaker (text ∷ texts) all =
    let both = and_parts (list_all p text) (list_all (list_all p) texts) all in
    and_from _ _ (list_all-weaker p q weaker text both.0) (texts_weaker p q weaker texts both.1)

param_text : (text : Octets) → list_all is_front_octet text ≡ true → lacks 59 text ≡ true → list_all is_param_octet text ≡ true
param_text text all none = list_all-weaker (λ c. is_front_octet c && not (nat_eq c 59)) is_param_octet free_param text (list_all-both is_front_octet (λ c. not (nat_eq c 59)) text all none)

params_by : (text : Octets) (after : Option Octets) → (split_once 59 text).1 ≡ after → list_all is_front_octet text ≡ true → IsBeforeParams text (split_once 59 text).0 (params_in after)
params_by text (Some rest) e all =
    let whole : text ≡ (split_once 59 text).0 ++ 59 ∷ rest = split_once-joins 59 text rest e in
    let octets = around is_front_octet 59 text (split_once 59 text).0 rest whole all in
    record {
      written = whole ∙ ap (λ (t : Octets). (split_once 59 text).0 ++ t) (sym (separated-parts 59 rest));
      octets = param_text (split_once 59 text).0 octets.0 (lacks-split_once 59 text);
      params = texts_weaker (λ c. is_front_octet c && not (nat_eq c 59)) is_param_octet free_param (parts 59 rest) (parts-all 59 is_front_octet rest octets.1);
    }
params_by text None e all =
    let whole : text ≡ (split_once 59 text).0 = split_once-whole 59 text e in
    record {
      written = whole ∙ sym (append-nil (split_once 59 text).0);
      octets = param_text (split_once 59 text).0 (sym (ap (list_all is_front_octet) whole) ∙ all) (lacks-split_once 59 text);
      params = refl;
    }

pub before_params-is : (text : Octets) → list_all is_front_octet text ≡ true → IsBeforeParams text (split_once 59 text).0 (params_in (split_once 59 text).1)
before_params-is text all = params_by text (split_once 59 text).1 refl all

-- they are read
pub record ReadsParams (text hostport : Octets) (texts : List Octets) : Type 0 where
  pub octets : list_all is_front_octet text ≡ true
  pub after : Option Octets
  pub cut : split_once 59 text ≡ (hostport, after)
  pub params : params_in after ≡ texts

param_front : (c : ℕ) → is_param_octet c ≡ true → is_front_octet c ≡ true
param_front c param = and_from _ _ (param_free c param) (param_no_question c param)

no_semicolons : (text : Octets) → list_all is_param_octet text ≡ true → lacks 59 text ≡ true
no_semicolons text all = list_all-weaker is_param_octet (λ c. not (nat_eq c 59)) param_no_semicolon text all

texts_lack : (texts : List Octets) → list_all (list_all is_param_octet) texts ≡ true → list_all (lacks 59) texts ≡ true
texts_lack texts all = texts_weaker is_param_octet (λ c. not (nat_eq c 59)) param_no_semicolon texts all

front_text : (text : Octets) → list_all is_param_octet text ≡ true → list_all is_front_octet text ≡ true
front_text text all = list_all-weaker is_param_octet is_front_octet param_front text all

separated_front : (texts : List Octets) → list_all (list_all is_param_octet) texts ≡ true → list_all is_front_octet (separated 59 texts) ≡ true
separated_front [] all = refl
separated_front (text ∷ texts) all =
    let both = and_parts (list_all is_param_octet text) (list_all (list_all is_param_octet) texts) all in
    list_all-append is_front_octet text (separated 59 texts) ∙ and_from _ _ (front_text text both.0) (separated_front texts both.1)

params_read : (hostport : Octets) (texts : List Octets) → list_all is_param_octet hostport ≡ true → list_all (list_all is_param_octet) texts ≡ true → ReadsParams (hostport ++ separated 59 texts) hostport texts
params_read hostport [] all others = record {
  octets = ap (list_all is_front_octet) (append-nil hostport) ∙ front_text hostport all;
  after = None;
  cut = ap (split_once 59) (append-nil hostport) ∙ split_once-lacks 59 hostport (no_semicolons hostport all);
  params = refl;
}
params_read hostport (text ∷ texts) all others =
    let both = and_parts (list_all is_param_octet text) (list_all (list_all is_param_octet) texts) others in
    record {
      octets = list_all-append is_front_octet hostport (separated 59 (text ∷ texts)) ∙ and_from _ _ (front_text hostport all) (separated_front (text ∷ texts) others);
      after = Some (text ++ separated 59 texts);
      cut = split_once-append 59 hostport (text ++ separated 59 texts) (no_semicolons hostport all);
      params = parts-separated 59 text texts (no_semicolons text both.0) (texts_lack texts both.1);
    }

pub before_params-read : (text hostport : Octets) (texts : List Octets) → IsBeforeParams text hostport texts → ReadsParams text hostport texts
before_params-read text hostport texts is = subst (λ (t : Octets). ReadsParams t hostport texts) (sym is.written) (params_read hostport texts is.octets is.params)
