-- A text that has a question has a scheme, and octets that are allowed.
use Rattle.std.proofs.Common.{◌≡◌, ◌&&◌, Bool, true, false, cond, Option, None, Some, Result, Err, is_some, refl}
use Rattle.std.specs.Prelude.{is_ok}
use Rattle.sipl_names.specs.Labels.{Octets}
use Rattle.sipl_records.specs.Parts.{split_once}
use Rattle.sipl_uri.specs.UriParts.{parts_of}
use Rattle.sipl_uri.specs.Uris.{has_allowed_octets, has_scheme_and_octets, is_scheme_and_octets, question_after_scheme, question_of, question_of_parts, question_of_split, security_of}
use Rattle.sipl_uri.specs.declared.fault.UriFault.{UriFault}
use Rattle.sipl_uri.specs.declared.fault.UriFault.TheVariants.{Characters, Scheme}
use Rattle.sipl_uri.specs.declared.question.Question.{Question}

allowed : (b : Bool) (asked : Result Question UriFault) → is_ok (cond b asked (Err Characters)) ≡ true → b ≡ true
allowed true asked is = refl
allowed false asked is = cc

after_scheme : (secure : Option Bool) (text : Octets) → is_ok (elim secure [ Some s ↦ question_after_scheme s text | None ↦ Err Scheme ]) ≡ true → is_some secure && has_allowed_octets text ≡ true
after_scheme None text is = cc
after_scheme (Some s) text is = allowed (has_allowed_octets text) (question_of_parts s (parts_of text)) is

of_split : (split : Octets × Option Octets) → is_ok (question_of_split split) ≡ true → is_scheme_and_octets split ≡ true
of_split (scheme, None) is = cc
of_split (scheme, Some text) is = after_scheme (security_of scheme) text is

pub asked_octets : (uri : Octets) → is_ok (question_of uri) ≡ true → has_scheme_and_octets uri ≡ true
asked_octets uri is = of_split (split_once 58 uri) is
