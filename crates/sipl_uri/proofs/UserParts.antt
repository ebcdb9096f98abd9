-- The parts of a text with user information.
use Rattle.std.proofs.Common.{◌≡◌, true, ◌∷◌, ◌++◌, sym, ap, ◌∙◌}
use Rattle.std.specs.List.{list_all}
use Rattle.sipl_names.specs.Labels.{Octets}
use Rattle.sipl_records.specs.Parts.{split_once}
use Rattle.sipl_uri.specs.UriOctets.{is_uri_octet, is_free_octet}
use Rattle.sipl_uri.specs.UriParts.{parts_of, parts_of_hostport, before_headers}
use Rattle.sipl_uri.specs.Uris.{has_allowed_octets}
use Rattle.sipl_uri.proofs.Delimiters.{free_text, reads_userinfo, reads_no_userinfo}
use Rattle.sipl_uri.proofs.Splits.{lacks, lacks-split_once}

-- user information before a text without `@`: the octets are allowed, and the parts are those of the text
record IsUserBefore (text rest : Octets) : Type 0 where
  pub allowed : has_allowed_octets text ≡ true
  pub parts : parts_of text ≡ parts_of rest

before_rest : (user rest : Octets) → list_all is_free_octet user ≡ true → list_all is_free_octet rest ≡ true → IsUserBefore (user ++ 64 ∷ rest) rest
before_rest user rest free all =
    let with = reads_userinfo user rest free all in
    let without = reads_no_userinfo rest all in
    record {
      allowed = with.allowed;
      parts = ap (λ (after : Octets). parts_of_hostport (split_once 59 (before_headers after))) (with.after ∙ sym without.after);
    }

free_user : (text user : Octets) → user ≡ (split_once 64 text).0 → list_all is_uri_octet user ≡ true → list_all is_free_octet user ≡ true
free_user text user is all = free_text user all (ap (lacks 64) is ∙ lacks-split_once 64 text)

pub user_allowed : (text user rest : Octets) → text ≡ user ++ 64 ∷ rest → user ≡ (split_once 64 text).0 → list_all is_uri_octet user ≡ true → list_all is_free_octet rest ≡ true → has_allowed_octets text ≡ true
user_allowed text user rest whole is octets all = ap has_allowed_octets whole ∙ (before_rest user rest (free_user text user is octets) all).allowed

pub user_parts : (text user rest : Octets) → text ≡ user ++ 64 ∷ rest → user ≡ (split_once 64 text).0 → list_all is_uri_octet user ≡ true → list_all is_free_octet rest ≡ true → parts_of text ≡ parts_of rest
user_parts text user rest whole is octets all = ap parts_of whole ∙ (before_rest user rest (free_user text user is octets) all).parts
