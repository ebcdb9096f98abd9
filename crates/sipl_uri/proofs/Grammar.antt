-- A text asks a question exactly where the grammar relates them.
use Rattle.std.proofs.Common.{◌≡◌, ℕ, Bool, true, false, List, [], ◌∷◌, ◌++◌, Option, Some, None, map, Result, Ok, Err, if◌then◌else◌, refl, sym, ap, subst, ◌∙◌, append_assoc}
use Rattle.std.specs.Prelude.{codes}
use Rattle.std.specs.List.{AllByRecursion}
use Rattle.std.specs.Option.{unwrap_or}
use Rattle.std.specs.Str.{str_to_ascii_lowercase}
use lib.Pointwise.{bytes_decides}
use Rattle.sipl_names.specs.Labels.{Octets}
use Rattle.sipl_records.specs.Parts.{split_once}
use Rattle.sipl_uri.specs.declared.fault.UriFault.{UriFault}
use Rattle.sipl_uri.specs.declared.fault.UriFault.TheVariants.{Scheme, Characters, Host}
use Rattle.sipl_uri.specs.declared.question.Target.{Target}
use Rattle.sipl_uri.specs.declared.question.Question.{Question}
use Rattle.sipl_uri.specs.Hosts.{host_of}
use Rattle.sipl_uri.specs.UriParts.{Parts, after_userinfo, before_headers, params_in, split_port, parts_of_hostport, parts_of}
use Rattle.sipl_uri.specs.Params.{Param, Settings, no_settings, same_text, param_of, take_params}
use Rattle.sipl_uri.specs.Uris.{security_of, port_part, question_over, question_with, question_to, question_of_parts, has_allowed_octets, question_after_scheme, question_of_split, question_of}
use Rattle.sipl_uri.specs.Grammar.{IsScheme, IsUri, param_named}
use Rattle.sipl_uri.proofs.Octets.{no_colons-lower}
use Rattle.sipl_uri.proofs.Splits.{lacks, separated, split_once-append, split_once-joins}
use Rattle.sipl_uri.proofs.Hostports.{IsHostport, hostport-is, hostport-read, hostport_octets}
use Rattle.sipl_uri.proofs.ParamTexts.{are_params, param_texts}
use Rattle.sipl_uri.proofs.TakenParams.{IsFresh, take_params-taken, taken, Takes, taken-is, taken-Ok, once_pairs, pairs_once}
use Rattle.sipl_uri.proofs.Delimiters.{after_userinfo-is, after_userinfo-read, before_headers-is, before_headers-read, before_params-is, before_params-read}
use Rattle.sipl_uri.proofs.Meanings.{question_over-is, target-is, transport-is, readable_transport, readable_target, target-read, question_over-read}

-- what the parts of a URI say, where they ask a question
record Says (parts : Parts) (secure : Bool) (question : Question) : Type 0 where
  host : Target
  port : Option ℕ
  settings : Settings
  is_host : host_of parts.host ≡ Some host
  is_port : port_part parts.port ≡ Ok port
  are_params : take_params parts.params no_settings ≡ Ok settings
  asks : question_with secure host port settings ≡ Ok question

says_by : (parts : Parts) (secure : Bool) (question : Question) (host : Option Target) (port : Result (Option ℕ) UriFault) (settings : Result Settings UriFault) → host_of parts.host ≡ host → port_part parts.port ≡ port → take_params parts.params no_settings ≡ settings → elim host as (λ _. Result Question UriFault) [ Some found ↦ question_to secure found port settings | None ↦ Err Host ] ≡ Ok question → Says parts secure question
says_by parts secure question (Some host) (Ok port) (Ok settings) e f g same = record { host = host; port = port; settings = settings; is_host = e; is_port = f; are_params = g; asks = same }
says_by parts secure question (Some host) (Ok port) (Err fault) e f g same = cc
says_by parts secure question (Some host) (Err fault) settings e f g same = cc
says_by parts secure question None port settings e f g same = cc

says : (parts : Parts) (secure : Bool) (question : Question) → question_of_parts secure parts ≡ Ok question → Says parts secure question
says parts secure question e = says_by parts secure question _ _ _ refl refl refl e

allowed_by : (b : Bool) (rest : Result Question UriFault) (question : Question) → (if b then rest else Err Characters) ≡ Ok question → (b ≡ true) × (rest ≡ Ok question)
allowed_by true rest question e = (refl, e)
allowed_by false rest question e = cc

-- userinfo, host, port, parameters and headers after a scheme
joined_parts : (scheme userinfo host port params headers rest front hostport : Octets) → rest ≡ front ++ headers → front ≡ hostport ++ params → hostport ≡ host ++ port → scheme ++ 58 ∷ (userinfo ++ rest) ≡ scheme ++ codes ":" ++ userinfo ++ host ++ port ++ params ++ headers
joined_parts scheme userinfo host port params headers rest front hostport e f g =
    ap (λ (t : Octets). scheme ++ 58 ∷ (userinfo ++ t)) (e ∙ ap (λ (t : Octets). t ++ headers) (f ∙ ap (λ (t : Octets). t ++ params) g)) ∙ simp append_assoc

-- the text after the scheme's colon
after_scheme-is : (scheme text : Octets) (secure : Bool) (question : Question) → IsScheme scheme secure → question_after_scheme secure text ≡ Ok question → IsUri (scheme ++ 58 ∷ text) question
after_scheme-is scheme text secure question is e =
    let allowed = allowed_by (has_allowed_octets text) (question_of_parts secure (parts_of text)) question e in
    let userinfo = after_userinfo-is text allowed.0 in
    let headers = before_headers-is (after_userinfo text) userinfo.octets in
    let params = before_params-is (before_headers (after_userinfo text)) headers.octets in
    let s = says (parts_of text) secure question allowed.1 in
    let hostport = hostport-is (split_once 59 (before_headers (after_userinfo text))).0 s.host s.port s.is_host s.is_port in
    let texts : List Octets = params_in (split_once 59 (before_headers (after_userinfo text))).1 in
    let takes = taken-is (map param_of texts) no_settings s.settings (sym (take_params-taken texts no_settings) ∙ s.are_params) in
    let asks = question_over-is secure (unwrap_or s.settings.target s.host) s.port s.settings.transport question s.asks in
    subst (λ (q : Question). IsUri (scheme ++ 58 ∷ text) q) asks.same (record {
      scheme = scheme;
      userinfo = userinfo.userinfo;
      host = hostport.host_text;
      port = hostport.port_text;
      params = separated 59 texts;
      headers = headers.headers;
      given = map param_of texts;
      host_target = s.host;
      written = ap (λ (t : Octets). scheme ++ 58 ∷ t) userinfo.written ∙ joined_parts scheme userinfo.userinfo hostport.host_text hostport.port_text (separated 59 texts) headers.headers _ _ _ headers.written params.written hostport.written;
      is_scheme = is;
      is_userinfo = userinfo.is_userinfo;
      is_host = hostport.is_host;
      is_port = hostport.is_port;
      are_params = are_params texts takes.named params.params;
      is_headers = headers.is_headers;
      once = once_pairs (map param_of texts) takes.once;
      is_target = target-is (param_named (codes "maddr") (map param_of texts)) s.host s.settings.target takes.target;
      is_transport = transport-is secure (param_named (codes "transport") (map param_of texts)) s.settings.transport asks.used takes.transport asks.is_used;
    })

security_by : (scheme : Octets) (secure sip sips : Bool) → same_text (str_to_ascii_lowercase scheme) (codes "sip") ≡ sip → same_text (str_to_ascii_lowercase scheme) (codes "sips") ≡ sips → (if sip then Some false else (if sips then Some true else None)) ≡ Some secure → IsScheme scheme secure
security_by scheme true true sips e f same = cc
security_by scheme false true sips e f same = (bytes_decides (str_to_ascii_lowercase scheme) (codes "sip")).0 e
security_by scheme true false true e f same = (bytes_decides (str_to_ascii_lowercase scheme) (codes "sips")).0 f
security_by scheme false false true e f same = cc
security_by scheme secure false false e f same = cc

question_by : (text scheme : Octets) (rest : Option Octets) (secure : Option Bool) (question : Question) → (split_once 58 text).0 ≡ scheme → (split_once 58 text).1 ≡ rest → security_of scheme ≡ secure → elim rest as (λ _. Result Question UriFault) [ Some after ↦ (elim secure [ Some s ↦ question_after_scheme s after | None ↦ Err Scheme ]) | None ↦ Err Scheme ] ≡ Ok question → IsUri text question
question_by text scheme (Some after) (Some secure) question e f g same =
    subst (λ (t : Octets). IsUri t question) (ap (λ (s : Octets). s ++ 58 ∷ after) (sym e) ∙ sym (split_once-joins 58 text after f))
    (after_scheme-is scheme after secure question (security_by scheme secure _ _ refl refl g) same)
question_by text scheme (Some after) None question e f g same = cc
question_by text scheme None secure question e f g same = cc

question_split : (cut : Octets × Option Octets) → question_of_split cut ≡ elim cut.1 as (λ _. Result Question UriFault) [ Some after ↦ (elim (security_of cut.0) [ Some s ↦ question_after_scheme s after | None ↦ Err Scheme ]) | None ↦ Err Scheme ]
question_split (scheme, Some after) = refl
question_split (scheme, None) = refl

-- the question of a text is one by the grammar
pub question_of-is : (text : Octets) (question : Question) → question_of text ≡ Ok question → IsUri text question
question_of-is text question e = question_by text _ _ _ question refl refl refl (sym (question_split (split_once 58 text)) ∙ e)

-- the scheme of a URI
security_of-Some : (scheme : Octets) (secure : Bool) → IsScheme scheme secure → security_of scheme ≡ Some secure
security_of-Some scheme false is = ap (λ (s : Octets). if same_text s (codes "sip") then Some false else (if same_text s (codes "sips") then Some true else None)) is
security_of-Some scheme true is = ap (λ (s : Octets). if same_text s (codes "sip") then Some false else (if same_text s (codes "sips") then Some true else None)) is

scheme_lacks : (scheme : Octets) (secure : Bool) → IsScheme scheme secure → lacks 58 scheme ≡ true
scheme_lacks scheme false is = no_colons-lower scheme (ap (lacks 58) is)
scheme_lacks scheme true is = no_colons-lower scheme (ap (lacks 58) is)

all_fresh : (params : List Param) → AllByRecursion (IsFresh []) params
all_fresh [] = tt
all_fresh (param ∷ params) = (refl, all_fresh params)

-- the parts of a URI are read
parts-read : (text rest front hostport : Octets) (texts : List Octets) (after : Option Octets) → after_userinfo text ≡ rest → before_headers rest ≡ front → split_once 59 front ≡ (hostport, after) → params_in after ≡ texts → parts_of text ≡ record { host = (split_port hostport).0; port = (split_port hostport).1; params = texts }
parts-read text rest front hostport texts after e f g h =
    ap (λ (t : Octets). parts_of_hostport (split_once 59 (before_headers t))) e
    ∙ (ap (λ (t : Octets). parts_of_hostport (split_once 59 t)) f
    ∙ (ap parts_of_hostport g ∙ ap (λ (ts : List Octets). record { host = (split_port hostport).0; port = (split_port hostport).1; params = ts }) h))

asked : (parts : Parts) (secure : Bool) (host : Target) (port : Option ℕ) (settings : Settings) (question : Question) → host_of parts.host ≡ Some host → port_part parts.port ≡ Ok port → take_params parts.params no_settings ≡ Ok settings → question_with secure host port settings ≡ Ok question → question_of_parts secure parts ≡ Ok question
asked parts secure host port settings question e f g same =
    (λ i. elim (e i) as (λ _. Result Question UriFault) [ Some found ↦ question_to secure found (f i) (g i) | None ↦ Err Host ]) ∙ same

-- the question with what the parameters say
question_with-Ok : (text : Octets) (question : Question) (is : IsUri text question) (settings : Settings) → Takes is.given no_settings settings → question_with question.secure is.host_target question.port settings ≡ Ok question
question_with-Ok text question is settings takes =
    ap (λ (t : Target). question_over question.secure t question.port settings.transport) (target-read (param_named (codes "maddr") is.given) is.host_target question.target settings.target takes.target is.is_target)
    ∙ question_over-read question.secure question.target question.port (param_named (codes "transport") is.given) settings.transport question.transport takes.transport is.is_transport

after_scheme-Ok : (text : Octets) (question : Question) (is : IsUri text question) → question_after_scheme question.secure (is.userinfo ++ (is.host ++ is.port ++ is.params ++ is.headers)) ≡ Ok question
after_scheme-Ok text question is =
    let texts = param_texts is.params is.given is.are_params in
    let hostport : IsHostport (is.host ++ is.port) is.host_target question.port = record { host_text = is.host; port_text = is.port; written = refl; is_host = is.is_host; is_port = is.is_port } in
    let host_read = hostport-read (is.host ++ is.port) is.host_target question.port hostport in
    let params = before_params-read (is.host ++ is.port ++ is.params) (is.host ++ is.port) texts.texts (record {
      written = ap (λ (t : Octets). is.host ++ is.port ++ t) texts.written;
      octets = hostport_octets (is.host ++ is.port) is.host_target question.port hostport;
      params = texts.octets;
    }) in
    let headers = before_headers-read (is.host ++ is.port ++ is.params ++ is.headers) (is.host ++ is.port ++ is.params) (record { headers = is.headers; written = refl; is_headers = is.is_headers; octets = params.octets }) in
    let after : Octets = is.userinfo ++ (is.host ++ is.port ++ is.params ++ is.headers) in
    let userinfo = after_userinfo-read after (is.host ++ is.port ++ is.params ++ is.headers) (record { userinfo = is.userinfo; written = refl; is_userinfo = is.is_userinfo; octets = headers.octets }) in
    let given = taken-Ok is.given no_settings (record {
      named = texts.named;
      fresh = all_fresh is.given;
      once = pairs_once is.given is.once;
      transport = readable_transport question.secure (param_named (codes "transport") is.given) question.transport is.is_transport;
      target = readable_target (param_named (codes "maddr") is.given) is.host_target question.target is.is_target;
    }) in
    let settings : take_params texts.texts no_settings ≡ Ok given.0 = take_params-taken texts.texts no_settings ∙ (ap (λ (ps : List Param). taken ps no_settings) texts.read ∙ given.1) in
    let parts = parts-read after (is.host ++ is.port ++ is.params ++ is.headers) (is.host ++ is.port ++ is.params) (is.host ++ is.port) texts.texts params.after userinfo.after headers.before params.cut params.params in
    (λ i. if userinfo.allowed i then question_of_parts question.secure (parts i) else Err Characters)
    ∙ asked (record { host = (split_port (is.host ++ is.port)).0; port = (split_port (is.host ++ is.port)).1; params = texts.texts }) question.secure is.host_target question.port given.0 question
    host_read.host_read host_read.port_read settings (question_with-Ok text question is given.0 (taken-is is.given no_settings given.0 given.1))

question_after : (scheme rest : Octets) (secure : Bool) (question : Question) → IsScheme scheme secure → question_after_scheme secure rest ≡ Ok question → question_of (scheme ++ 58 ∷ rest) ≡ Ok question
question_after scheme rest secure question is e =
    ap question_of_split (split_once-append 58 scheme rest (scheme_lacks scheme secure is))
    ∙ (ap (λ (s : Option Bool). elim s as (λ _. Result Question UriFault) [ Some b ↦ question_after_scheme b rest | None ↦ Err Scheme ]) (security_of-Some scheme secure is) ∙ e)

-- a question by the grammar is the question of the text
pub question_of-Ok : (text : Octets) (question : Question) → IsUri text question → question_of text ≡ Ok question
question_of-Ok text question is =
    let after : Octets = is.userinfo ++ (is.host ++ is.port ++ is.params ++ is.headers) in
    let whole : text ≡ is.scheme ++ 58 ∷ after =
    is.written ∙ sym (joined_parts is.scheme is.userinfo is.host is.port is.params is.headers (is.host ++ is.port ++ is.params ++ is.headers) (is.host ++ is.port ++ is.params) (is.host ++ is.port) refl refl refl) in
    ap question_of whole ∙ question_after is.scheme after question.secure question is.is_scheme (after_scheme-Ok text question is)
