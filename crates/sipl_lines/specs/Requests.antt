-- The words of a session's commands and of their replies, and what a line asks for.
use Rattle.std.specs.Prelude.{ℕ, Bool, false, ◌||◌, List, [], ◌∷◌, ◌++◌, Option, None, Some, Result, Ok, Err, codes, nat_eq, nat_lt, length, option_map, unwrap_or, if◌then◌else◌, ◌==◌}
use lib.Pointwise.{pointwise}
use Rattle.sipl_records.specs.Fields.{fields_of, trim_start, after_field}
use Rattle.sipl_records.specs.Numbers.{number_of}
use Rattle.sipl_records.specs.Addresses.{address_of}
use Rattle.sipl_records.specs.declared.fault.AddressFault.{AddressFault}
use Rattle.sipl_records.specs.declared.fault.AddressFault.TheVariants.{BadAddress}
use Rattle.sipl_choice.specs.declared.endpoint.Endpoint.{Endpoint}
use Rattle.sipl_choice.specs.declared.transport.Transport.{Transport}
use Rattle.sipl_choice.specs.Transports.{transport_named}
use Rattle.sipl_srv.specs.declared.fault.DrawsFault.{DrawsFault}
use Rattle.sipl_tx.specs.declared.parts.Kind.{Kind}
use Rattle.sipl_tx.specs.declared.parts.Kind.TheVariants.{Invite, Other}
use Rattle.sipl_names.specs.Labels.{Octets}
use Rattle.sipl_lines.specs.declared.command.Command.{Command}
use Rattle.sipl_lines.specs.declared.command.Command.TheVariants.{Nothing, Unknown, TooLong, Zone, Drop, Add, Del, Find, Deps, Repair, Page, Hold, Release, Clock, Call, Got, Broke, Quit}
use Rattle.sipl_lines.specs.DrawsField.{draws_of}
use Rattle.sipl_lines.specs.declared.command.CommandWord.{CommandWord}
use Rattle.sipl_lines.specs.declared.command.CommandWord.TheVariants as command

-- the first word of a command's line
abbrev pub text_of_word : CommandWord → Octets
text_of_word command.Zone = codes "zone"
text_of_word command.Drop = codes "drop"
text_of_word command.Add = codes "add"
text_of_word command.Del = codes "del"
text_of_word command.Find = codes "find"
text_of_word command.Deps = codes "deps"
text_of_word command.Repair = codes "repair"
text_of_word command.Page = codes "page"
text_of_word command.Hold = codes "hold"
text_of_word command.Release = codes "release"
text_of_word command.Clock = codes "clock"
text_of_word command.Call = codes "call"
text_of_word command.Got = codes "got"
text_of_word command.Broke = codes "broke"
text_of_word command.Quit = codes "quit"

-- whether this is the word
abbrev pub is_word : CommandWord → Octets → Bool
is_word named word = pointwise nat_eq word (text_of_word named)

-- the word and a space: how the line of a command with fields begins
abbrev pub word_start : CommandWord → Octets
word_start named = text_of_word named ++ codes " "

-- the words of the reply to such a command that is accepted
abbrev pub ok_words : CommandWord → Octets
ok_words named = codes "ok " ++ text_of_word named

-- the words of the reply that says where a fault is in what such a command takes
abbrev pub fault_words : CommandWord → Octets
fault_words named = codes "err " ++ text_of_word named

-- whether a word is that of a command that changes zones, holds or the time, repairs, or turns a page
abbrev pub needs_rights : Octets → Bool
needs_rights word =
    is_word command.Zone word || is_word command.Drop word || is_word command.Add word
    || is_word command.Del word || is_word command.Hold word || is_word command.Release word
    || is_word command.Clock word || is_word command.Repair word || is_word command.Page word

-- ---- requests

-- a request with its fields; a line without fields and a comment ask for nothing
pub data Request : Type 0 where
  nothing : Request
  unknown : Request
  too_long : Request
  zone : Octets → ℕ → Request
  drop : Octets → Request
  add : Octets → Request
  del : Octets → Request
  find : Octets → Result (List ℕ) DrawsFault → Request
  deps : Octets → Request
  repair : Request
  page : Request
  hold : Result Endpoint AddressFault → ℕ → Request
  release : Result Endpoint AddressFault → Request
  clock : ℕ → Request
  call : Kind → ℕ → Octets → Result (List ℕ) DrawsFault → Request
  got : ℕ → ℕ → Option ℕ → Request
  broke : Request
  quit : Request

-- the request of a command
abbrev pub meaning_of : Command → Request
meaning_of Nothing = nothing
meaning_of Unknown = unknown
meaning_of TooLong = too_long
meaning_of (Zone apex lines) = zone apex.now lines
meaning_of (Drop apex) = drop apex.now
meaning_of (Add text) = add text.now
meaning_of (Del text) = del text.now
meaning_of (Find uri draws) = find uri.now draws
meaning_of (Deps uri) = deps uri.now
meaning_of Repair = repair
meaning_of Page = page
meaning_of (Hold endpoint ms) = hold endpoint ms
meaning_of (Release endpoint) = release endpoint
meaning_of (Clock to) = clock to
meaning_of (Call kind base uri draws) = call kind base uri.now draws
meaning_of (Got attempt code retry_after) = got attempt code retry_after
meaning_of Broke = broke
meaning_of Quit = quit

-- the request of a command, if there is one
abbrev pub meaning_if_read : Option Command → Request
meaning_if_read command = meaning_of (unwrap_or command Unknown)

-- a comment begins with # as the first octet of its line
abbrev pub is_comment : Octets → Bool
is_comment [] = false
is_comment (c ∷ line) = c == 35

-- `zone APEX COUNT`: the lines of the zone's text, at most 2^20, follow
abbrev pub zone_request : List Octets → Request
zone_request (apex ∷ count ∷ []) =
    elim (number_of count 1048576) [ Some lines ↦ zone apex lines | None ↦ unknown ]
zone_request _ = unknown

-- `drop APEX`
abbrev pub drop_request : List Octets → Request
drop_request (apex ∷ []) = drop apex
drop_request _ = unknown

-- `add RECORD`: the record is the line from the first field after the command on
abbrev pub add_request : Octets → Request
add_request [] = unknown
add_request (c ∷ text) = add (c ∷ text)

-- `del RECORD`: the record is as with `add`
abbrev pub del_request : Octets → Request
del_request [] = unknown
del_request (c ∷ text) = del (c ∷ text)

-- `find URI`, and the fields that give the random words
abbrev pub find_request : List Octets → Request
find_request [] = unknown
find_request (uri ∷ others) =
    elim (draws_of others) [ Some draws ↦ find uri draws | None ↦ unknown ]

-- `deps URI`
abbrev pub deps_request : List Octets → Request
deps_request (uri ∷ []) = deps uri
deps_request _ = unknown

-- `repair`
abbrev pub repair_request : List Octets → Request
repair_request [] = repair
repair_request _ = unknown

-- `page`
abbrev pub page_request : List Octets → Request
page_request [] = page
page_request _ = unknown

-- the endpoint at an address, or the fault of the address's text
abbrev pub endpoint_at : Transport → Octets → ℕ → Result Endpoint AddressFault
endpoint_at transport text port =
    elim (address_of text) [
      | Some address ↦ Ok (record { transport = transport; address = address; port = port })
      | None ↦ Err BadAddress
    ]

-- the endpoint of a transport, an address and a port of 16 bits, if the first and the last are ones
abbrev pub endpoint_of : Option Transport → Octets → Option ℕ → Option (Result Endpoint AddressFault)
endpoint_of (Some transport) text (Some port) = Some (endpoint_at transport text port)
endpoint_of _ text _ = None

-- a hold, if its endpoint and milliseconds are ones
abbrev pub hold_of : Option (Result Endpoint AddressFault) → Option ℕ → Request
hold_of (Some endpoint) (Some ms) = hold endpoint ms
hold_of _ _ = unknown

-- `hold TRANSPORT ADDRESS PORT MS`: a port of 16 bits, and milliseconds of 64 bits
abbrev pub hold_request : List Octets → Request
hold_request (transport ∷ address ∷ port ∷ ms ∷ []) =
    hold_of (endpoint_of (transport_named transport) address (number_of port 65535))
    (number_of ms 18446744073709551615)
hold_request _ = unknown

-- a release, if its endpoint is one
abbrev pub release_of : Option (Result Endpoint AddressFault) → Request
release_of (Some endpoint) = release endpoint
release_of None = unknown

-- `release TRANSPORT ADDRESS PORT`: a port of 16 bits
abbrev pub release_request : List Octets → Request
release_request (transport ∷ address ∷ port ∷ []) =
    release_of (endpoint_of (transport_named transport) address (number_of port 65535))
release_request _ = unknown

-- `clock MS`: milliseconds of 64 bits
abbrev pub clock_request : List Octets → Request
clock_request (ms ∷ []) =
    elim (number_of ms 18446744073709551615) [ Some to ↦ clock to | None ↦ unknown ]
clock_request _ = unknown

-- the kind of a request: `invite` or `other`
abbrev pub kind_named : Octets → Option Kind
kind_named word =
    if pointwise nat_eq word (codes "invite") then Some Invite
    else (if pointwise nat_eq word (codes "other") then Some Other else None)

-- a call, if its kind, base and random words are ones
abbrev pub call_of : Option Kind → Option ℕ → Octets → Option (Result (List ℕ) DrawsFault) → Request
call_of (Some kind) (Some base) uri (Some draws) = call kind base uri draws
call_of _ _ uri _ = unknown

-- `call invite|other BASE URI`, and the fields that give the random words: a base of 64 bits
abbrev pub call_request : List Octets → Request
call_request (kind ∷ base ∷ uri ∷ others) =
    call_of (kind_named kind) (number_of base 18446744073709551615) uri (draws_of others)
call_request _ = unknown

-- `retry SECONDS`, or nothing: seconds of 32 bits
abbrev pub retry_of : List Octets → Option (Option ℕ)
retry_of [] = Some None
retry_of (word ∷ seconds ∷ []) =
    if pointwise nat_eq word (codes "retry") then option_map Some (number_of seconds 4294967295)
    else None
retry_of _ = None

-- a response, if its attempt, code and seconds are ones
abbrev pub got_of : Option ℕ → Option ℕ → Option (Option ℕ) → Request
got_of (Some attempt) (Some code) (Some retry) = got attempt code retry
got_of _ _ _ = unknown

-- `got ATTEMPT CODE`, and `retry SECONDS`: an attempt of 32 bits, and a code of 16 bits
abbrev pub got_request : List Octets → Request
got_request (attempt ∷ code ∷ others) =
    got_of (number_of attempt 4294967295) (number_of code 65535) (retry_of others)
got_request _ = unknown

-- `broke`
abbrev pub broke_request : List Octets → Request
broke_request [] = broke
broke_request _ = unknown

-- `quit`
abbrev pub quit_request : List Octets → Request
quit_request [] = quit
quit_request _ = unknown

-- what the command word asks for, with the fields after it, or the rest of the line for a record
abbrev pub command_request : Octets → List Octets → Octets → Request
command_request word others text =
    if is_word command.Zone word then zone_request others
    else (if is_word command.Drop word then drop_request others
    else (if is_word command.Add word then add_request text
    else (if is_word command.Del word then del_request text
    else (if is_word command.Find word then find_request others
    else (if is_word command.Deps word then deps_request others
    else (if is_word command.Repair word then repair_request others
    else (if is_word command.Page word then page_request others
    else (if is_word command.Hold word then hold_request others
    else (if is_word command.Release word then release_request others
    else (if is_word command.Clock word then clock_request others
    else (if is_word command.Call word then call_request others
    else (if is_word command.Got word then got_request others
    else (if is_word command.Broke word then broke_request others
    else (if is_word command.Quit word then quit_request others else unknown))))))))))))))

-- what the fields of a line ask for
abbrev pub fields_request : List Octets → Octets → Request
fields_request [] line = nothing
fields_request (word ∷ others) line =
    command_request word others (trim_start (after_field line))

-- what a line asks for: one of more than 65,536 octets is too long, a comment too
abbrev pub request_of : Octets → Request
request_of line =
    if nat_lt 65536 (length line) then too_long
    else (if is_comment line then nothing else fields_request (fields_of line) line)
