-- What a line of a script asks for.
use Rattle.std.specs.Prelude.{ℕ, zero, suc, List, [], ◌∷◌, Option, None, Some, Result, codes, nat_eq, nat_lt, length, if◌then◌else◌}
use lib.Pointwise.{pointwise}
use Rattle.sipl_records.specs.Fields.{fields_of}
use Rattle.sipl_records.specs.Numbers.{number_of}
use Rattle.sipl_srv.specs.declared.fault.DrawsFault.{DrawsFault}
use Rattle.sipl_names.specs.Labels.{Octets}
use Rattle.sipl_lines.specs.DrawsField.{draws_of}
use Rattle.sipl_lines.specs.Requests.{Request, request_of, too_long, unknown}

-- a request with its fields as they are in the line: that of a session's line, or a step that a session
-- does not have
pub data ScriptRequest : Type 0 where
  session : Request → ScriptRequest
  hand : Octets → Result (List ℕ) DrawsFault → ScriptRequest
  start : ℕ → Octets → ScriptRequest
  read : ℕ → ScriptRequest
  commit : ℕ → Result (List ℕ) DrawsFault → ScriptRequest
  lease : ℕ → ScriptRequest
  settle : ℕ → ScriptRequest
  abandon : ℕ → ScriptRequest
  forget : Octets → ScriptRequest

-- an unknown line
abbrev pub unknown_line : ScriptRequest
unknown_line = session unknown

-- the number of a worker, of 64 bits, if it is one
abbrev pub worker_of : Octets → Option ℕ
worker_of text = number_of text 18446744073709551615

-- the number of a worker, if it is the only field
abbrev pub only_worker : List Octets → Option ℕ
only_worker (text ∷ []) = worker_of text
only_worker _ = None

-- a step of the worker whose number is the only field
abbrev pub worker_request : (ℕ → ScriptRequest) → List Octets → ScriptRequest
worker_request step others =
    elim (only_worker others) [ Some w ↦ step w | None ↦ unknown_line ]

-- `hand URI`, and the fields that give the random words
abbrev pub hand_request : List Octets → ScriptRequest
hand_request [] = unknown_line
hand_request (uri ∷ others) =
    elim (draws_of others) [ Some draws ↦ hand uri draws | None ↦ unknown_line ]

-- `start W URI`
abbrev pub start_request : List Octets → ScriptRequest
start_request (text ∷ uri ∷ []) =
    elim (worker_of text) [ Some w ↦ start w uri | None ↦ unknown_line ]
start_request _ = unknown_line

-- a commit, if its worker is a number and its words are words
abbrev pub commit_of : Option ℕ → Option (Result (List ℕ) DrawsFault) → ScriptRequest
commit_of (Some w) (Some draws) = commit w draws
commit_of _ _ = unknown_line

-- `commit W`, and the fields that give the random words
abbrev pub commit_request : List Octets → ScriptRequest
commit_request [] = unknown_line
commit_request (text ∷ others) = commit_of (worker_of text) (draws_of others)

-- `forget URI`
abbrev pub forget_request : List Octets → ScriptRequest
forget_request (uri ∷ []) = forget uri
forget_request _ = unknown_line

-- what the command word asks for, with the fields after it, where a line of a session asks for this
abbrev pub step_request : Octets → List Octets → Request → ScriptRequest
step_request word others request =
    if pointwise nat_eq word (codes "hand") then hand_request others
    else (if pointwise nat_eq word (codes "start") then start_request others
    else (if pointwise nat_eq word (codes "read") then worker_request read others
    else (if pointwise nat_eq word (codes "commit") then commit_request others
    else (if pointwise nat_eq word (codes "lease") then worker_request lease others
    else (if pointwise nat_eq word (codes "settle") then worker_request settle others
    else (if pointwise nat_eq word (codes "abandon") then worker_request abandon others
    else (if pointwise nat_eq word (codes "forget") then forget_request others
    else session request)))))))

-- what the fields of a line ask for
abbrev pub fields_step_request : List Octets → Request → ScriptRequest
fields_step_request [] request = session request
fields_step_request (word ∷ others) request = step_request word others request

-- what a line of a script asks for, once there is a world
abbrev pub script_request_of : Octets → ScriptRequest
script_request_of line =
    if nat_lt 65536 (length line) then session too_long
    else fields_step_request (fields_of line) (request_of line)

-- from 1 to 64 workers
abbrev pub some_workers : Option ℕ → Option ℕ
some_workers None = None
some_workers (Some zero) = None
some_workers (Some (suc n)) = Some (suc n)

-- `workers COUNT`
abbrev pub workers_of : List Octets → Option ℕ
workers_of (word ∷ count ∷ []) =
    if pointwise nat_eq word (codes "workers") then some_workers (number_of count 64) else None
workers_of _ = None

-- how many workers the first line of a script asks for
abbrev pub workers_in : Octets → Option ℕ
workers_in line = if nat_lt 65536 (length line) then None else workers_of (fields_of line)
