-- What a request asks for: the table of methods, paths, conditions and parameters.
use Rattle.std.specs.Prelude.{◌≡◌, ℕ, ◌⊎◌, Bool, true, false, not, ◌&&◌, ◌||◌, List, length, take, drop, Option, Some, None, Result, Ok, Err, is_some, slice_index, nat_le, nat_lt, ◌==◌, bytes_eq, codes, if◌then◌else◌}
use Rattle.ens_base.specs.declared.command.Command.{Command}
use Rattle.ens_base.specs.declared.command.Command.TheVariants.{Get as GetValue, PutOnce, Update, Append, Add, Swap, Over, Delete as DeleteValue}
use Rattle.ens_base.specs.declared.epoch.Version.{Version}
use Rattle.http1.specs.Fields.{Header}
use Rattle.http_calls.specs.declared.call.Asked.{Asked}
use Rattle.http_calls.specs.declared.call.Asked.TheVariants as Asks
use Rattle.http_calls.specs.declared.call.Call.{Call}
use Rattle.http_calls.specs.declared.condition.Condition.{Condition}
use Rattle.http_calls.specs.declared.condition.Condition.TheVariants.{Always, IfMatch, IfAbsent, IfNoneMatch}
use Rattle.http_calls.specs.declared.method.Method.{Method}
use Rattle.http_calls.specs.declared.method.Method.TheVariants.{Get, Head, Put, Delete, Post, Other}
use Rattle.http_calls.specs.declared.page.Page.{Page}
use Rattle.http_calls.specs.declared.page.Page.TheVariants as Pages
use Rattle.http_calls.specs.declared.problem.Allowed.TheVariants as Allow
use Rattle.http_calls.specs.declared.problem.CallError.{CallError}
use Rattle.http_calls.specs.declared.problem.CallError.TheVariants.{Refused}
use Rattle.http_calls.specs.declared.problem.Problem.{Problem}
use Rattle.http_calls.specs.declared.problem.Problem.TheVariants.{BadTarget, BadParameter, BadNumber, BadBody, UnknownPath, UnknownMethod, UnknownCondition}
use Rattle.http_calls.specs.Conditions.{condition_of}
use Rattle.http_calls.specs.Hosts.{IsTaken, IsRefused}
use Rattle.http_calls.specs.Methods.{is_unknown, is_write}
use Rattle.http_calls.specs.Outcomes.{◌>>=◌, Gives}
use Rattle.http_calls.specs.Pages.{page_of, page_methods, allows}
use Rattle.http_calls.specs.Targets.{path_of, query_of, key_of, value_of, escaped_value, number_of}

-- a number of seconds from 1 to 60
abbrev pub seconds_of : Option ℕ → Result (Option ℕ) Problem
seconds_of None = Err BadParameter
seconds_of (Some n) = if nat_le 1 n && nat_le n 60 then Ok (Some n) else Err BadParameter

abbrev pub is_get : Method → Bool
is_get Get = true
is_get Head = false
is_get Put = false
is_get Delete = false
is_get Post = false
is_get Other = false

-- a GET of a value whose stamp is known may wait: `?wait=SECONDS`
abbrev pub wait_of : Method → Option Version → Option (List ℕ) → Result (Option ℕ) Problem
wait_of method known None = Ok None
wait_of method known (Some query) =
    if (not (is_get method) || not (is_some known)) || (nat_lt (length query) 5 || not (bytes_eq (take 5 query) (codes "wait=")))
    then Err BadParameter else seconds_of (number_of (drop 5 query))

-- the stamp that the client of a read knows: `If-None-Match: "STAMP"`
abbrev pub known_of : Condition → Result (Option Version) Problem
known_of Always = Ok None
known_of (IfNoneMatch v) = Ok (Some v)
known_of (IfMatch v) = Err UnknownCondition
known_of IfAbsent = Err UnknownCondition

-- GET and HEAD read: what the client knows, and for how long it waits
abbrev pub get_of : Method → Condition → Option (List ℕ) → List ℕ → Result (Option Version × Option ℕ) Problem
get_of method condition query body = if not (length body == 0) then Err BadBody else (do
  known ← known_of condition
  wait ← wait_of method known query
  Ok (known, wait))

-- PUT writes the body: whatever there is, if there is nothing, or if the value has the stamp
abbrev pub put_at : Condition → List ℕ → Result Command Problem
put_at Always body = do
  value ← value_of body
  Ok (Over value)
put_at IfAbsent body = do
  value ← value_of body
  Ok (PutOnce value)
put_at (IfMatch v) body = do
  value ← value_of body
  Ok (Update v value)
put_at (IfNoneMatch v) body = Err UnknownCondition

abbrev pub put_of : Condition → Option (List ℕ) → List ℕ → Result Command Problem
put_of condition None body = put_at condition body
put_of condition (Some query) body = Err BadParameter

-- DELETE has no condition
abbrev pub delete_at : Condition → Result Command Problem
delete_at Always = Ok DeleteValue
delete_at (IfMatch v) = Err UnknownCondition
delete_at IfAbsent = Err UnknownCondition
delete_at (IfNoneMatch v) = Err UnknownCondition

abbrev pub delete_of : Condition → Option (List ℕ) → List ℕ → Result Command Problem
delete_of condition None body = if length body == 0 then delete_at condition else Err BadBody
delete_of condition (Some query) body = Err BadParameter

abbrev pub add_of : Option ℕ → Result Command Problem
add_of None = Err BadNumber
add_of (Some n) = Ok (Add n)

abbrev pub swap_of : List ℕ → List ℕ → Result Command Problem
swap_of query body =
    if nat_lt (length query) 12 || not (bytes_eq (take 12 query) (codes "do=swap&old=")) then Err BadParameter else (do
      old ← escaped_value (drop 12 query)
      value ← value_of body
      Ok (Swap old value))

-- POST names its command: `?do=append`, `?do=add` or `?do=swap&old=ESCAPED`
abbrev pub post_of : Option (List ℕ) → List ℕ → Result Command Problem
post_of None body = Err BadParameter
post_of (Some query) body =
    if bytes_eq query (codes "do=append") then (do
      value ← value_of body
      Ok (Append value))
    else (if bytes_eq query (codes "do=add") then add_of (number_of body) else swap_of query body)

abbrev pub post_at : Condition → Option (List ℕ) → List ℕ → Result Command Problem
post_at Always query body = post_of query body
post_at (IfMatch v) query body = Err UnknownCondition
post_at IfAbsent query body = Err UnknownCondition
post_at (IfNoneMatch v) query body = Err UnknownCondition

-- the command of a method that writes
abbrev pub command_of : Method → Condition → Option (List ℕ) → List ℕ → Result Command Problem
command_of Put condition query body = put_of condition query body
command_of Delete condition query body = delete_of condition query body
command_of Post condition query body = post_at condition query body
command_of Get condition query body = Err (UnknownMethod Allow.Keys)
command_of Head condition query body = Err (UnknownMethod Allow.Keys)
command_of Other condition query body = Err (UnknownMethod Allow.Keys)

-- the call of a key: a write, or a read
abbrev pub call_of : List ℕ → Method → Condition → Option (List ℕ) → List ℕ → Result Call Problem
call_of segment method condition query body = if is_write method then (do
  key ← key_of segment
  command ← command_of method condition query body
  Ok (record { key = key; command = command; known = None; wait = None })) else (do
    asks ← get_of method condition query body
    key ← key_of segment
    Ok (record { key = key; command = GetValue; known = asks.0; wait = asks.1 }))

abbrev pub is_list : Page → Bool
is_list Pages.Home = false
is_list Pages.List = true
is_list Pages.Status = false
is_list Pages.Metrics = false
is_list Pages.Health = false
is_list Pages.Ready = false
is_list Pages.Backup = false
is_list Pages.Members = false
is_list Pages.Stop = false

-- a page, by its methods; only the list of keys has parameters
abbrev pub asked_page : Page → Method → Bool → Result Page Problem
asked_page page method has_query =
    if not (allows (page_methods page) method) then Err (UnknownMethod (page_methods page))
    else (if has_query && not (is_list page) then Err BadParameter else Ok page)

-- what follows `/v1/keys/`
abbrev pub key_segment : List ℕ → Option (List ℕ)
key_segment path = if nat_lt (length path) 9 || not (bytes_eq (take 9 path) (codes "/v1/keys/")) then None else Some (drop 9 path)

abbrev pub begins_with_slash : List ℕ → Bool
begins_with_slash path = nat_lt 0 (length path) && (slice_index path 0 == 47)

-- why a path that is neither a page nor a key is refused
abbrev pub path_problem : List ℕ → Method → Problem
path_problem path method =
    if is_unknown method then UnknownMethod Allow.Keys else (if begins_with_slash path then UnknownPath else BadTarget)

abbrev pub asked_key : Option (List ℕ) → Method → List ℕ → List Header → List ℕ → Result Asked Problem
asked_key None method target fields body = Err (path_problem (path_of target) method)
asked_key (Some segment) method target fields body = do
  condition ← condition_of fields
  call ← call_of segment method condition (query_of target) body
  Ok (Asks.Call call)

abbrev pub asked_at : Option Page → Method → List ℕ → List Header → List ℕ → Result Asked Problem
asked_at (Some page) method target fields body = do
  found ← asked_page page method (is_some (query_of target))
  Ok (Asks.Page found)
asked_at None method target fields body = asked_key (key_segment (path_of target)) method target fields body

-- What a request asks for, or its first problem.
abbrev pub asked_by : Method → List ℕ → List Header → List ℕ → Result Asked Problem
asked_by method target fields body = asked_at (page_of (path_of target)) method target fields body

-- what is read of a request: of a sender that is not welcome nothing
abbrev pub Reads : List (List ℕ) → Method → List ℕ → List Header → List ℕ → Result Asked CallError → Type 0
Reads names method target fields body result =
    (IsTaken names method fields × Gives (asked_by method target fields body) result)
    ⊎ ((p : Problem) × IsRefused p names method fields × (result ≡ Err (Refused p)))
