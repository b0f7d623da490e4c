-- The table of answers.
use Rattle.std.specs.Prelude.{ℕ, Bool, false, List, [], ◌∷◌, ◌++◌, map, Option, Some, None, codes, ◌==◌, if◌then◌else◌}
use Rattle.std.specs.Fmt.{decimal}
use Rattle.ens_base.specs.declared.command.Command.{Command}
use Rattle.ens_base.specs.declared.command.Command.TheVariants.{Get, PutOnce, Update, Append, Add, Swap, Over, Delete}
use Rattle.ens_base.specs.declared.epoch.Version.{Version}
use Rattle.ens_base.specs.declared.reply.Reply.{Reply}
use Rattle.ens_base.specs.declared.reply.Reply.TheVariants.{Value, NotFound, Ok, Failed, Unavailable, Busy, Lost, Timeout}
use Rattle.ens_base.specs.Epochs.{same_version}
use Rattle.http1.specs.Fields.{Header}
use Rattle.http_calls.specs.declared.answer.Answer.{Answer}
use Rattle.http_calls.specs.declared.answer.Field.{Field}
use Rattle.http_calls.specs.declared.answer.Leader.{Leader}
use Rattle.http_calls.specs.declared.call.Call.{Call}
use Rattle.http_calls.specs.declared.problem.Problem.{Problem}
use Rattle.http_calls.specs.declared.problem.Problem.TheVariants.{UnknownMethod, Late, Silent}
use Rattle.http_calls.specs.Problems.{problem_status, problem_text, allowed_methods}
use Rattle.http_calls.specs.Stamps.{tag_text}

-- what a client sees of an answer
pub record Answered : Type 0 where
  pub status : ℕ
  pub fields : List Header
  pub body : List ℕ

abbrev pub field_parts : Field → Header
field_parts f = (f.name.now, f.value)

abbrev pub seen_answer : Answer → Answered
seen_answer a = record { status = a.status; fields = map field_parts a.fields.items; body = a.body }

-- the reason phrase of a status (RFC 9110, section 15)
abbrev pub reason_of : ℕ → List ℕ
reason_of status =
    if status == 200 then codes "OK"
    else (if status == 201 then codes "Created"
    else (if status == 204 then codes "No Content"
    else (if status == 304 then codes "Not Modified"
    else (if status == 307 then codes "Temporary Redirect"
    else (if status == 400 then codes "Bad Request"
    else (if status == 403 then codes "Forbidden"
    else (if status == 404 then codes "Not Found"
    else (if status == 405 then codes "Method Not Allowed"
    else (if status == 409 then codes "Conflict"
    else (if status == 412 then codes "Precondition Failed"
    else (if status == 413 then codes "Content Too Large"
    else (if status == 421 then codes "Misdirected Request"
    else (if status == 500 then codes "Internal Server Error"
    else (if status == 501 then codes "Not Implemented"
    else (if status == 503 then codes "Service Unavailable"
    else (if status == 504 then codes "Gateway Timeout"
    else (if status == 507 then codes "Insufficient Storage" else [])))))))))))))))))

-- ensemble-reply: the word of the reply
abbrev pub reply_field : List ℕ → Header
reply_field word = (codes "ensemble-reply", word)

-- etag: the stamp
abbrev pub tag_field : Version → Header
tag_field v = (codes "etag", tag_text v)

abbrev pub bytes_field : Header
bytes_field = (codes "content-type", codes "application/octet-stream")

abbrev pub text_field : Header
text_field = (codes "content-type", codes "text/plain")

abbrev pub retry_field : Header
retry_field = (codes "retry-after", codes "1")

-- ensemble-leader: its number
abbrev pub leader_field : ℕ → Header
leader_field peer = (codes "ensemble-leader", decimal peer)

abbrev pub location_field : List ℕ → List ℕ → Header
location_field url target = (codes "location", url ++ target)

-- a value: 200, or 304 where the client knows it
abbrev pub is_known : Option Version → Version → Bool
is_known None v = false
is_known (Some known) v = same_version known v

abbrev pub value_answer : Option Version → Version → List ℕ → Answered
value_answer known v value =
    if is_known known v
    then record { status = 304; fields = reply_field (codes "value") ∷ tag_field v ∷ []; body = [] }
    else record { status = 200; fields = reply_field (codes "value") ∷ tag_field v ∷ bytes_field ∷ []; body = value }

-- the status of a write that took effect: a first value is 201, a change by POST 200, else 204
abbrev pub done_status : Command → ℕ
done_status Get = 200
done_status (PutOnce value) = 201
done_status (Update v value) = 204
done_status (Append value) = 200
done_status (Add n) = 200
done_status (Swap old value) = 200
done_status (Over value) = 204
done_status Delete = 204

-- a write that took effect, with the stamp that it left
abbrev pub done_answer : Command → Version → Answered
done_answer command v =
    record { status = done_status command; fields = reply_field (codes "ok") ∷ tag_field v ∷ []; body = [] }

-- the status of a command that did not apply: 412 where a field stated its condition, else 409
abbrev pub failed_status : Command → ℕ
failed_status Get = 409
failed_status (PutOnce value) = 412
failed_status (Update v value) = 412
failed_status (Append value) = 409
failed_status (Add n) = 409
failed_status (Swap old value) = 409
failed_status (Over value) = 409
failed_status Delete = 409

-- no effect, and a retry may help
abbrev pub busy_answer : List ℕ → Answered
busy_answer word = record { status = 503; fields = reply_field word ∷ retry_field ∷ []; body = [] }

-- nobody knows whether the call took effect
abbrev pub silent_answer : Answered
silent_answer = record { status = 504; fields = reply_field (codes "timeout") ∷ text_field ∷ []; body = problem_text Silent }

abbrev pub at_leader : List ℕ → ℕ → Option (List ℕ) → Answered
at_leader target peer None =
    record { status = 503; fields = reply_field (codes "unavailable") ∷ leader_field peer ∷ retry_field ∷ []; body = [] }
at_leader target peer (Some url) =
    record { status = 307; fields = reply_field (codes "unavailable") ∷ leader_field peer ∷ location_field url target ∷ []; body = [] }

-- this peer does not lead: 307 to the leader where its address is known, else 503
abbrev pub elsewhere : List ℕ → Option Leader → Answered
elsewhere target None = busy_answer (codes "unavailable")
elsewhere target (Some leader) = at_leader target leader.peer leader.url

-- The table: the answer to each reply.
abbrev pub answer_of : Call → List ℕ → Reply → Option Leader → Answered
answer_of call target (Value v value) leader = value_answer call.known v value
answer_of call target NotFound leader = record { status = 404; fields = reply_field (codes "notfound") ∷ []; body = [] }
answer_of call target (Ok v) leader = done_answer call.command v
answer_of call target Failed leader =
    record { status = failed_status call.command; fields = reply_field (codes "failed") ∷ []; body = [] }
answer_of call target Unavailable leader = elsewhere target leader
answer_of call target Busy leader = busy_answer (codes "busy")
answer_of call target Lost leader = record { status = 500; fields = reply_field (codes "lost") ∷ []; body = [] }
answer_of call target Timeout leader = silent_answer

-- the word of an answer that no reply stands behind: only of a silent call is it unknown whether it took effect
abbrev pub problem_word : Problem → List ℕ
problem_word Silent = codes "timeout"
problem_word other = codes "refused"

-- what goes beside the word and the type
abbrev pub problem_fields : Problem → List Header
problem_fields (UnknownMethod allowed) = (codes "allow", allowed_methods allowed) ∷ []
problem_fields Late = retry_field ∷ []
problem_fields other = []

-- the answer to each problem
abbrev pub problem_answer : Problem → Answered
problem_answer p = record {
  status = problem_status p;
  fields = reply_field (problem_word p) ∷ text_field ∷ problem_fields p;
  body = problem_text p;
}
