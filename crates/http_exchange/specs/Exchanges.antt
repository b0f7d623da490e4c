-- What each call does to a connection.
use Rattle.std.specs.Prelude.{◌≡◌, ℕ, ◌≤◌, ◌⊎◌, Bool, true, false, not, ◌&&◌, ◌==◌, List, [], ◌∷◌, ◌++◌, length, drop, Option, Some, None, Result, Ok, Err, if◌then◌else◌, codes}
use Rattle.httparse.specs.Ascii.{crlf_bytes}
use Rattle.http1.specs.declared.conn.BodySize.{BodySize}
use Rattle.http1.specs.declared.conn.BodySize.TheVariants.{Empty, Known}
use Rattle.http1.specs.declared.conn.Writing.{Writing}
use Rattle.http1.specs.declared.conn.Writing.TheVariants as Writes
use Rattle.http1.specs.declared.error.WriteError.{WriteError}
use Rattle.http1.specs.declared.server.Server.{Server}
use Rattle.http1.specs.Conn.{data_refusal, data_text, after_data, finish_refusal, finish_text}
use Rattle.http1.specs.Fields.{Header}
use Rattle.http1.specs.Framing.{method_kind}
use Rattle.http1.specs.Server.{is_head, writing, with_writing, after_end, response_refusal, planned_response, after_response}
use Rattle.http_exchange.specs.declared.limits.TheConstants.{MAX_TEXT}
use Rattle.http_exchange.specs.declared.refusal.Refusal.{Refusal}
use Rattle.http_exchange.specs.declared.refusal.Refusal.TheVariants.{InvalidAnswer}
use Rattle.http_exchange.specs.declared.stage.Stage.{Stage}
use Rattle.http_exchange.specs.declared.stage.Stage.TheVariants.{Open, Asked, Closed}
use Rattle.http_exchange.specs.Fronts.{asked_server}
use Rattle.http_exchange.specs.Refusals.{Justifies, refusal_text}
use Rattle.http_exchange.specs.Requests.{RequestParts, BeginsWith, HasNoRequest, AwaitsContinue}

-- what a caller can know of a connection: where it stands, what it received and has not handed out, and what it has to send
pub record Connection : Type 0 where
  pub stage : Stage
  pub unread : List ℕ
  pub pending : List ℕ

-- the sender sends no more: a connection with no request that waits is closed
abbrev pub ended : Stage → Stage
ended (Open invited) = Closed
ended (Asked server bodiless) = Asked server bodiless
ended Closed = Closed

-- the connection after these bytes came
abbrev pub received : Connection → List ℕ → Connection
received c [] = record c { stage = ended c.stage }
received c (byte ∷ more) = record c { unread = c.unread ++ byte ∷ more }

-- the connection after so many bytes were sent
abbrev pub sent : Connection → ℕ → Connection
sent c n = record c { pending = drop n c.pending }

-- the connection, ended by an error of its own
abbrev pub refused : Connection → Refusal → Connection
refused c why = record c { stage = Closed; pending = c.pending ++ refusal_text why }

abbrev pub closed_by : Connection → Connection
closed_by c = record c { stage = Closed }

abbrev pub is_open : Stage → Bool
is_open (Open invited) = true
is_open (Asked server bodiless) = false
is_open Closed = false

abbrev pub IsAsked : Stage → Type 0
IsAsked (Open invited) = ⊥
IsAsked (Asked server bodiless) = Unit {0}
IsAsked Closed = ⊥

-- a request may come, and nothing waits for being sent
abbrev pub WantsRead : Connection → Type 0
WantsRead c = (is_open c.stage ≡ true) × (c.pending ≡ [])

-- nothing is read any more, and nothing is to be sent
abbrev pub IsDone : Connection → Type 0
IsDone c = (c.stage ≡ Closed) × (c.pending ≡ [])

abbrev pub continue_text : List ℕ
continue_text = codes "HTTP/1.1 100 Continue" ++ crlf_bytes ++ crlf_bytes

-- the sender waits for 100 Continue, and got none yet
abbrev pub IsToInvite : Bool → List ℕ → Type 0
IsToInvite invited unread = (invited ≡ false) × AwaitsContinue unread

-- the next request is not whole: the sender is told to send its body where it waits for that
pub record Waits (invited : Bool) (old new : Connection) : Type 0 where
  pub none : HasNoRequest old.unread
  pub short : length old.unread ≤ MAX_TEXT
  pub next : (IsToInvite invited old.unread × (new ≡ record old { stage = Open true; pending = old.pending ++ continue_text }))
      ⊎ (¬ (IsToInvite invited old.unread) × (new ≡ old))

-- the next request was handed out: the unread bytes began with it, and now are those that follow it
pub record Takes (old : Connection) (r : RequestParts) (new : Connection) : Type 0 where
  pub begins : BeginsWith old.unread r new.unread
  pub stage : new.stage ≡ Asked (asked_server begins.message.head begins.reads.framing) (is_head (method_kind r.method))
  pub pending : new.pending ≡ old.pending

-- what came is refused
abbrev pub Refuses : Connection → Connection → Type 0
Refuses old new = (why : Refusal) × Justifies old.unread why × (new ≡ refused old why)

-- what `next` hands out, by where the connection stood
abbrev pub NextsAt : Stage → Connection → Connection → Option RequestParts → Type 0
NextsAt (Open invited) old new (Some r) = Takes old r new
NextsAt (Open invited) old new None = Waits invited old new ⊎ Refuses old new
NextsAt (Asked server bodiless) old new r = (r ≡ None) × (new ≡ old)
NextsAt Closed old new r = (r ≡ None) × (new ≡ old)

abbrev pub Nexts : Connection → Connection → Option RequestParts → Type 0
Nexts old = NextsAt old.stage old

-- the size that an answer states
abbrev pub size_of : List ℕ → BodySize
size_of body = if length body == 0 then Empty else Known (length body)

-- the text of an answer, and the server after it
pub record Written : Type 0 where
  pub text : List ℕ
  pub server : Server

-- a value, unless it is refused
abbrev pub unless : {T : Type 0} → Option WriteError → T → Result T WriteError
unless None x = Ok x
unless (Some e) x = Err e

abbrev pub then_unless : {T : Type 0} → Option WriteError → Result T WriteError → Result T WriteError
then_unless None x = x
then_unless (Some e) x = Err e

abbrev pub finish : Server → List ℕ → Result Written WriteError
finish s text =
    unless (finish_refusal (writing s) []) (record { text = text ++ finish_text (writing s) []; server = after_end s })

abbrev pub add_body : Bool → Server → List ℕ → List ℕ → Result Written WriteError
add_body false s body text = finish s text
add_body true s body text =
    then_unless (data_refusal (writing s) (length body))
    (finish (with_writing s (after_data (writing s) (length body))) (text ++ data_text (writing s) body))

-- An answer as the server writes it: the head, the body unless it is empty or goes without, and the end; or why it may not be sent.
abbrev pub answer_text : Server → Bool → ℕ → List ℕ → List Header → List ℕ → Result Written WriteError
answer_text s bodiless status reason headers body =
    then_unless (response_refusal s status reason (size_of body) headers)
    (add_body (not bodiless && not (length body == 0)) (after_response s status (size_of body) headers) body
    (planned_response s status reason (size_of body) headers))

-- a connection stays open unless the server closed it
abbrev pub stage_after : Writing → Stage
stage_after Writes.Head = Open false
stage_after (Writes.Body e) = Open false
stage_after Writes.Done = Open false
stage_after Writes.Upgraded = Open false
stage_after Writes.Closed = Closed

abbrev pub after_answer : Connection → Result Written WriteError → Connection
after_answer c (Ok w) = record c { stage = stage_after w.server.writing; pending = c.pending ++ w.text }
after_answer c (Err e) = refused c (InvalidAnswer e)

-- the connection after an answer, by where it stood
abbrev pub answered_at : Stage → Connection → ℕ → List ℕ → List Header → List ℕ → Connection
answered_at (Open invited) c status reason headers body = c
answered_at (Asked server bodiless) c status reason headers body =
    after_answer c (answer_text server bodiless status reason headers body)
answered_at Closed c status reason headers body = c

abbrev pub answered_by : Connection → ℕ → List ℕ → List Header → List ℕ → Connection
answered_by c = answered_at c.stage c
