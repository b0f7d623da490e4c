-- What is found at the front of a stream.
use Rattle.std.specs.Prelude.{◌≡◌, ◌≢◌, Bool, nat_lt, ℕ, ◌<◌, ◌≤◌, ◌↔◌, false, List, ◌++◌, length, drop, IsTrue}
use Rattle.httparse.specs.Grammar.{RequestHead}
use Rattle.http1.specs.declared.conn.Reading.TheVariants as Reads
use Rattle.http1.specs.declared.conn.Writing.TheVariants as Writes
use Rattle.http1.specs.declared.conn.BodySize.{BodySize}
use Rattle.http1.specs.declared.conn.BodySize.TheVariants.{Empty, Known, Unknown}
use Rattle.http1.specs.declared.decode.Decoder.{Decoder}
use Rattle.http1.specs.declared.decode.Decoder.TheVariants.{UntilClose}
use Rattle.http1.specs.declared.framing.Framing.{Framing}
use Rattle.http1.specs.declared.server.Server.{Server}
use Rattle.http1.specs.Body.{Body}
use Rattle.http1.specs.Decoder.{IsLive, Completes}
use Rattle.http1.specs.Framing.{method_kind}
use Rattle.http1.specs.Server.{request_of, is_head}
use Rattle.http_exchange.specs.declared.limits.TheConstants.{LIMITS, MAX_BODY, MAX_FIELDS}
use Rattle.http_exchange.specs.declared.front.Front.{Front}
use Rattle.http_exchange.specs.declared.front.Front.TheVariants as Found
use Rattle.http_exchange.specs.declared.front.Whole.{Whole}
use Rattle.http_exchange.specs.declared.front.Content.{Content}
use Rattle.http_exchange.specs.declared.front.Content.TheVariants as Contents
use Rattle.http_exchange.specs.declared.refusal.Refusal.{Refusal}
use Rattle.http_exchange.specs.declared.refusal.Refusal.TheVariants.{Unreadable, BodyTooLong}
use Rattle.http_exchange.specs.Refusals.{Justifies}
use Rattle.http_exchange.specs.Requests.{BeginsWith, HasNoRequest, AwaitsContinue}

-- the server once it has read a whole request with this head
abbrev pub asked_server : RequestHead → Framing → Server
asked_server h framing = record {
  limits = LIMITS;
  reading = Reads.Done;
  writing = Writes.Head;
  request = record (request_of h framing) { expects_continue = false };
}

-- the request at the front of the stream, and what its answer depends on
pub record IsWhole (stream : List ℕ) (w : Whole) : Type 0 where
  pub within : w.len ≤ length stream
  pub begins : BeginsWith stream w.request (drop w.len stream)
  pub server : w.server ≡ asked_server begins.message.head begins.reads.framing
  pub bodiless : w.bodiless ≡ is_head (method_kind w.request.method)

-- what the front of a stream is
abbrev pub IsFront : List ℕ → Front → Type 0
IsFront stream (Found.Whole w) = IsWhole stream w
IsFront stream (Found.Partial waits) = HasNoRequest stream × (IsTrue waits ↔ AwaitsContinue stream)
IsFront stream (Found.Refused why) = Justifies stream why

-- a body of this size is announced to be longer than the limit
abbrev pub is_long : BodySize → Bool
is_long Empty = false
is_long (Known len) = nat_lt MAX_BODY len
is_long Unknown = false

-- a body of this decoder begins the bytes
pub record HasContent (d : Decoder) (input content rest : List ℕ) : Type 0 where
  pub body : Body
  pub bytes : body.bytes ≡ content
  pub short : length content ≤ MAX_BODY
  pub completes : Completes d input body rest

-- whatever bytes follow, each body of this decoder is such
abbrev pub NextContentIs : Decoder → List ℕ → (Body → Type 0) → Type 0
NextContentIs d input P = (more : List ℕ) (b : Body) (rest : List ℕ) → Completes d (input ++ more) b rest → P b

-- why a body is refused
abbrev pub RefusesContent : Decoder → List ℕ → Refusal → Type 0
RefusesContent d input (Unreadable e) = NextContentIs d input (λ b. MAX_FIELDS < length b.trailers)
RefusesContent d input BodyTooLong = NextContentIs d input (λ b. MAX_BODY < length b.bytes)
RefusesContent d input why = ⊥

-- what a decoder finds at the front of the bytes that follow a head
abbrev pub FindsContent : Decoder → Server → List ℕ → Server → Content → Type 0
FindsContent d old input new (Contents.Whole body len) =
    HasContent d input body.items (drop len input)
    × (new ≡ record old { reading = Reads.Done; request = record (old.request) { expects_continue = false } })
FindsContent d old input new Contents.Partial = d ≢ UntilClose → (b : Body) (rest : List ℕ) → ¬ (Completes d input b rest)
FindsContent d old input new (Contents.Refused why) = RefusesContent d input why

-- the text of a body ends within the bytes
abbrev pub EndsWithin : List ℕ → Content → Type 0
EndsWithin input (Contents.Whole body len) = len ≤ length input
EndsWithin input Contents.Partial = Unit {0}
EndsWithin input (Contents.Refused why) = Unit {0}

-- the same, where the server waits for a body
abbrev pub IsContent : Server → List ℕ → Server → Content → Type 0
IsContent old input new content =
    (d : Decoder) → old.reading ≡ Reads.Body d → old.writing ≡ Writes.Head → IsLive d → FindsContent d old input new content
