-- Requests as a program sees them, and the streams that they come in.
use Rattle.std.specs.Prelude.{◌≡◌, ℕ, ◌≤◌, List, [], ◌∷◌, ◌++◌, length, map, IsTrue}
use Rattle.httparse.specs.Grammar.{RequestHead}
use Rattle.httparse.specs.Spans.{name_and_value}
use Rattle.http1.specs.declared.framing.Framing.{Framing}
use Rattle.http1.specs.Fields.{Header}
use Rattle.http1.specs.Message as Wire
use Rattle.http1.specs.Message.{known_of, AcceptsRequest, ReadsRequestMessage}
use Rattle.http1.specs.Server.{request_of}
use Rattle.http_exchange.specs.declared.limits.TheConstants.{LIMITS, MAX_BODY}

-- what a program sees of a request: the method, the target, the fields in their order, and the body without its framing
pub record RequestParts : Type 0 where
  pub method : List ℕ
  pub target : List ℕ
  pub fields : List Header
  pub body : List ℕ

abbrev pub parts_of : Wire.Request → RequestParts
parts_of m = record { method = m.head.method; target = m.head.target; fields = map name_and_value m.head.fields; body = m.body.bytes }

-- the stream begins with this request, which is within the limits and has no coding but chunked, and the rest follows it
pub record BeginsWith (stream : List ℕ) (r : RequestParts) (rest : List ℕ) : Type 0 where
  pub message : Wire.Request
  pub reads : ReadsRequestMessage LIMITS stream message rest
  pub parts : r ≡ parts_of message
  pub short : length r.body ≤ MAX_BODY

-- the stream is these requests, one after another, and then the rest
abbrev pub BeginsWithAll : List ℕ → List RequestParts → List ℕ → Type 0
BeginsWithAll stream [] rest = stream ≡ rest
BeginsWithAll stream (r ∷ rs) rest = (after : List ℕ) × BeginsWith stream r after × BeginsWithAll after rs rest

-- the stream begins with no whole request
abbrev pub HasNoRequest : List ℕ → Type 0
HasNoRequest stream = (m : Wire.Request) (rest : List ℕ) → ¬ (ReadsRequestMessage LIMITS stream m rest)

-- whatever bytes follow, a request that begins the stream is such
abbrev pub NextIs : List ℕ → (Wire.Request → Type 0) → Type 0
NextIs stream P = (more : List ℕ) (m : Wire.Request) (rest : List ℕ) → ReadsRequestMessage LIMITS (stream ++ more) m rest → P m

-- the stream is a head whose sender waits for 100 Continue, and nothing more
abbrev pub AwaitsContinue : List ℕ → Type 0
AwaitsContinue stream =
    (h : RequestHead) × (framing : Framing) × AcceptsRequest LIMITS stream h framing []
    × IsTrue (request_of h framing).expects_continue
