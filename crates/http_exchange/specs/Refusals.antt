-- Why a connection ends with an error of its own, and what it answers.
use Rattle.std.specs.Prelude.{ℕ, ◌<◌, ◌⊎◌, List, ◌++◌, length, codes, if◌then◌else◌, IsTrue}
use Rattle.httparse.specs.Ascii.{crlf_bytes}
use Rattle.httparse.specs.Grammar.{RequestHead}
use Rattle.http1.specs.declared.error.ReadError.{ReadError}
use Rattle.http1.specs.declared.error.ReadError.TheVariants.{UriTooLong}
use Rattle.http1.specs.declared.framing.Framing.{Framing}
use Rattle.http1.specs.Message as Wire
use Rattle.http1.specs.Message.{known_of, AcceptsRequest}
use Rattle.http1.specs.ReadError.{RequestError, is_too_large}
use Rattle.http_exchange.specs.declared.limits.TheConstants.{LIMITS, MAX_BODY, MAX_FIELDS, MAX_TEXT}
use Rattle.http_exchange.specs.declared.refusal.Refusal.{Refusal}
use Rattle.http_exchange.specs.declared.refusal.Refusal.TheVariants.{Unreadable, BodyTooLong, TextTooLong, UnknownCoding, InvalidAnswer}
use Rattle.http_exchange.specs.Requests.{HasNoRequest, NextIs}

-- the status and the reason for what cannot be read
abbrev pub read_status : ReadError → List ℕ
read_status UriTooLong = codes "414 URI Too Long"
read_status e = if is_too_large e then codes "431 Request Header Fields Too Large" else codes "400 Bad Request"

-- the status and the reason of each refusal
abbrev pub refusal_status : Refusal → List ℕ
refusal_status (Unreadable e) = read_status e
refusal_status BodyTooLong = codes "413 Content Too Large"
refusal_status TextTooLong = codes "413 Content Too Large"
refusal_status UnknownCoding = codes "501 Not Implemented"
refusal_status (InvalidAnswer e) = codes "500 Internal Server Error"

-- the answer with this status, which has no body and says that the connection ends
abbrev pub refusal_text : Refusal → List ℕ
refusal_text why =
    codes "HTTP/1.1 " ++ refusal_status why ++ crlf_bytes
    ++ codes "connection: close" ++ crlf_bytes ++ codes "content-length: 0" ++ crlf_bytes ++ crlf_bytes

-- the message has more header fields or trailers than there is room for
abbrev pub HasTooManyFields : Wire.Request → Type 0
HasTooManyFields m = (MAX_FIELDS < length m.head.fields) ⊎ (MAX_FIELDS < length m.body.trailers)

-- the error is what the parser says of the bytes, unless it lies in the body of a head that was accepted
abbrev pub IsReadError : List ℕ → ReadError → Type 0
IsReadError stream e =
    RequestError LIMITS.max_head_len stream MAX_FIELDS e
    ⊎ ((h : RequestHead) × (framing : Framing) × (rest : List ℕ) × AcceptsRequest LIMITS stream h framing rest)

-- why a stream is refused: whatever bytes follow, it begins with no request that may be handed out
abbrev pub Justifies : List ℕ → Refusal → Type 0
Justifies stream (Unreadable e) = NextIs stream HasTooManyFields × IsReadError stream e
Justifies stream BodyTooLong = NextIs stream (λ m. MAX_BODY < length m.body.bytes)
Justifies stream TextTooLong = HasNoRequest stream × (MAX_TEXT < length stream)
Justifies stream UnknownCoding = NextIs stream (λ m. IsTrue (known_of m.head.fields).other_coding)
Justifies stream (InvalidAnswer e) = ⊥
