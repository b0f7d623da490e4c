-- What the calls on a connection do to the stream that it receives.
use Rattle.std.specs.Prelude.{◌≡◌, ℕ, List, [], ◌∷◌, ◌++◌}
use Rattle.http_exchange.specs.Requests.{RequestParts, BeginsWith}

-- a call that received these bytes, one that handed out this request, or any other
pub data Act : Type 0 where
  Receive : List ℕ → Act
  Take : RequestParts → Act
  Other : Act

-- the unread bytes before and after the acts, as the clauses of the calls give them
abbrev pub IsRun : List ℕ → List Act → List ℕ → Type 0
IsRun unread [] after = unread ≡ after
IsRun unread (Receive more ∷ acts) after = IsRun (unread ++ more) acts after
IsRun unread (Take r ∷ acts) after = (rest : List ℕ) × BeginsWith unread r rest × IsRun rest acts after
IsRun unread (Other ∷ acts) after = IsRun unread acts after

-- all that was received, in order
abbrev pub stream_of : List Act → List ℕ
stream_of [] = []
stream_of (Receive more ∷ acts) = more ++ stream_of acts
stream_of (Take r ∷ acts) = stream_of acts
stream_of (Other ∷ acts) = stream_of acts

-- the requests that were handed out, in order
abbrev pub requests_of : List Act → List RequestParts
requests_of [] = []
requests_of (Receive more ∷ acts) = requests_of acts
requests_of (Take r ∷ acts) = r ∷ requests_of acts
requests_of (Other ∷ acts) = requests_of acts
