-- A round: the leader asks each other member the same, and each replies the same.
use Rattle.std.specs.Prelude.{◌≡◌, ◌⊎◌, ℕ, Bool, true, List, Some, None, slice_get}
use Rattle.ens_base.specs.Lists.{◌∈◌}
use Rattle.ens_base.specs.PeerSet.{holds}
use Rattle.network.specs.Mail.{Mail, IsMail, settled, oldest, is_among}
use Rattle.world_refinement.specs.WorldSpec.{posted_all}
use Rattle.wire_frames.specs.declared.frame.Frame.{Frame}
use Rattle.wire_frames.specs.declared.message.Message.{Message}
use Rattle.calm_laws.proofs.Waits.{Waits}

-- what the leader asks, and what a member replies
pub record Round : Type 0 where
  pub leader : ℕ
  pub ask : Message
  pub reply : Message

abbrev pub request_to : Round → ℕ → Frame
request_to r q = record { from = r.leader; to = q; message = r.ask }

abbrev pub reply_of : Round → ℕ → Frame
reply_of r q = record { from = q; to = r.leader; message = r.reply }

-- the member is counted, or the request to it waits and it will reply, or its reply waits
abbrev pub IsUnderWay : Round → (ℕ → Bool) → Mail → (ℕ → Bool) → ℕ → Type 0
IsUnderWay r ready m votes q = (votes q ≡ true) ⊎ (((ready q ≡ true) × Waits m (request_to r q)) ⊎ Waits m (reply_of r q))

-- the first messages of a round
abbrev pub Begins : Type 0
Begins = (r : Round) (ready : ℕ → Bool) (fs : List Frame) (m : Mail) (votes : ℕ → Bool) (q : ℕ) → IsMail m → ready q ≡ true → (request_to r q ∈ fs) → IsUnderWay r ready (posted_all fs m) votes q

-- message n, which is g, is delivered, and these messages are sent then
abbrev pub Delivers : Type 0
Delivers = (r : Round) (ready still : ℕ → Bool) (m : Mail) (n : ℕ) (g : Frame) (fs : List Frame) (votes now : ℕ → Bool) (q : ℕ) → IsMail m → slice_get m.sent n ≡ Some g
    → (votes q ≡ true → now q ≡ true)
    → (ready q ≡ true → (still q ≡ true) ⊎ ((now q ≡ true) ⊎ (reply_of r q ∈ fs)))
    → (ready q ≡ true → g ≡ request_to r q → (now q ≡ true) ⊎ (reply_of r q ∈ fs))
    → (g ≡ reply_of r q → now q ≡ true)
    → IsUnderWay r ready m votes q → IsUnderWay r still (posted_all fs (settled m n)) now q

-- no message among these peers waits
abbrev pub Ends : Type 0
Ends = (r : Round) (ready : ℕ → Bool) (peers : List Bool) (m : Mail) (votes : ℕ → Bool) (q : ℕ) → oldest (is_among peers) m ≡ None → holds peers r.leader ≡ true → holds peers q ≡ true → IsUnderWay r ready m votes q → votes q ≡ true
