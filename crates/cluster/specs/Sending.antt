-- How messages are handed to a link, and put into an index.
use Rattle.std.specs.Prelude.{◌≡◌, ◌≤◌, ◌+◌, ℕ, List, [], ◌++◌, length, map, Option, Result, Ok, Err}
use Rattle.ens_base.specs.Causes.{Rose}
use Rattle.environment.specs.declared.errors.LinkError.{LinkError}
use Rattle.environment.specs.declared.errors.LinkError.TheVariants.{Failed}
use Rattle.cluster.specs.Recordings.{frame_out}
use Rattle.network.specs.Indexes.{Indexes}
use Rattle.network.specs.declared.index.FrameIndex.{FrameIndex}
use Rattle.network.specs.Mail.{IsMail, Mail}
use Rattle.peer_turns.specs.Going.{Grew}
use Rattle.wire_frames.specs.declared.frame.Frame.{Frame}
use Rattle.world_model.specs.WorldSpec.{posted_all}

-- an index of the messages before becomes one of all, the first of these messages having this number
abbrev pub AddsTo : List Frame → ℕ → FrameIndex → FrameIndex → Type 0
AddsTo frames number old new = (m : Mail) → IsMail m → length m.sent + 1 ≡ number → Indexes old m → Indexes new (posted_all frames m)

module _ {L : Type 0} (sent : L → Option (List (ℕ × List ℕ))) (given : L → Option (List (Option (List ℕ)))) (faults : L → ℕ) where
  -- all these messages were handed to the link, and put into the index
  pub record HandedAll (frames : List Frame) (number : ℕ) (a : L) (old new : FrameIndex) (b : L) : Type 0 where
    pub sends : Grew (sent a) (sent b) (map frame_out frames)
    pub looked : Grew (given a) (given b) []
    pub later : faults a ≤ faults b
    pub adds : AddsTo frames number old new

  -- a prefix of these messages was handed to the link
  pub record HandedSome (error : LinkError) (frames : List Frame) (a b : L) : Type 0 where
    pub prefix : List Frame
    pub rest : List Frame
    pub all : frames ≡ prefix ++ rest
    pub sends : Grew (sent a) (sent b) (map frame_out prefix)
    pub looked : Grew (given a) (given b) []
    pub later : faults a ≤ faults b
    pub cause : error ≡ Failed → Rose (faults a) (faults b)

  -- these messages were to be handed to the link, and this is the result
  abbrev pub HandsOn : List Frame → ℕ → L → FrameIndex → Result (Unit {0}) LinkError → FrameIndex → L → Type 0
  HandsOn frames number a old (Ok x) new b = HandedAll frames number a old new b
  HandsOn frames number a old (Err e) new b = HandedSome e frames a b
