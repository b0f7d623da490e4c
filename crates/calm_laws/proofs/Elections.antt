-- The election of a calm run, as an invariant of the world: how far the candidate is, what each other
-- member has promised or accepted, and which messages may wait.
use Rattle.std.proofs.Common.{◌≡◌, ◌⊎◌, ℕ, Bool, true, false, List, [], length, None}
use Rattle.std.specs.Prelude.{◌≢◌}
use Rattle.ens_base.specs.Lists.{◌∈◌}
use Rattle.ens_base.specs.PeerSet.{holds}
use Rattle.network.specs.Mail.{Mail, IsMail}
use Rattle.stored_formats.specs.declared.fact.Fact.{Fact}
use Rattle.peer_state.specs.Moves.{follower}
use Rattle.wire_frames.specs.declared.frame.Frame.{Frame}
use Rattle.wire_frames.specs.declared.message.Message.{Message}
use Rattle.wire_frames.specs.declared.message.Message.TheVariants as messages
use Rattle.world_refinement.specs.WorldSpec.{Run}
use Rattle.calm_step_laws.proofs.CandidateSteps.{ballot, opened, promised, accepted, quiet, probing, preparing, starting, led, has_quorum, may_lead}
use Rattle.calm_step_laws.proofs.Keeping.{Standing}
use Rattle.calm_laws.proofs.Waits.{Waits, AllWaiting}
use Rattle.calm_laws.proofs.Standing.{Stands}

-- how far the candidate is: quiet for so many ticks, probing, preparing or starting, with those counted so
-- far, or leading, while messages of the election may still wait
pub data Step : Type 0 where
  Quiet : (ticks : ℕ) → Step
  Probes : (heard : List Bool) → Step
  Prepares : (promises : List Bool) → Step
  Starts : (accepts : List Bool) → Step
  Led : (accepts : List Bool) → Step

abbrev pub rests : Fact → Standing
rests fact keep = record { fact = fact; seal = keep.seal; mode = keep.mode; trusted = true; phase = follower; sync = None }

module _ (me : ℕ) (view : List ℕ) where
  abbrev pub candidate : Step → Standing
  candidate (Quiet ticks) = quiet me view ticks
  candidate (Probes heard) = probing me view heard
  candidate (Prepares promises) = preparing me view promises
  candidate (Starts accepts) = starting me view accepts
  candidate (Led accepts) = led me view accepts

  -- the set of those counted has the candidate, and does not end the round
  pub record IsOpen (set : List Bool) (ends : Bool) : Type 0 where
    pub size : length set ≡ 32
    pub own : holds set me ≡ true
    pub open_yet : ends ≡ false

  abbrev pub IsUnder : Step → Type 0
  IsUnder (Quiet ticks) = Unit {0}
  IsUnder (Probes heard) = IsOpen heard (has_quorum me view heard)
  IsUnder (Prepares promises) = IsOpen promises (has_quorum me view promises)
  IsUnder (Starts accepts) = IsOpen accepts (may_lead me view accepts)
  IsUnder (Led accepts) = Unit {0}

  -- what another member may have saved
  abbrev pub MayHave : Step → Fact → Type 0
  MayHave (Quiet ticks) fact = fact ≡ opened me view
  MayHave (Probes heard) fact = fact ≡ opened me view
  MayHave (Prepares promises) fact = (fact ≡ opened me view) ⊎ (fact ≡ promised me view)
  MayHave step fact = (fact ≡ opened me view) ⊎ ((fact ≡ promised me view) ⊎ (fact ≡ accepted me view))

  abbrev pub asking : ℕ → Message → Frame
  asking q message = record { from = me; to = q; message = message }

  abbrev pub replying : ℕ → Message → Frame
  replying q message = record { from = q; to = me; message = message }

  -- The member was counted, or is on its way to it. It replies to Prepare as long as it has the opening fact.
  -- An acceptance is never taken back, and it may come after the peer leads.
  abbrev pub IsHeard : Step → Mail → Fact → ℕ → Type 0
  IsHeard (Quiet ticks) m fact q = Unit {0}
  IsHeard (Probes heard) m fact q = (holds heard q ≡ true) ⊎ (Waits m (asking q messages.Probe) ⊎ Waits m (replying q (messages.ProbeReply (opened me view))))
  IsHeard (Prepares promises) m fact q =
      (holds promises q ≡ true) ⊎ (((fact ≡ opened me view) × Waits m (asking q (messages.Prepare (ballot me view)))) ⊎ Waits m (replying q (messages.Promise (ballot me view) (promised me view))))
  IsHeard (Starts accepts) m fact q =
      ((fact ≡ accepted me view) × ((holds accepts q ≡ true) ⊎ Waits m (replying q (messages.Accepted (ballot me view) 1)))) ⊎ Waits m (asking q (messages.NewEpoch (accepted me view)))
  IsHeard (Led accepts) m fact q = (fact ≡ accepted me view) ⊎ Waits m (asking q (messages.NewEpoch (accepted me view)))

  -- the messages that may wait at each step; what comes too late is ignored
  abbrev pub MayAsk : Step → Message → Type 0
  MayAsk (Quiet ticks) message = ⊥
  MayAsk (Probes heard) message = message ≡ messages.Probe
  MayAsk (Prepares promises) message = (message ≡ messages.Probe) ⊎ (message ≡ messages.Prepare (ballot me view))
  MayAsk step message = (message ≡ messages.Probe) ⊎ ((message ≡ messages.Prepare (ballot me view)) ⊎ (message ≡ messages.NewEpoch (accepted me view)))

  abbrev pub IsProbeReply : Message → Type 0
  IsProbeReply message = (fact : Fact) × (message ≡ messages.ProbeReply fact)

  abbrev pub MayReply : Step → Message → Type 0
  MayReply (Quiet ticks) message = ⊥
  MayReply (Probes heard) message = message ≡ messages.ProbeReply (opened me view)
  MayReply (Prepares promises) message = IsProbeReply message ⊎ (message ≡ messages.Promise (ballot me view) (promised me view))
  MayReply step message = IsProbeReply message ⊎ ((message ≡ messages.Promise (ballot me view) (promised me view)) ⊎ (message ≡ messages.Accepted (ballot me view) 1))

  abbrev pub IsOther : ℕ → Type 0
  IsOther q = (q ∈ view) × (q ≢ me)

  -- a request to another member, or the reply of one
  pub record Asks (step : Step) (f : Frame) : Type 0 where
    pub to : ℕ
    pub other : IsOther to
    pub message : Message
    pub is : f ≡ asking to message
    pub may : MayAsk step message

  pub record Answers (step : Step) (f : Frame) : Type 0 where
    pub from : ℕ
    pub other : IsOther from
    pub message : Message
    pub is : f ≡ replying from message
    pub may : MayReply step message

  abbrev pub MayWait : Step → Frame → Type 0
  MayWait step f = Asks step f ⊎ Answers step f

  -- another member: it follows, over a whole and empty tree
  pub record Other (step : Step) (m : Mail) (w : Run) (q : ℕ) : Type 0 where
    pub fact : Fact
    pub stands : Stands w q (rests fact) []
    pub may : MayHave step fact
    pub heard : IsHeard step m fact q

  -- the other members and the messages
  pub record Crowd (step : Step) (m : Mail) (w : Run) : Type 0 where
    pub mail : IsMail m
    pub others : (q : ℕ) → IsOther q → Other step m w q
    pub kinds : AllWaiting (MayWait step) m

  -- the world during the election
  pub record Elects (step : Step) (w : Run) : Type 0 where
    pub printed : w.printed ≡ []
    pub leader : Stands w me (candidate step) []
    pub under : IsUnder step
    pub crowd : Crowd step w.mail w
