-- The refinement relation, part by part: what a fact, a phase, a peer and a message assert about
-- the ledger of the abstract protocol.
use Rattle.std.specs.Prelude.{◌≡◌, ℕ, ◌<◌, ◌≤◌, ◌⊎◌, Bool, true, false, ◌||◌, nat_le, List, [], ◌∷◌, Option, None, Some, ◌==◌, if◌then◌else◌}
use Rattle.protocol_laws.specs.Ledger.{Ledger, Place, Change, Add, Drop, IsAtMost, IsFact, is_established}
use Rattle.protocol_laws.specs.Numbers.{epoch_number, IsEpoch}
use Rattle.protocol_laws.specs.Preparing.{proposer_of}
use Rattle.phase_rules.specs.declared.election.Election.{Election}
use Rattle.phase_rules.specs.declared.election.Election.TheVariants.{Preparing, Starting}
use Rattle.ens_base.specs.PeerSet.{holds}
use Rattle.quorums.specs.Quorums.{is_quorum}
use Rattle.ens_base.specs.View.{IsPeer}
use Rattle.ens_base.specs.declared.epoch.Epoch.{Epoch}
use Rattle.peer_state.specs.declared.state.ChangeState.{ChangeState}
use Rattle.peer_state.specs.declared.state.ChangeState.TheVariants.{Settled, Wanted, Finishing as Finishes}
use Rattle.peer_state.specs.declared.state.Leadership.{Leadership}
use Rattle.peer_state.specs.declared.state.Phase.{Phase}
use Rattle.peer_state.specs.declared.state.Phase.TheVariants as phases
use Rattle.peer_state.specs.declared.state.State.{State}
use Rattle.stored_formats.specs.declared.fact.Change.{Change as FactChange}
use Rattle.stored_formats.specs.declared.fact.Change.TheVariants as changes
use Rattle.stored_formats.specs.declared.fact.Fact.{Fact}
use Rattle.phase_rules.specs.declared.probing.Probing.{Probing}
use Rattle.tree_sync.specs.Running.{Running}
use Rattle.tree_sync.specs.Sends.{AsksOthers}
use Rattle.phase_rules.specs.declared.finishing.Finishing.{Finishing}
use Rattle.leader_output.specs.declared.out.Outgoing.{Outgoing}
use Rattle.wire_frames.specs.declared.frame.Frame.{Frame}
use Rattle.wire_frames.specs.declared.message.Message.{Message}
use Rattle.wire_frames.specs.declared.message.Message.TheVariants as messages
use Rattle.world_spec.specs.Nodes.{Node, Up, Down}
use Rattle.step_plans.specs.Saved.{bare}

-- ## Facts

-- the place of a fact in the order of facts
abbrev pub fact_place : Fact → Place
fact_place f = record { epoch = epoch_number f.epoch; seq = f.seq }

-- a change of the ledger, as a fact tells it
abbrev pub told_change : Change → FactChange
told_change (Add view) = changes.Add view
told_change Drop = changes.Drop

-- the change that the fact at this place tells: only the second fact of an epoch tells one
abbrev pub change_at : Ledger → Place → FactChange
change_at l f = if f.seq == 2 then told_change (l.change f.epoch) else changes.None

-- the change can be made of these views: a view is added to a single one
abbrev pub IsFitting : Change → List (List ℕ) → Type 0
IsFitting Drop views = Unit {0}
IsFitting (Add view) (only ∷ []) = Unit {0}
IsFitting (Add view) views = ⊥

-- a fact of the ledger: the opening, the first fact of an elected epoch, or the second of a changed
-- one; its leader is the proposer of the epoch, its views and its change are those of the ledger, and
-- its ballot may be greater than its epoch
pub record IsKnown (l : Ledger) (f : Fact) : Type 0 where
  pub ballot : IsEpoch f.ballot
  pub epoch : IsEpoch f.epoch
  pub below : epoch_number f.epoch ≤ epoch_number f.ballot
  pub elected : l.elected (epoch_number f.epoch) ≡ true
  pub is_fact : IsFact l (fact_place f)
  pub leader : f.leader ≡ f.epoch.proposer
  pub views : f.views ≡ l.views (epoch_number f.epoch)
  pub change : f.change ≡ change_at l (fact_place f)

-- the fact with which an elected epoch began, at the ballot of that epoch
pub record IsFirst (l : Ledger) (f : Fact) : Type 0 where
  pub known : IsKnown l f
  pub seq : f.seq ≡ 1
  pub later : 0 < epoch_number f.epoch
  pub own_ballot : f.ballot ≡ f.epoch

-- the fact with which the leader of an epoch changed the views, at the ballot of that epoch
pub record IsSecond (l : Ledger) (f : Fact) : Type 0 where
  pub known : IsKnown l f
  pub seq : f.seq ≡ 2
  pub later : 0 < epoch_number f.epoch
  pub own_ballot : f.ballot ≡ f.epoch

-- whether the peer accepted the fact at this place, or still may
abbrev pub may_take : Ledger → Place → ℕ → Bool
may_take l f q = nat_le (l.ballot q) f.epoch || (if f.seq == 2 then l.adopted f.epoch q else l.accepted f.epoch q)

-- no quorum can accept the fact at this place any more
abbrev pub IsFactClosed : Ledger → Place → Type 0
IsFactClosed l f = is_quorum (may_take l f) (l.views f.epoch) ≡ false

-- the place of the second fact of an epoch
abbrev pub second_of : ℕ → Place
second_of d = record { epoch = d; seq = 2 }

-- ## Promises and acceptances

-- the peer is at the ballot or above, and of the facts of lower epochs it accepted none that is later
-- than the one at this place
pub record HasPromised (l : Ledger) (peer ballot : ℕ) (f : Place) : Type 0 where
  pub stands : ballot ≤ l.ballot peer
  pub told : (a : ℕ) → l.accepted a peer ≡ true → a < ballot → a ≤ f.epoch
  pub told_second : (a : ℕ) → l.adopted a peer ≡ true → a < ballot → IsAtMost (second_of a) f

-- every peer of the set accepted the epoch
abbrev pub HaveAccepted : Ledger → ℕ → List Bool → Type 0
HaveAccepted l d peers = (q : ℕ) → holds peers q ≡ true → l.accepted d q ≡ true

-- ## Phases, of peer `me` with this saved fact

-- a probing peer: the best fact is known and no older than the saved one, and the count is not
-- below the counts of their ballots
pub record IsProbing (l : Ledger) (fact : Fact) (probing : Probing) : Type 0 where
  pub best : IsKnown l probing.best
  pub newer : IsAtMost (fact_place fact) (fact_place probing.best)
  pub counts_best : probing.best.ballot.count ≤ probing.count
  pub counts_own : fact.ballot.count ≤ probing.count

-- a preparing peer: the epoch of its ballot is not elected yet, the base is a known fact below the
-- ballot, and no peer that promised had accepted a newer fact
pub record IsPreparing (l : Ledger) (me : ℕ) (fact base : Fact) (promises : List Bool) : Type 0 where
  pub own : fact.ballot.proposer ≡ me
  pub fresh : l.elected (epoch_number fact.ballot) ≡ false
  pub known : IsKnown l base
  pub above : epoch_number base.epoch < epoch_number fact.ballot
  pub promised : (q : ℕ) → holds promises q ≡ true → HasPromised l q (epoch_number fact.ballot) (fact_place base)

-- a peer that started an epoch: it is the proposer of its ballot, the epoch of the ballot is elected,
-- `new` is its first fact, and every peer in the set accepted it
pub record IsStarted (l : Ledger) (me : ℕ) (fact new : Fact) (accepts : List Bool) : Type 0 where
  pub own : fact.ballot.proposer ≡ me
  pub first : IsFirst l new
  pub at_ballot : new.epoch ≡ fact.ballot
  pub accepted : HaveAccepted l (epoch_number new.epoch) accepts

-- a starting peer: it has not changed the views of its epoch
pub record IsStarting (l : Ledger) (me : ℕ) (fact new : Fact) (accepts : List Bool) : Type 0 where
  pub started : IsStarted l me fact new accepts
  pub unchanged : l.changed (epoch_number new.epoch) ≡ false

-- a leader wants this change: it has not changed the views yet, and the change can be made of them
pub record IsWanted (l : Ledger) (fact : Fact) (wanted : FactChange) : Type 0 where
  pub unchanged : l.changed (epoch_number fact.epoch) ≡ false
  pub change : Change
  pub told : wanted ≡ told_change change
  pub fits : IsFitting change (l.views (epoch_number fact.epoch))

-- a leader whose epoch ends: it saved the second fact, and every peer in the set accepted it
pub record IsFinishing (l : Ledger) (fact : Fact) (finishing : Finishing) : Type 0 where
  pub seq : fact.seq ≡ 2
  pub adopted : (q : ℕ) → holds finishing.accepts2 q ≡ true → l.adopted (epoch_number fact.epoch) q ≡ true

-- how far a leader with this saved fact is with a change of the views
abbrev pub ChangeHolds : Ledger → Fact → ChangeState → Type 0
ChangeHolds l fact Settled = l.changed (epoch_number fact.epoch) ≡ false
ChangeHolds l fact (Wanted change) = IsWanted l fact change
ChangeHolds l fact (Finishes finishing) = IsFinishing l fact finishing

-- a leading peer: it started the epoch and accepted it, and so did a quorum
pub record IsLeading (l : Ledger) (me : ℕ) (fact : Fact) (leadership : Leadership) : Type 0 where
  pub started : IsStarted l me fact leadership.leader.fact leadership.leader.accepts
  pub established : is_established l (epoch_number leadership.leader.fact.epoch) ≡ true
  pub has : fact.epoch ≡ leadership.leader.fact.epoch
  pub change : ChangeHolds l fact leadership.change

-- a preparing or starting peer
abbrev pub IsElecting : Ledger → ℕ → Fact → Election → Type 0
IsElecting l me fact (Preparing base promises asked age) = IsPreparing l me fact base promises
IsElecting l me fact (Starting new accepts age) = IsStarting l me fact new accepts

-- what a phase asserts
abbrev pub PhaseHolds : Ledger → ℕ → Fact → Phase → Type 0
PhaseHolds l me fact (phases.Following follower) = Unit {0}
PhaseHolds l me fact (phases.Probing probing) = IsProbing l fact probing
PhaseHolds l me fact (phases.Electing election) = IsElecting l me fact election
PhaseHolds l me fact (phases.Leading leadership) = IsLeading l me fact leadership

-- ## Syncs

-- whether a peer in this phase may wait for a sync: it follows, or it starts an epoch
abbrev pub may_wait : Phase → Bool
may_wait (phases.Following follower) = true
may_wait (phases.Electing (Starting new accepts age)) = true
may_wait other = false

-- a peer with this saved fact may sync on `new`: it is the first fact of its epoch, the peer promised
-- this epoch and accepted a lower one, and its phase may wait for a sync, as `waiting` tells
pub record MaySync (l : Ledger) (fact : Fact) (waiting : Bool) (new : Fact) : Type 0 where
  pub first : IsFirst l new
  pub promised : new.epoch ≡ fact.ballot
  pub newer : epoch_number fact.epoch < epoch_number new.epoch
  pub waits : waiting ≡ true

-- a sync that runs: the peer may sync on its fact, and it asks other peers alone
pub record IsSyncing (l : Ledger) (me : ℕ) (fact : Fact) (waiting : Bool) (r : Running) : Type 0 where
  pub may : MaySync l fact waiting r.fact
  pub asks : AsksOthers me r

-- what the sync of a peer asserts, if one runs
abbrev pub SyncHolds : Ledger → ℕ → Fact → Bool → Option Running → Type 0
SyncHolds l me fact waiting None = Unit {0}
SyncHolds l me fact waiting (Some r) = IsSyncing l me fact waiting r

-- ## Peers

-- the last fact that the peer saved: its ballot is the peer's ballot, and its place is that of the
-- fact the peer accepted last
pub record IsSaved (l : Ledger) (me : ℕ) (f : Fact) : Type 0 where
  pub known : IsKnown l f
  pub ballot : l.ballot me ≡ epoch_number f.ballot
  pub place : l.fact me ≡ fact_place f

-- a running peer, whose stores keep `stored`: they keep its fact, and what its phase and its sync
-- assert holds
pub record PeerHolds (l : Ledger) (me : ℕ) (x : State) (stored : Option Fact) : Type 0 where
  pub saved : IsSaved l me x.fact
  pub kept : stored ≡ Some x.fact
  pub phase : PhaseHolds l me x.fact x.phase
  pub sync : SyncHolds l me x.fact (may_wait x.phase) x.sync

-- a peer that is down, whose stores keep `stored`: they keep the last fact that it saved
pub record IsKept (l : Ledger) (me : ℕ) (stored : Option Fact) : Type 0 where
  pub fact : Fact
  pub kept : stored ≡ Some fact
  pub saved : IsSaved l me fact

-- a running peer, or one that is down; seals say nothing of an election
abbrev pub NodeHolds : Ledger → ℕ → Node → Type 0
NodeHolds l me (Up x stores) = PeerHolds l me x (bare stores.facts.kept)
NodeHolds l me (Down stores) = IsKept l me (bare stores.facts.kept)

-- ## Messages, from peer `sender`

-- a prepared ballot: the sender is its proposer, and is at the ballot or above
pub record IsPrepare (l : Ledger) (sender : ℕ) (ballot : Epoch) : Type 0 where
  pub epoch : IsEpoch ballot
  pub own : ballot.proposer ≡ sender
  pub stands : epoch_number ballot ≤ l.ballot sender

-- a promise of the ballot, with the sender's fact: its epoch is lower, and the sender accepted no
-- fact in between
pub record IsPromise (l : Ledger) (sender : ℕ) (ballot : Epoch) (f : Fact) : Type 0 where
  pub known : IsKnown l f
  pub at_ballot : f.ballot ≡ ballot
  pub lower : epoch_number f.epoch < epoch_number ballot
  pub promised : HasPromised l sender (epoch_number ballot) (fact_place f)

-- the sender accepted the first fact of the epoch, or its second
abbrev pub IsAcceptance : Ledger → ℕ → Epoch → ℕ → Type 0
IsAcceptance l sender epoch seq = ((seq ≡ 1) × (l.accepted (epoch_number epoch) sender ≡ true)) ⊎ ((seq ≡ 2) × (l.adopted (epoch_number epoch) sender ≡ true))

-- the epoch was elected, and a quorum accepted it
pub record IsThere (l : Ledger) (epoch : Epoch) : Type 0 where
  pub elected : l.elected (epoch_number epoch) ≡ true
  pub established : is_established l (epoch_number epoch) ≡ true

-- what a message asserts about elections; the messages of calls and of syncs assert nothing, and the
-- frames of clients are never sent between peers
abbrev pub MessageHolds : Ledger → ℕ → Message → Type 0
MessageHolds l sender messages.Probe = Unit {0}
MessageHolds l sender (messages.ProbeReply fact) = IsKnown l fact
MessageHolds l sender (messages.Prepare ballot) = IsPrepare l sender ballot
MessageHolds l sender (messages.Promise ballot fact) = IsPromise l sender ballot fact
MessageHolds l sender (messages.Nack ballot cause) = Unit {0}
MessageHolds l sender (messages.NewEpoch fact) = IsFirst l fact
MessageHolds l sender (messages.Accepted epoch seq) = IsAcceptance l sender epoch seq
MessageHolds l sender (messages.Commit fact) = IsSecond l fact
MessageHolds l sender (messages.Beat epoch) = IsThere l epoch
MessageHolds l sender (messages.Check ballot round) = Unit {0}
MessageHolds l sender (messages.CheckReply ballot round) = Unit {0}
MessageHolds l sender (messages.Get ballot round key) = Unit {0}
MessageHolds l sender (messages.GetReply ballot round key entry object) = Unit {0}
MessageHolds l sender (messages.Put ballot object) = Unit {0}
MessageHolds l sender (messages.PutReply ballot key version) = Unit {0}
MessageHolds l sender (messages.TreeAsk ballot at after) = Unit {0}
MessageHolds l sender (messages.TreeGive ballot at after trusted body) = Unit {0}
MessageHolds l sender other = ⊥

-- an outgoing message goes to a peer, and what it asserts holds
abbrev pub SendHolds : Ledger → ℕ → Outgoing → Type 0
SendHolds l sender o = IsPeer o.to × MessageHolds l sender o.message

-- a sent frame goes between peers, and what its message asserts holds
abbrev pub FrameHolds : Ledger → Frame → Type 0
FrameHolds l f = IsPeer f.from × (IsPeer f.to × MessageHolds l f.from f.message)

-- ## The ledger

-- the proposer of every elected epoch is at its ballot or above; every change can be made of the views
-- of its epoch; a peer that accepted a second fact holds no earlier one; and each elected epoch is
-- based on the second fact of the epoch of its base, or no quorum can accept that fact any more
pub record IsOrderly (l : Ledger) : Type 0 where
  pub reached : (d : ℕ) → l.elected d ≡ true → d ≤ l.ballot (proposer_of d)
  pub fits : (d : ℕ) → l.changed d ≡ true → IsFitting (l.change d) (l.views d)
  pub adopted : (q d : ℕ) → l.adopted d q ≡ true → IsAtMost (second_of d) (l.fact q)
  pub left : (d : ℕ) → l.elected d ≡ true → 0 < d → IsAtMost (second_of (l.base d).epoch) (l.base d) ⊎ IsFactClosed l (second_of (l.base d).epoch)
