-- Facts, peers and messages of a schedule: each view that they have is one of those that may vote, counts
-- have 64 bits, and a peer that leads, or accepted the epoch that it starts, trusts its tree.
use Rattle.std.specs.Prelude.{◌≡◌, ◌<◌, ◌^◌, ℕ, Bool, true, List, Option, Some, None}
use Rattle.phase_rules.specs.declared.election.Election.{Election}
use Rattle.phase_rules.specs.declared.election.Election.TheVariants.{Preparing, Starting}
use Rattle.ens_base.specs.Lists.{◌∈◌}
use Rattle.ens_base.specs.PeerSet.{holds}
use Rattle.ens_base.specs.Views.{first_view}
use Rattle.peer_state.specs.declared.state.ChangeState.{ChangeState}
use Rattle.peer_state.specs.declared.state.ChangeState.TheVariants.{Wanted}
use Rattle.peer_state.specs.declared.state.Leadership.{Leadership}
use Rattle.peer_state.specs.declared.state.Phase.{Phase}
use Rattle.peer_state.specs.declared.state.Phase.TheVariants as phases
use Rattle.peer_state.specs.declared.state.State.{State}
use Rattle.stored_formats.specs.declared.fact.Change.{Change}
use Rattle.stored_formats.specs.declared.fact.Change.TheVariants as changes
use Rattle.stored_formats.specs.declared.fact.Fact.{Fact}
use Rattle.phase_rules.specs.declared.probing.Probing.{Probing}
use Rattle.tree_sync.specs.Running.{Running}
use Rattle.wire_frames.specs.declared.message.Message.{Message}
use Rattle.wire_frames.specs.declared.message.Message.TheVariants as messages
use Rattle.phase_rows.specs.declared.phase.Then.{Then}
use Rattle.phase_rows.specs.declared.phase.Then.TheVariants as thens

-- each of these views may vote
abbrev pub AreVoting : List (List ℕ) → List (List ℕ) → Type 0
AreVoting voting views = (view : List ℕ) → view ∈ views → view ∈ voting

-- a view that is added may vote
abbrev pub IsListedChange : List (List ℕ) → Change → Type 0
IsListedChange voting (changes.Add view) = view ∈ voting
IsListedChange voting other = Unit {0}

-- a fact of at least one view; its views may vote, and so may the one that it adds
pub record IsListedFact (voting : List (List ℕ)) (f : Fact) : Type 0 where
  pub views : AreVoting voting f.views
  pub first : first_view f.views ∈ voting
  pub change : IsListedChange voting f.change
  pub count : f.ballot.count < 2 ^ 64
  pub epoch : f.epoch.count < 2 ^ 64

-- a probing peer, with its best fact and its count
pub record IsListedProbing (voting : List (List ℕ)) (probing : Probing) : Type 0 where
  pub best : IsListedFact voting probing.best
  pub count : probing.count < 2 ^ 64

-- the change that a leader wants
abbrev pub IsListedWish : List (List ℕ) → ChangeState → Type 0
IsListedWish voting (Wanted change) = IsListedChange voting change
IsListedWish voting other = Unit {0}

-- a leader trusts its tree
pub record IsListedLeadership (voting : List (List ℕ)) (trusted : Bool) (l : Leadership) : Type 0 where
  pub fact : IsListedFact voting l.leader.fact
  pub wish : IsListedWish voting l.change
  pub sees : trusted ≡ true

-- a peer that accepted the epoch that it starts trusts its tree
pub record IsListedStart (voting : List (List ℕ)) (p : ℕ) (trusted : Bool) (new : Fact) (accepts : List Bool) : Type 0 where
  pub fact : IsListedFact voting new
  pub sees : holds accepts p ≡ true → trusted ≡ true

abbrev pub IsListedElection : List (List ℕ) → ℕ → Bool → Election → Type 0
IsListedElection voting p trusted (Preparing base promises asked age) = IsListedFact voting base
IsListedElection voting p trusted (Starting new accepts age) = IsListedStart voting p trusted new accepts

-- the facts in the phase of peer p
abbrev pub IsListedPhase : List (List ℕ) → ℕ → Bool → Phase → Type 0
IsListedPhase voting p trusted (phases.Following follower) = Unit {0}
IsListedPhase voting p trusted (phases.Probing probing) = IsListedProbing voting probing
IsListedPhase voting p trusted (phases.Electing election) = IsListedElection voting p trusted election
IsListedPhase voting p trusted (phases.Leading leadership) = IsListedLeadership voting trusted leadership

-- the fact of a running sync
abbrev pub IsListedSync : List (List ℕ) → Option Running → Type 0
IsListedSync voting None = Unit {0}
IsListedSync voting (Some r) = IsListedFact voting r.fact

-- all facts of peer p
pub record IsListedPeer (voting : List (List ℕ)) (p : ℕ) (x : State) : Type 0 where
  pub fact : IsListedFact voting x.fact
  pub phase : IsListedPhase voting p x.trusted x.phase
  pub sync : IsListedSync voting x.sync

-- the fact in the message, and the count of a ballot that is prepared; frames of clients are never sent
-- between peers
abbrev pub IsListedMessage : List (List ℕ) → Message → Type 0
IsListedMessage voting (messages.ProbeReply fact) = IsListedFact voting fact
IsListedMessage voting (messages.Prepare ballot) = ballot.count < 2 ^ 64
IsListedMessage voting (messages.Promise ballot fact) = IsListedFact voting fact
IsListedMessage voting (messages.NewEpoch fact) = IsListedFact voting fact
IsListedMessage voting (messages.Commit fact) = IsListedFact voting fact
IsListedMessage voting (messages.CallFrame id key command) = ⊥
IsListedMessage voting (messages.AnswerFrame id reply) = ⊥
IsListedMessage voting other = Unit {0}

-- the message of a row, if it has one
abbrev pub SaysListed : List (List ℕ) → Option Message → Type 0
SaysListed voting None = Unit {0}
SaysListed voting (Some message) = IsListedMessage voting message

-- the fact on which a sync begins
abbrev pub IsListedThen : List (List ℕ) → Then → Type 0
IsListedThen voting (thens.SyncOn fact) = IsListedFact voting fact
IsListedThen voting other = Unit {0}
