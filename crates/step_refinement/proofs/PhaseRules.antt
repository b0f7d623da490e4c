-- The rules of phases in the step of a peer: those that a row names, those for a message of elections,
-- requests to change the view, and ticks, also the reminders of a leader.
use Rattle.std.specs.Prelude.{All}
use Rattle.std.proofs.Common.{◌≡◌, ℕ, Bool, false, if◌then◌else◌, List, [], ◌∷◌, ◌++◌, Option, None, Some, arith, refl, sym, subst}
use Rattle.ens_base.specs.Lists.{◌∈◌}
use Rattle.ens_base.specs.PeerSet.{holds}
use Rattle.protocol_laws.specs.Ledger.{Ledger, put}
use Rattle.protocol_laws.specs.Protocol.{State, state_after}
use Rattle.election_refinement.proofs.Changes.{is_second, wished_holds}
use Rattle.election_refinement.proofs.Listed.{GoesListed, listed_phase_row, listed_received, listed_aged, listed_asked_change, listed_reminded, listed_leading, listed_ticks}
use Rattle.election_refinement.proofs.Parts.{PartGoes, phase_row_turns, received_turns, aged_turns, asked_change_turns}
use Rattle.election_refinement.proofs.Tests.{by_test}
use Rattle.election_refinement.proofs.Ticks.{ticks_hold}
use Rattle.election_refinement.proofs.Whole.{RowGoes, here, phase_row_goes, received_goes, aged_goes, asked_change_goes}
use Rattle.election_refinement.specs.Listed.{IsListedLeadership, IsListedMessage, IsListedPhase}
use Rattle.election_refinement.specs.Refinement.{MessageHolds, PeerHolds, PhaseHolds, IsLeading, SyncHolds, may_wait}
use Rattle.peer_refinement.specs.WorldSpec.{Held}
use Rattle.role_laws.specs.Roles.{RolesHold}
use Rattle.role_laws.specs.Tables.{Ghosts}
use Rattle.leader_refinement.specs.Seen.{owed_after}
use Rattle.leader_output.specs.declared.out.Outgoing.{Outgoing}
use Rattle.leader.specs.Ticks.{finishing_message}
use Rattle.peer_spec.specs.Drives.{and_change, delivered, first, led_in, reminded, row_done, task_done, ticked}
use Rattle.peer_state.specs.Leading.{begins, end_of, ticks, wished}
use Rattle.peer_state.specs.Moves.{leading}
use Rattle.peer_state.specs.Rows.{aged, asked_change, leads, phase_row, received}
use Rattle.peer_spec.specs.Syncs.{and_sends}
use Rattle.peer_state.specs.declared.event.Event.TheVariants as events
use Rattle.peer_state.specs.declared.state.ChangeState.{ChangeState}
use Rattle.peer_state.specs.declared.state.ChangeState.TheVariants.{Settled, Wanted, Finishing as Finishes}
use Rattle.peer_state.specs.declared.state.Leadership.{Leadership}
use Rattle.peer_state.specs.declared.state.Phase.{Phase}
use Rattle.peer_state.specs.declared.state.Phase.TheVariants as phases
use Rattle.peer_state.specs.declared.state.State.{State as PeerState}
use Rattle.stored_formats.specs.declared.fact.Fact.{Fact}
use Rattle.register_model.specs.declared.note.Note.{Note}
use Rattle.step_plans.specs.Plans.{Out, Rest}
use Rattle.step_plans.specs.Tasks.{named}
use Rattle.step_plans.specs.declared.tasks.Task.{Task}
use Rattle.step_plans.specs.declared.tasks.Task.TheVariants as tasks
use Rattle.step_plans.specs.Saved.{bare}
use Rattle.role_laws.specs.Facts.{Lines}
use Rattle.wire_frames.specs.declared.message.Message.{Message}
use Rattle.wire_frames.specs.declared.message.Message.TheVariants as messages
use Rattle.phase_rows.specs.declared.phase.PhaseOut.{PhaseOut}
use Rattle.phase_rows.specs.declared.phase.Then.{Then}
use Rattle.phase_rows.specs.declared.phase.Then.TheVariants as thens
use Rattle.phase_rows.specs.declared.rules.PhaseRule.{PhaseRule}
use Rattle.tree_node.specs.declared.version.TreeVersion.{TreeVersion}
use Rattle.step_refinement.proofs.CallByCall.{Ends, Onward, rest_task}
use Rattle.step_refinement.specs.Scenes.{Scene, now, AtRest}
use Rattle.step_refinement.proofs.PhaseMessages.{SaysNothing, TellsNothing, IsMute, IsNoCheck, says_nothing_of, mute_fits, phase_row_mute, received_mute, aged_mute, asked_change_mute}
use Rattle.step_refinement.proofs.PhaseRows.{RowAll, row_good}
use Rattle.step_refinement.proofs.SentMessages.{ticks_each, SaysSo, says_nothing, tells_more}
use Rattle.step_refinement.proofs.KeptTrust.{Spares, phase_row_spares, received_spares, aged_spares, asked_change_spares}
use Rattle.step_refinement.proofs.LeaderTasks.{ArePhases, PhasesNext}
use Rattle.step_refinement.specs.Peers.{PhaseFits, IsAtRest, MessageFits}
use Rattle.step_refinement.specs.Roles.{role_in, said_in_sends}

-- the tasks that a row of a phase names are rules of phases
pub named_are : (turn : Then) → ArePhases (named turn)
named_are (thens.Rule n) = tt
named_are other = tt

-- a message of elections
abbrev pub IsOfElections : Message → Type 0
IsOfElections messages.Probe = Unit {0}
IsOfElections (messages.ProbeReply fact) = Unit {0}
IsOfElections (messages.Prepare ballot) = Unit {0}
IsOfElections (messages.Promise ballot fact) = Unit {0}
IsOfElections (messages.Nack ballot cause) = Unit {0}
IsOfElections (messages.NewEpoch fact) = Unit {0}
IsOfElections (messages.Accepted ballot seq) = Unit {0}
IsOfElections (messages.Commit fact) = Unit {0}
IsOfElections (messages.Beat ballot) = Unit {0}
IsOfElections message = ⊥

-- a message that says nothing of calls says so
pub mute_says : (g : Ghosts) (s : State) (p : ℕ) (message : Option Message) → SaysNothing message → RowAll (SaysSo g s p) message
mute_says g s p None mute = tt
mute_says g s p (Some message) mute = says_nothing g s p message mute

mute_may_fit : (version : TreeVersion) (lines : Lines) (s : State) (strings : List (List ℕ)) (p : ℕ) (message : Option Message) → TellsNothing message → RowAll (MessageFits version lines s strings p) message
mute_may_fit version lines s strings p None mute = tt
mute_may_fit version lines s strings p (Some message) mute = mute_fits version lines s strings p message mute

-- a reminder tells that the leader is alive, its epoch, or the second fact of its epoch
ticks_are : (P : Message → Type 0) (fact : Fact) (l : Leadership) → P (messages.Beat l.leader.fact.epoch) → P (messages.NewEpoch l.leader.fact) → P (messages.Commit fact) → All (λ (o : Outgoing). P o.message) (ticks fact l)
ticks_are P fact l beat tells commit =
    ticks_each (λ (o : Outgoing). P o.message) (end_of l.change) fact l.leader (λ q is. by_test P (holds l.leader.accepts q) _ _ (λ has. told l.change q) (λ lacks. tells)) 31 (omega arith)
  where
    told : (change : ChangeState) (q : ℕ) → P (finishing_message (end_of change) fact l.leader q)
    told Settled q = beat
    told (Wanted change) q = beat
    told (Finishes f) q = by_test P (holds f.accepts2 q) _ _ (λ has. beat) (λ lacks. commit)

module _ (c : Scene) where
  open c use {lines, version, view, strings, peer as p}

  -- rule 5 (d) and (e): a leader reminds the other members of its epoch, and may want a change
  module _ (key : List ℕ) (l : Leadership) (x : PeerState) (h : Held) (out : Out) (notes : List Note) (is : x.phase ≡ phases.Leading l) (at : AtRest c key x h out notes) where
    leads_so : IsLeading (now c at.0.reached).objects.ledger p x.fact l
    leads_so = subst (PhaseHolds (now c at.0.reached).objects.ledger p x.fact) is at.0.peer.phase

    listed : IsListedLeadership lines.voting x.trusted l
    listed = subst (IsListedPhase lines.voting p x.trusted) is at.0.listed.phase

    reminders : AtRest c key x h (and_sends out (ticks x.fact l)) notes
    reminders = (
      tells_more c key x h out notes (ticks x.fact l) at.0
          (ticks_hold (now c at.0.reached).objects.ledger p x.fact l leads_so (is_second (here view at.0.reached.steps p c.is_peer at.0.reached.run at.0.reached.orderly at.0.peer) l leads_so) 31 (omega arith))
          (listed_ticks listed x.fact at.0.listed.fact)
          (ticks_are (MessageFits version lines (now c at.0.reached) strings p) x.fact l tt tt tt)
          (ticks_are (SaysSo at.0.reached.ghosts (now c at.0.reached) p) x.fact l
          (says_nothing at.0.reached.ghosts (now c at.0.reached) p (messages.Beat l.leader.fact.epoch) refl)
          (says_nothing at.0.reached.ghosts (now c at.0.reached) p (messages.NewEpoch l.leader.fact) refl)
          (says_nothing at.0.reached.ghosts (now c at.0.reached) p (messages.Commit x.fact) refl)),
      at.1,
    )

    abbrev wants : Leadership
    wants = record l { change = wished l.leader.fact l.change }

    -- the leader is the same but for the change that it wants
    wishes : AtRest c key (leading wants x) h (and_sends out (ticks x.fact l)) notes
    wishes = (
      record {
        reached = reminders.0.reached;
        roles = subst (λ (phase : Phase). RolesHold reminders.0.reached.ghosts (now c reminders.0.reached) (put c.roles p (role_in key phase (owed_after [] out.answers))) (said_in_sends p (out.sends ++ ticks x.fact l) ++ c.said)) is reminders.0.roles;
        peer = peer_wants reminders.0.peer;
        listed = listed_leading reminders.0.listed wants (listed_reminded listed);
        trust = reminders.0.trust;
        tree = reminders.0.tree;
        seal = reminders.0.seal;
        mode = reminders.0.mode;
        held = reminders.0.held;
        sync = reminders.0.sync;
        fits = subst (PhaseFits reminders.0.reached.ghosts.hash (now c reminders.0.reached)) is reminders.0.fits;
        task = rest_task (now c reminders.0.reached) key (phases.Leading wants) (subst IsAtRest is at.1);
        noted = reminders.0.noted;
        sends = reminders.0.sends;
        listed_sends = reminders.0.listed_sends;
        fits_sends = reminders.0.fits_sends;
      },
      subst IsAtRest is at.1,
    )
      where
        wants_so : {d : Ledger} → IsLeading d p x.fact l → IsLeading d p x.fact wants
        wants_so {d} led = record { started = led.started; established = led.established; has = led.has; change = wished_holds d x.fact l.leader.fact l.change led.change }

        peer_wants : {d : Ledger} → PeerHolds d p x (bare h.stores.facts.kept) → PeerHolds d p (leading wants x) (bare h.stores.facts.kept)
        peer_wants {d} holds = record {
          saved = holds.saved;
          kept = holds.kept;
          phase = wants_so (subst (PhaseHolds d p x.fact) is holds.phase);
          sync = subst (λ (phase : Phase). SyncHolds d p x.fact (may_wait phase) x.sync) is holds.sync;
        }

  reminded_good : (key : List ℕ) (phase : Phase) (x : PeerState) (h : Held) (out : Out) (notes : List Note) (next mark : Rest PeerState (List Task)) → x.phase ≡ phase → AtRest c key x h out notes → Onward c (PhasesNext c) next mark
      → Ends c (reminded phase x out next) (reminded phase x out mark) h notes
  reminded_good key (phases.Leading l) x h out notes next mark is at go =
      go (named (begins (wished l.leader.fact l.change))) key (leading (record l { change = wished l.leader.fact l.change }) x) h (and_sends out (ticks x.fact l)) notes (named_are (begins (wished l.leader.fact l.change)), wishes key l x h out notes is at)
  reminded_good key (phases.Following f) x h out notes next mark is at go = go [] key x h out notes (tt, at)
  reminded_good key (phases.Probing b) x h out notes next mark is at go = go [] key x h out notes (tt, at)
  reminded_good key (phases.Electing e) x h out notes next mark is at go = go [] key x h out notes (tt, at)

  -- ## Rows that say nothing of calls

  -- the row goes on from here
  module _ (key : List ℕ) (x : PeerState) (h : Held) (out : Out) (notes : List Note) (at : AtRest c key x h out notes) (next mark : Rest PeerState (List Task)) (go : Onward c (PhasesNext c) next mark) where
    -- a row whose message is mute ends well
    pub mute_row : (row : PeerState × PhaseOut) → RowGoes view at.0.reached.steps p x (bare h.stores.facts.kept) row → PartGoes (now c at.0.reached).objects.ledger x row → GoesListed lines.voting p row → Spares x row.0 → IsMute row.1
        → Ends c (row_done p row.1 row.0 out next) (row_done p row.1 row.0 out mark) h notes
    mute_row row goes turns told spares mute =
        row_good c key row x h out notes at (record {
          goes = goes;
          turns = turns;
          listed = told;
          spares = spares;
          says = mute_says at.0.reached.ghosts (state_after view (goes.es ++ at.0.reached.steps)) p row.1.message (says_nothing_of row.1.message mute);
          fits = mute_may_fit version lines (state_after view (goes.es ++ at.0.reached.steps)) strings p row.1.message mute;
        }) next mark go

    -- a rule that a row names
    phase_task : (rule : PhaseRule) → Ends c (task_done p (tasks.Phase rule) x out next) (task_done p (tasks.Phase rule) x out mark) h notes
    phase_task rule =
        mute_row (phase_row rule p x) (phase_row_goes view at.0.reached.steps p c.is_peer at.0.reached.run at.0.reached.orderly at.0.peer rule) (phase_row_turns (now c at.0.reached).objects.ledger p x at.0.peer rule) (listed_phase_row at.0.listed rule)
        (phase_row_spares p x rule) (phase_row_mute p x rule)

    -- a message of elections
    received_row : (from : ℕ) (message : Message) → (from ≡ p → ⊥) → MessageHolds (now c at.0.reached).objects.ledger from message → IsListedMessage lines.voting message → IsNoCheck message
        → Ends c (row_done p (received p from message x).1 (received p from message x).0 out next) (row_done p (received p from message x).1 (received p from message x).0 out mark) h notes
    received_row from message other holds told no_check =
        mute_row (received p from message x) (received_goes view at.0.reached.steps p c.is_peer at.0.reached.run at.0.reached.orderly at.0.peer from message holds) (received_turns (now c at.0.reached).objects.ledger p x at.0.peer from message)
        (listed_received at.0.listed from message other told) (received_spares p x from message) (received_mute p x from message no_check)

    -- a message of elections that comes from another peer ends well
    pub received_good : (from : ℕ) (message : Message) → IsOfElections message → (from ≡ p → ⊥) → MessageHolds (now c at.0.reached).objects.ledger from message → IsListedMessage lines.voting message
        → Ends c (delivered p from message x out next) (delivered p from message x out mark) h notes
    received_good from messages.Probe is other holds told = received_row from messages.Probe other holds told tt
    received_good from (messages.ProbeReply fact) is other holds told = received_row from (messages.ProbeReply fact) other holds told tt
    received_good from (messages.Prepare ballot) is other holds told = received_row from (messages.Prepare ballot) other holds told tt
    received_good from (messages.Promise ballot fact) is other holds told = received_row from (messages.Promise ballot fact) other holds told tt
    received_good from (messages.Nack ballot cause) is other holds told = received_row from (messages.Nack ballot cause) other holds told tt
    received_good from (messages.NewEpoch fact) is other holds told = received_row from (messages.NewEpoch fact) other holds told tt
    received_good from (messages.Accepted ballot seq) is other holds told = received_row from (messages.Accepted ballot seq) other holds told tt
    received_good from (messages.Commit fact) is other holds told = received_row from (messages.Commit fact) other holds told tt
    received_good from (messages.Beat ballot) is other holds told = received_row from (messages.Beat ballot) other holds told tt
    received_good from message is other holds told = absurd is

    -- a tick of a peer that does not lead
    pub tick_good : leads x.phase ≡ false → Ends c (ticked p x.phase x out next) (ticked p x.phase x out mark) h notes
    tick_good follows =
        subst (λ (b : Bool). Ends c (if b then led_in p x.phase x out next else row_done p (aged x.phase p x).1 (aged x.phase p x).0 out next) (if b then led_in p x.phase x out mark else row_done p (aged x.phase p x).1 (aged x.phase p x).0 out mark) h notes) (sym follows)
        (mute_row (aged x.phase p x) (aged_goes view at.0.reached.steps p c.is_peer at.0.reached.run at.0.reached.orderly at.0.peer) (aged_turns (now c at.0.reached).objects.ledger p x at.0.peer) (listed_aged at.0.listed) (aged_spares p x) (aged_mute p x))

    -- the row of a request to change the view
    asked_row : (asked : List ℕ) → asked ∈ lines.voting → Ends c (row_done p (asked_change asked x).1.0 (asked_change asked x).0 out next) (row_done p (asked_change asked x).1.0 (asked_change asked x).0 out mark) h notes
    asked_row asked votes =
        mute_row ((asked_change asked x).0, (asked_change asked x).1.0) (asked_change_goes view at.0.reached.steps p c.is_peer at.0.reached.run at.0.reached.orderly at.0.peer asked) (asked_change_turns (now c at.0.reached).objects.ledger p x at.0.peer asked)
        (listed_asked_change at.0.listed asked votes) (asked_change_spares p x asked) (asked_change_mute p x asked)

  -- whether a change of the view is taken says nothing of the peer
  replied : (key : List ℕ) (x : PeerState) (h : Held) (out : Out) (notes : List Note) (taken : Bool) → AtRest c key x h out notes → AtRest c key x h (and_change out taken) notes
  replied key x h out notes taken at = (
    record {
      reached = at.0.reached;
      roles = at.0.roles;
      peer = at.0.peer;
      listed = at.0.listed;
      trust = at.0.trust;
      tree = at.0.tree;
      seal = at.0.seal;
      mode = at.0.mode;
      held = at.0.held;
      sync = at.0.sync;
      fits = at.0.fits;
      task = at.0.task;
      noted = at.0.noted;
      sends = at.0.sends;
      listed_sends = at.0.listed_sends;
      fits_sends = at.0.fits_sends;
    },
    at.1,
  )

  -- rule 24, a request to change to a view that may vote
  pub change_good : (key : List ℕ) (x : PeerState) (h : Held) (out : Out) (notes : List Note) → AtRest c key x h out notes → (next mark : Rest PeerState (List Task)) → Onward c (PhasesNext c) next mark → (asked : List ℕ) → asked ∈ lines.voting
      → Ends c (first p (events.Change asked) x out next) (first p (events.Change asked) x out mark) h notes
  change_good key x h out notes at next mark go asked votes = let taken : Bool = (asked_change asked x).1.1 in asked_row key x h (and_change out taken) notes (replied key x h out notes taken at) next mark go asked votes

  -- the rules of phases end well
  pub phases_good : (t : Task) → ArePhases (t ∷ []) → (key : List ℕ) (x : PeerState) (h : Held) (out : Out) (notes : List Note) → AtRest c key x h out notes → (next mark : Rest PeerState (List Task)) → Onward c (PhasesNext c) next mark
      → Ends c (task_done p t x out next) (task_done p t x out mark) h notes
  phases_good (tasks.Phase n) are key x h out notes at next mark go = phase_task key x h out notes at next mark go n
  phases_good tasks.Remind are key x h out notes at next mark go = reminded_good key x.phase x h out notes next mark refl at go
  phases_good (tasks.Key n k) are key x h out notes at next mark go = absurd are
  phases_good (tasks.Again n k seen) are key x h out notes at next mark go = absurd are
