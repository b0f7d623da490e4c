-- A row of a phase as steps of a run: the steps that the peer takes on it, from the whole run so far.
use Rattle.std.proofs.Common.{◌≡◌, ℕ, List, [], ◌++◌, Option, refl, sym, subst}
use Rattle.protocol_laws.specs.Protocol.{Step, IsRun}
use Rattle.ens_base.specs.View.{IsPeer}
use Rattle.peer_state.specs.Rows.{aged, asked_change, phase_row, received}
use Rattle.peer_state.specs.declared.state.State.{State}
use Rattle.stored_formats.specs.declared.fact.Fact.{Fact}
use Rattle.wire_frames.specs.declared.message.Message.{Message}
use Rattle.phase_rows.specs.declared.phase.PhaseOut.{PhaseOut}
use Rattle.phase_rows.specs.declared.rules.PhaseRule.{PhaseRule}
use Rattle.election_refinement.proofs.Changes.{rule_24}
use Rattle.election_refinement.specs.Keeps.{Keeps}
use Rattle.election_refinement.proofs.Reaching.{AreRowSteps, Course}
use Rattle.election_refinement.proofs.Rows.{stored_in, settled, ThenHolds, Fits, Goes}
use Rattle.election_refinement.proofs.Rules.{phase_goes, received_goes as message_goes}
use Rattle.election_refinement.proofs.Sets.{RowSays}
use Rattle.election_refinement.proofs.Ticks.{aged_goes as tick_goes}
use Rattle.election_refinement.specs.Refinement.{MessageHolds, PeerHolds, IsOrderly}
use Rattle.election_refinement.specs.Worlds.{ledger_after}

-- Peer p takes steps `es`, newest first, on the row, and none of them ends a sync; the run with them is
-- a run. After them the peer agrees with the ledger as the row leaves it, the row's message asserts what
-- holds, and the peer may sync on the fact on which a sync begins, if one does.
pub record RowGoes (view : List ℕ) (steps : List Step) (p : ℕ) (x : State) (stored : Option Fact) (r : State × PhaseOut) : Type 0 where
  pub es : List Step
  pub run : IsRun view (es ++ steps)
  pub kinds : AreRowSteps ⊥ p es
  pub keeps : Keeps (ledger_after view steps) (ledger_after view (es ++ steps)) p
  pub orderly : IsOrderly (ledger_after view (es ++ steps))
  pub peer : PeerHolds (ledger_after view (es ++ steps)) p (settled p r.1 r.0) (stored_in r.1.save stored)
  pub says : RowSays (ledger_after view (es ++ steps)) p r.1.message
  pub syncs : ThenHolds (ledger_after view (es ++ steps)) (settled p r.1 r.0) r.1.then

-- the peer after a run
module _ (view : List ℕ) (steps : List Step) (p : ℕ) (is_peer : IsPeer p) (run : IsRun view steps) (orderly : IsOrderly (ledger_after view steps))
    {x : State} {stored : Option Fact} (holds : PeerHolds (ledger_after view steps) p x stored) where
  -- the beginning of a row: the run has all steps so far, and no sync ends
  abbrev pub course : Course
  course = record { view = view; steps = steps; peer = p; is_peer = is_peer; joins = ⊥ }

  pub here : Fits course (ledger_after view steps) x stored
  here = record { reaches = record { more = []; kinds = tt; run = run; same = refl; orderly = orderly }; peer = holds }

  -- the steps of a row that goes, of whichever rule
  pub row_goes : (r : State × PhaseOut) → Goes course (ledger_after view steps) stored r → RowGoes view steps p x stored r
  row_goes r goes = let reaches = goes.fits.reaches in
      let same : goes.ledger ≡ ledger_after view (reaches.more ++ steps) = sym reaches.same in
      record {
        es = reaches.more;
        run = reaches.run;
        kinds = reaches.kinds;
        keeps = subst (λ l. Keeps (ledger_after view steps) l p) same goes.keeps;
        orderly = subst IsOrderly same reaches.orderly;
        peer = subst (λ l. PeerHolds l p (settled p r.1 r.0) (stored_in r.1.save stored)) same goes.fits.peer;
        says = subst (λ l. RowSays l p r.1.message) same goes.says;
        syncs = subst (λ l. ThenHolds l (settled p r.1 r.0) r.1.then) same goes.syncs;
      }

  -- the row of a rule that a row names
  pub phase_row_goes : (rule : PhaseRule) → RowGoes view steps p x stored (phase_row rule p x)
  phase_row_goes rule = row_goes (phase_row rule p x) (phase_goes here rule)

  -- the row for a message that asserts what holds
  pub received_goes : (from : ℕ) (message : Message) → MessageHolds (ledger_after view steps) from message → RowGoes view steps p x stored (received p from message x)
  received_goes from message says = row_goes (received p from message x) (message_goes here from message says)

  -- the row of a tick, in a peer that does not lead
  pub aged_goes : RowGoes view steps p x stored (aged x.phase p x)
  aged_goes = row_goes (aged x.phase p x) (tick_goes here x.phase holds.phase holds.sync)

  -- the row of a request to change the view
  pub asked_change_goes : (asked : List ℕ) → RowGoes view steps p x stored ((asked_change asked x).0, (asked_change asked x).1.0)
  asked_change_goes asked = row_goes ((asked_change asked x).0, (asked_change asked x).1.0) (rule_24 here x.phase asked holds.phase holds.sync)
