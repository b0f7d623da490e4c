-- A peer that finds damage no longer trusts its tree: it leads no longer, it has begun no epoch, and no
-- sync runs.
use Rattle.std.specs.Prelude.{All}
use Rattle.std.proofs.Common.{◌≡◌, ℕ, true, false, List, [], ◌∷◌, ◌++◌, Option, None, refl, sym, subst, ◌∙◌}
use Rattle.protocol_laws.specs.Ledger.{put}
use Rattle.protocol_laws.specs.Protocol.{State, Lose, happens}
use Rattle.election_refinement.proofs.Keeps.{keeps_none}
use Rattle.election_refinement.proofs.Listed.{listed_untrusted}
use Rattle.election_refinement.proofs.Requests.{turned_fits}
use Rattle.election_refinement.proofs.Whole.{here}
use Rattle.election_refinement.specs.Listed.{IsListedPeer, IsListedMessage}
use Rattle.election_refinement.specs.Refinement.{PeerHolds, SendHolds}
use Rattle.protocol_laws.proofs.Later.{stay_step}
use Rattle.protocol_laws.specs.Stays.{EntriesStay}
use Rattle.peer_refinement.specs.WorldSpec.{Held}
use Rattle.role_laws.proofs.Roles.{run_roles}
use Rattle.role_laws.specs.Roles.{RolesHold}
use Rattle.role_laws.specs.Tables.{Owed}
use Rattle.leader_refinement.specs.Seen.{owed_after}
use Rattle.leader_output.specs.declared.out.Outgoing.{Outgoing}
use Rattle.peer_state.specs.Moves.{left_answers, stopped_leading, timeouts, untrusted, without_candidacy}
use Rattle.peer_state.specs.declared.state.State.{State as PeerState}
use Rattle.register_model.specs.declared.note.Note.{Note}
use Rattle.tree_sync.specs.Running.{Running}
use Rattle.step_plans.specs.Plans.{Out}
use Rattle.step_plans.specs.Saved.{bare}
use Rattle.peer_refinement.proofs.SyncStaying.{version_stays}
use Rattle.protocol_laws.proofs.Maps.{put_here, put_other}
use Rattle.phase_rows.specs.declared.phase.Then.TheVariants as thens
use Rattle.step_refinement.proofs.CallByCall.{rest_task}
use Rattle.step_refinement.specs.Scenes.{Scene, Reached, state_before, now, Elsewhere, AtRest}
use Rattle.step_refinement.proofs.Stretches.{elsewhere_then, owed_both, role_here, role_replaced}
use Rattle.step_refinement.proofs.LaterStates.{phase_stays, sends_stay}
use Rattle.step_refinement.proofs.ShownMaps.{tree_stays}
use Rattle.step_refinement.proofs.PhaseRoles.{part_stands, PhaseStands, untrusted_stands}
use Rattle.step_refinement.specs.Peers.{TreeHolds, SealFits, PhaseFits, IsAtRest, SendFits, SyncFits}
use Rattle.step_refinement.specs.Roles.{role_in, said_in_sends}

-- the step leaves all others as they were
pub elsewhere_lost : (p : ℕ) (s : State) → Elsewhere p s (happens s (Lose p))
elsewhere_lost p s = record {
  ledger = keeps_none s.objects.ledger p;
  map = λ q other. refl;
  visible = λ q other. refl;
  trusted = λ q other. put_other s.objects.trusted p false q other;
  reverted = λ q. refl;
  stays = stay_step s (Lose p) (tt, tt);
  calls = refl;
  called = refl;
  answers = refl;
  answered = refl;
  now = refl;
}

-- the run goes on with it
abbrev pub lost : (c : Scene) → Reached c → Reached c
lost c r = record {
  steps = Lose c.peer ∷ r.steps;
  run = (r.run, (tt, tt));
  ghosts = r.ghosts;
  hash = r.hash;
  elsewhere = elsewhere_then c.peer (state_before c) (now c r) (happens (now c r) (Lose c.peer)) r.elsewhere (elsewhere_lost c.peer (now c r));
  orderly = r.orderly;
  acks = λ v q fits acked. version_stays (now c r) (happens (now c r) (Lose c.peer)) c.strings (stay_step (now c r) (Lose c.peer) (tt, tt)) v (r.acks v q fits acked);
}

module _ (c : Scene) where
  open c use {lines, version, view, strings, peer as p}

  -- what holds of the running peer, without a task at hand, but for the trust in its tree and its sync
  pub record Nearly (key : List ℕ) (x : PeerState) (h : Held) (out : Out) (notes : List Note) : Type 0 where
    pub reached : Reached c
    pub roles : RolesHold reached.ghosts (now c reached) (put c.roles p (role_in key x.phase (owed_after [] out.answers))) (said_in_sends p out.sends ++ c.said)
    pub peer : PeerHolds (now c reached).objects.ledger p x (bare h.stores.facts.kept)
    pub listed : IsListedPeer lines.voting p x
    pub tree : TreeHolds (now c reached) strings p x.seal h
    pub seal : SealFits lines x.seal
    pub mode : x.mode.tree ≡ version
    pub held : h.stores.tree.version ≡ version
    pub fits : PhaseFits reached.ghosts.hash (now c reached) x.phase
    pub rests : IsAtRest x.phase
    pub noted : (now c reached).book.notes ≡ (state_before c).book.notes ++ notes
    pub sends : All (SendHolds (now c reached).objects.ledger p) out.sends
    pub listed_sends : All (λ (o : Outgoing). IsListedMessage lines.voting o.message) out.sends
    pub fits_sends : All (SendFits version lines (now c reached) strings p) out.sends

  module _ {key : List ℕ} {x : PeerState} {h : Held} {out : Out} {notes : List Note} (near : Nearly key x h out notes) where
    abbrev s : State
    s = now c near.reached

    abbrev u : State
    u = happens s (Lose p)

    -- entries stay when the peer loses its trust
    pub stay : EntriesStay s u
    stay = stay_step s (Lose p) (tt, tt)

    -- it loses the trust in its tree, and runs no sync
    abbrev pub loses : x.trusted ≡ false → x.sync ≡ None → AtRest c key x h out notes
    loses blind none = (
      record {
        reached = lost c near.reached;
        roles = (run_roles view near.reached.steps near.reached.run).silent near.reached.ghosts (put c.roles p (role_in key x.phase (owed_after [] out.answers))) (said_in_sends p out.sends ++ c.said) (Lose p) (tt, tt) tt near.roles;
        peer = near.peer;
        listed = near.listed;
        trust = put_here s.objects.trusted p false ∙ sym blind;
        tree = tree_stays s u strings p x.seal h stay refl refl (λ is. put_here s.objects.trusted p false) near.tree;
        seal = near.seal;
        mode = near.mode;
        held = near.held;
        sync = subst (λ (sync : Option Running). SyncFits version lines u strings p x.fact x.trusted near.tree.last.map h.stores.tree.top sync) (sym none) tt;
        fits = phase_stays near.reached.ghosts.hash s u p x.fact x.phase stay (λ d elected. refl) near.peer.phase near.fits;
        task = rest_task u key x.phase near.rests;
        noted = near.noted;
        sends = near.sends;
        listed_sends = near.listed_sends;
        fits_sends = sends_stay s u strings stay version lines p out.sends near.fits_sends;
      },
      near.rests,
    )

  -- a peer that finds damage: it answers its calls if it led
  module _ {key : List ℕ} {x : PeerState} {h : Held} {out : Out} {notes : List Note} (at : AtRest c key x h out notes) where
    abbrev r : Reached c
    r = at.0.reached

    abbrev owed : List Owed
    owed = owed_after [] out.answers

    stands : PhaseStands view r.steps r.run r.ghosts at.0.roles.turns p key (without_candidacy (stopped_leading x.phase)) (owed_after [] (left_answers true x out).answers)
    stands = subst (PhaseStands view r.steps r.run r.ghosts at.0.roles.turns p key (without_candidacy (stopped_leading x.phase))) (sym (owed_both [] out.answers (timeouts x.phase)))
        (untrusted_stands view r.steps r.run r.ghosts at.0.roles.turns p key x.phase owed
        (part_stands view r.steps r.run r.ghosts at.0.roles.turns p key x.phase owed (role_here r.ghosts (now c r) p (said_in_sends p out.sends ++ c.said) c.roles (role_in key x.phase owed) at.0.roles) at.0.fits at.1))

    nearly : Nearly key (untrusted x) h (left_answers true x out) notes
    nearly = record {
      reached = r;
      roles = role_replaced r.ghosts (now c r) p (said_in_sends p out.sends ++ c.said) c.roles (role_in key x.phase owed) (role_in key (untrusted x).phase (owed_after [] (left_answers true x out).answers)) at.0.roles stands.role;
      peer = (turned_fits thens.Untrust x tt (here view r.steps p c.is_peer r.run r.orderly at.0.peer)).peer;
      listed = listed_untrusted at.0.listed;
      tree = at.0.tree;
      seal = at.0.seal;
      mode = at.0.mode;
      held = at.0.held;
      fits = stands.fits;
      rests = stands.rests;
      noted = at.0.noted;
      sends = at.0.sends;
      listed_sends = at.0.listed_sends;
      fits_sends = at.0.fits_sends;
    }

    -- a peer that finds damage goes on without its trust
    pub untrusts : AtRest c key (untrusted x) h (left_answers true x out) notes
    untrusts = loses nearly refl refl
