-- The peer in mid-step, as a refusal leaves it: it is down, it no longer trusts its tree, and what it
-- would have answered and sent is lost.
use Rattle.std.proofs.Common.{◌≡◌, ℕ, false, List, [], ◌∷◌, ◌++◌, Some, refl, sym, ap, ◌∙◌, subst}
use Rattle.ens_base.proofs.Lists.{in_right}
use Rattle.protocol_laws.specs.Ledger.{put}
use Rattle.protocol_laws.specs.Protocol.{State, Lose, happens}
use Rattle.election_refinement.specs.Listed.{IsListedFact}
use Rattle.election_refinement.specs.Refinement.{IsSaved}
use Rattle.protocol_laws.proofs.Later.{stay_step}
use Rattle.peer_refinement.specs.WorldSpec.{Held}
use Rattle.role_laws.proofs.Roles.{run_roles}
use Rattle.role_laws.specs.Roles.{Role, Follows, RolesHold}
use Rattle.leader_refinement.specs.Seen.{owed_after}
use Rattle.leader_output.specs.declared.out.Outgoing.{Outgoing}
use Rattle.peer_state.specs.declared.state.State.{State as PeerState}
use Rattle.register_model.specs.declared.note.Note.{Note}
use Rattle.step_plans.specs.Saved.{bare, kept_seal}
use Rattle.role_laws.specs.Kept.{IsSealed}
use Rattle.step_plans.specs.Plans.{Out}
use Rattle.peer_refinement.specs.Tops.{tops_of}
use Rattle.peer_refinement.specs.Trees.{AreAmong}
use Rattle.protocol_laws.proofs.Maps.{put_here}
use Rattle.step_refinement.specs.Scenes.{Scene, Reached, state_before, now, Here, Rests}
use Rattle.step_refinement.proofs.LostTrust.{lost}
use Rattle.step_refinement.proofs.Stretches.{role_once, roles_same}
use Rattle.step_refinement.proofs.ShownMaps.{last_over, last_stays, last_under, last_sealed}
use Rattle.step_refinement.specs.Peers.{LastMap, SealFits}
use Rattle.step_refinement.specs.Roles.{said_in_sends, role_in}

module _ (c : Scene) where
  open c use {lines, view, strings, peer as p}

  -- what is left of a peer in mid-step once a call is refused: the run, the role, the saved fact and the
  -- notes
  pub record Halts (x : PeerState) (notes : List Note) : Type 0 where
    pub reached : Reached c
    pub role : Role
    pub sends : List Outgoing
    pub roles : RolesHold reached.ghosts (now c reached) (put c.roles p role) (said_in_sends p sends ++ c.said)
    pub saved : IsSaved (now c reached).objects.ledger p x.fact
    pub listed : IsListedFact lines.voting x.fact
    pub noted : (now c reached).book.notes ≡ (state_before c).book.notes ++ notes

  -- a peer in agreement may halt
  abbrev pub halts_here : {key : List ℕ} {x : PeerState} {h : Held} {out : Out} {notes : List Note} → Here c key x h out notes → Halts x notes
  halts_here {key} {x} {h} {out} {notes} here = record {
    reached = here.reached;
    role = role_in key x.phase (owed_after [] out.answers);
    sends = out.sends;
    roles = here.roles;
    saved = here.peer.saved;
    listed = here.listed.fact;
    noted = here.noted;
  }

  -- the peer is down over stores that keep this fact, and the map that the peer wrote last
  pub rests_down : {x : PeerState} {notes : List Note} → (was : Halts x notes) → (t : Held) → bare t.stores.facts.kept ≡ Some x.fact → SealFits lines (kept_seal t.stores.facts.kept) → LastMap (now c was.reached) strings t.hashed p (kept_seal t.stores.facts.kept) (tops_of t.stores) → Rests c t notes
  rests_down {x} {notes} was t kept seal last = record {
    reached = lost c was.reached;
    roles = roles_same was.reached.ghosts u (put c.roles p (Follows [])) (put c.roles p (Follows [])) (said_in_sends p was.sends ++ c.said) c.said (λ q. refl) (λ w i. in_right (said_in_sends p was.sends) c.said w i)
        (role_once was.reached.ghosts u p (said_in_sends p was.sends ++ c.said) c.roles was.role (Follows [])
        ((run_roles view (Lose p ∷ was.reached.steps) (was.reached.run, (tt, tt))).peer was.reached.ghosts (put c.roles p was.role) (said_in_sends p was.sends ++ c.said) p roles_on).stops);
    down = record {
      fact = x.fact;
      kept = kept;
      saved = was.saved;
      listed = was.listed;
      seal = seal;
      blind = put_here s.objects.trusted p false;
      last = last_stays strings p s u t.hashed (kept_seal t.stores.facts.kept) (tops_of t.stores) (stay_step s (Lose p) (tt, tt)) refl refl last;
    };
    noted = was.noted;
  }
    where
      s : State
      s = now c was.reached

      u : State
      u = happens s (Lose p)

      roles_on : RolesHold was.reached.ghosts u (put c.roles p was.role) (said_in_sends p was.sends ++ c.said)
      roles_on = (run_roles view was.reached.steps was.reached.run).silent was.reached.ghosts (put c.roles p was.role) (said_in_sends p was.sends ++ c.said) (Lose p) (tt, tt) tt was.roles

  -- over stores that keep the same fact and the same top records
  pub rests_over : {key : List ℕ} {x : PeerState} {h : Held} {out : Out} {notes : List Note} → Here c key x h out notes → (t : Held) → t.stores.facts.kept ≡ h.stores.facts.kept → tops_of t.stores ≡ tops_of h.stores → AreAmong h.hashed t.hashed → Rests c t notes
  rests_over {key} {x} {h} {out} {notes} here t same tops among =
      rests_down (halts_here here) t (ap bare same ∙ here.peer.kept) (subst (SealFits lines) (sym (ap kept_seal same ∙ here.tree.sealed)) here.seal)
      (last_under strings p (now c here.reached) t.hashed x.seal (kept_seal t.stores.facts.kept) (tops_of t.stores) (ap kept_seal same ∙ here.tree.sealed)
      (last_over strings p (now c here.reached) h.hashed t.hashed x.seal (tops_of h.stores) (tops_of t.stores) among tops here.tree.last))

  -- over stores that keep the same fact with a seal, whatever their top records are
  pub rests_sealed : {key : List ℕ} {x : PeerState} {h : Held} {out : Out} {notes : List Note} → Here c key x h out notes → (t : Held) → t.stores.facts.kept ≡ h.stores.facts.kept → AreAmong h.hashed t.hashed → IsSealed x.seal → Rests c t notes
  rests_sealed {key} {x} {h} {out} {notes} here t same among sealed =
      rests_down (halts_here here) t (ap bare same ∙ here.peer.kept) (subst (SealFits lines) (sym (ap kept_seal same ∙ here.tree.sealed)) here.seal)
      (last_under strings p (now c here.reached) t.hashed x.seal (kept_seal t.stores.facts.kept) (tops_of t.stores) (ap kept_seal same ∙ here.tree.sealed)
      (last_sealed strings p (now c here.reached) h.hashed t.hashed x.seal (tops_of h.stores) (tops_of t.stores) sealed among here.tree.last))
