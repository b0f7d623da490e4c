-- Where the peers of a calm run stand, and to whom a message to all other members goes.
use Rattle.std.proofs.Common.{◌≡◌, ◌≤◌, ◌==◌, ◌&&◌, refl, ap, sym, ◌∙◌, subst, arith, ℕ, Bool, true, false, not, List, [], ◌∷◌, map, Option, Some}
use Rattle.std.specs.Prelude.{◌≢◌, slice_get}
use Rattle.std.proofs.lemmas.Bool.{and_parts, eqb-true, eqb-false, false≢true}
use Rattle.ens_base.proofs.Lists.{tested_in, in_tested}
use Rattle.ens_base.specs.Lists.{◌∈◌, is_in}
use Rattle.ens_base.specs.PeerSet.{holds}
use Rattle.ens_base.specs.View.{IsPeer}
use Rattle.ens_base.specs.declared.entry.Entry.{Entry}
use Rattle.calm_step_laws.specs.WorldSpec.{Held, HeldStores, held_with}
use Rattle.quorums.specs.Members.{members}
use Rattle.quorums.specs.Quorums.{is_member}
use Rattle.leader_output.specs.declared.out.Outgoing.{Outgoing}
use Rattle.stored_formats.specs.declared.fact.Fact.{Fact}
use Rattle.peer_state.specs.declared.state.State.{State}
use Rattle.phase_rows.specs.Peers.{others_of}
use Rattle.register_model.specs.declared.note.Note.{Note}
use Rattle.step_plans.specs.Calls.{Save}
use Rattle.step_plans.specs.Plans.{Out}
use Rattle.step_plans.specs.Sends.{posted_to}
use Rattle.step_plans.specs.Saved.{with_seal}
use Rattle.calm_step_laws.specs.PeerRefinement.{AreAmong, IsWhole}
use Rattle.wire_frames.specs.declared.frame.Frame.{Frame}
use Rattle.wire_frames.specs.declared.message.Message.{Message}
use Rattle.world_refinement.specs.WorldSpec.{Up, Run, place_of, frame_from}
use Rattle.world_refinement.proofs.ChangedNodes.{set_same, set_other}
use Rattle.calm_step_laws.proofs.Keeping.{Keeping, Standing}
use Rattle.calm_step_laws.proofs.RowsLand.{held_under}
use Rattle.calm_step_laws.proofs.TreeCalls.{keeps, serves}
use Rattle.calm_step_laws.proofs.PeerSpec.{those_at}
use Rattle.calm_laws.proofs.Parts.{places_apart}
use Rattle.calm_laws.proofs.Posting.{frame_sent, posted_only, posted_high, told_each}
use Rattle.calm_laws.proofs.Worlds.{moved, whole_grows}

-- peer q is in this state, with some seal and mode, over stores whose tree is whole and shows this map
pub record Stands (w : Run) (q : ℕ) (x : Standing) (m : List Entry) : Type 0 where
  pub keep : Keeping
  pub stores : HeldStores
  pub at : slice_get w.nodes (place_of q) ≡ Some (Up (x keep) stores)
  pub whole : IsWhole (held_with stores w.hashed) m

-- a saved fact leaves the tree whole
pub whole_saved : (seal : Option (List ℕ)) (fact : Fact) (h : Held) (m : List Entry) → IsWhole h m → IsWhole (held_under seal (Some fact) h) m
whole_saved seal fact h m whole = subst (λ g. IsWhole g m) (ap (λ a. a.held) (serves (Save (with_seal seal fact)) h whole.no_faults)) (keeps (Save (with_seal seal fact)) h m tt whole)

module _ (p : ℕ) (y : Standing) (keep : Keeping) (g : Held) (out : Out) (ms : List Note) (w : Run) where
  -- the peer that took the step
  pub stands_here : (x : State) (s : HeldStores) (m : List Entry) → slice_get w.nodes (place_of p) ≡ Some (Up x s) → IsWhole g m → Stands (moved p (y keep) g out ms w) p y m
  stands_here x s m at whole = record { keep = keep; stores = g.stores; at = set_same w.nodes (place_of p) (Up (y keep) g.stores) (Up x s) at; whole = whole }

  -- and any other peer
  pub stands_other : (q : ℕ) (x : Standing) (m : List Entry) → IsPeer p → IsPeer q → q ≢ p → AreAmong w.hashed g.hashed → Stands w q x m → Stands (moved p (y keep) g out ms w) q x m
  stands_other q x m pp qq other grown s = record {
    keep = s.keep;
    stores = s.stores;
    at = set_other w.nodes (place_of p) (place_of q) (Up (y keep) g.stores) (places_apart p q pp qq (λ same. other (sym same))) ∙ s.at;
    whole = whole_grows s.stores w.hashed g.hashed m grown s.whole;
  }

-- ## Messages to all other members

pub not_itself : (q p : ℕ) → q ≢ p → not (q == p) ≡ true
not_itself q p other = by (q == p) refl where
  by : (b : Bool) → (q == p) ≡ b → not b ≡ true
  by false same = refl
  by true same = absurd (other (eqb-true q p same))

module _ (me : ℕ) (view : List ℕ) (peers : (q : ℕ) → q ∈ view → IsPeer q) where
  abbrev pub IsOther : ℕ → Type 0
  IsOther q = (q ∈ view) × (q ≢ me)

  others_hold : (q : ℕ) → IsPeer q → holds (others_of me (members (view ∷ []))) q ≡ (is_member (view ∷ []) q && not (q == me))
  others_hold q peer = those_at (λ p. holds (members (view ∷ [])) p && not (p == me)) q peer ∙ ap (λ b. b && not (q == me)) (those_at (is_member (view ∷ [])) q peer)

  -- each other member gets the message
  pub goes_to_all : (message : Message) (q : ℕ) → IsOther q → (let f : Frame = record { from = me; to = q; message = message } in f) ∈ map (frame_from me) (posted_to (others_of me (members (view ∷ []))) (Some message))
  goes_to_all message q other =
      frame_sent me q (others_of me (members (view ∷ []))) message (peers q other.0) (others_hold q (peers q other.0) ∙ rw (tested_in view q other.0, not_itself q me other.1) refl)

  -- and nobody else
  pub record IsToOther (sent : Message) (f : Frame) : Type 0 where
    pub from : f.from ≡ me
    pub to : IsOther f.to
    pub message : f.message ≡ sent

  is_other : (q : ℕ) → (is_member (view ∷ []) q && not (q == me)) ≡ true → IsOther q
  is_other q passes = (listed (is_in view q) refl, differs (q == me) refl) where
    parts : (is_member (view ∷ []) q ≡ true) × (not (q == me) ≡ true)
    parts = and_parts (is_member (view ∷ []) q) (not (q == me)) passes

    listed : (b : Bool) → is_in view q ≡ b → q ∈ view
    listed true is = in_tested view q is
    listed false is = absurd (false≢true (sym (rw is refl) ∙ parts.0))

    differs : (b : Bool) → (q == me) ≡ b → q ≢ me
    differs false is = eqb-false q me is
    differs true is = absurd (false≢true (sym (rw is refl) ∙ parts.1))

  pub goes_to_others : (message : Message) (f : Frame) → f ∈ map (frame_from me) (posted_to (others_of me (members (view ∷ []))) (Some message)) → IsToOther message f
  goes_to_others message f is = told_each (λ g. IsToOther message g) me (posted_to (others_of me (members (view ∷ []))) (Some message)) f each is where
    each : (x : Outgoing) → x ∈ posted_to (others_of me (members (view ∷ []))) (Some message) → IsToOther message (frame_from me x)
    each x at =
        let it = posted_only (holds (others_of me (members (view ∷ [])))) (λ k. message) 31 x at in
        let high : x.to ≤ 31 = posted_high (holds (others_of me (members (view ∷ [])))) (λ k. message) 31 x at in
        record { from = refl; to = is_other x.to (sym (others_hold x.to (it.low, omega (arith, high))) ∙ it.tested); message = it.message }
